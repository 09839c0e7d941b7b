use Rattle.std.proofs.Common.{◌≡◌, ◌+◌, ◌*◌, drop}
use Rattle.std.specs.List.{list_any, list_all}
use denote.Param.Weighed.{most}
use Rattle.jp_compiled.specs.declared.query.CompiledLogical.{size-CompiledLogical}
use Rattle.jp_doc.specs.Location.{Location, node}
use Rattle.jp_node.specs.Part.{part_value}
use Rattle.jp_eval.specs.inner.Base.{base_of}
use Rattle.jp_eval.specs.inner.Walk.{is_true}
use Rattle.jp_eval.proofs.local.+decided.Given as goal

-- the size of the expressions, then the rank of the function
abbrev pub decreases-decided : goal.decreases-decided
decreases-decided l = 2 * size-CompiledLogical l.test.now

abbrev pub decreases-any_decided : goal.decreases-any_decided
decreases-any_decided l = 2 * most size-CompiledLogical l.parts.now + 1

abbrev pub decreases-all_decided : goal.decreases-all_decided
decreases-all_decided l = 2 * most size-CompiledLogical l.parts.now + 1

abbrev pub invariant-any_decided-loop-part : goal.invariant-any_decided-loop-part
invariant-any_decided-loop-part l = (at : Location)
    → list_any (λ p. is_true (base_of l.context) p (node at (part_value l.value))) (drop l.part-index l.parts)
    ≡ list_any (λ p. is_true (base_of l.context) p (node at (part_value l.value))) l.parts

abbrev pub invariant-all_decided-loop-part : goal.invariant-all_decided-loop-part
invariant-all_decided-loop-part l = (at : Location)
    → list_all (λ p. is_true (base_of l.context) p (node at (part_value l.value))) (drop l.part-index l.parts)
    ≡ list_all (λ p. is_true (base_of l.context) p (node at (part_value l.value))) l.parts
