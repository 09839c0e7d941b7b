use Rattle.std.proofs.Common.{◌≡◌, [], map, sym, subst, ◌++◌, arith}
use Rattle.jp_pattern.specs.Pattern.{CharSet}
use Rattle.jp_pattern.specs.Tree.{element_of}
use Rattle.jp_automaton.specs.Letters.{span_element}
use Rattle.jp_automaton.specs.declared.candidate.Candidate.TheVariants as candidate
use Rattle.jp_automaton.specs.inner.Equivalence.{EquivalentInSet}
use Rattle.jp_automaton.proofs.EquivalenceLemmas.{class_equivalent, none_of}
use Rattle.jp_automaton.proofs.equivalence.holds_ascii_alone.Goals as goal

pub returns-then-is_empty : goal.returns-then-is_empty
returns-then-is_empty c = λ h.
    let of = c.args.of.now in
    let none : of.categories.items ≡ [] =
    none_of of.categories.items _ c.is_empty.result c.is_empty.ensures c.if-is_empty.true (omega arith) in
    subst (λ xs. EquivalentInSet (CharSet.class of.negated (map span_element of.spans.items
    ++ map element_of xs)) candidate.PastAscii) (sym none)
    (class_equivalent of.negated of.spans.items
    (rw c.deref.ensures.value at (c.are_all_ascii.ensures h)))
