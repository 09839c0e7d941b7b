use Rattle.std.proofs.Common.{◌≡◌, ◌<◌, length, not, true, false, is_some, Some, arith}
use Rattle.std.proofs.Common.{sym, ap, ◌∙◌}
use Rattle.std.proofs.lemmas.List.{at_drop_all}
use Rattle.std.proofs.lemmas.Option.{IfSome_then}
use Rattle.std.proofs.lemmas.Result.{IfOk-weaker}
use Rattle.std.specs.List.{list_any, list_all}
use Rattle.jp_doc.specs.Json.{text}
use Rattle.jp_doc.specs.Location.{node}
use Rattle.jp_tree.specs.View.{text_of}
use Rattle.jp_node.specs.Part.{part_value}
use Rattle.jp_value.specs.Functions.{tested}
use Rattle.jp_value.specs.RightTests.{tests}
use Rattle.jp_eval.specs.inner.Base.{base_of}
use Rattle.jp_eval.specs.inner.Walk.{is_true}
use Rattle.jp_eval.proofs.CompiledParts.{true_any, true_all, true_not, true_compare, true_test, true_once}
use Rattle.jp_eval.proofs.CompiledParts.{true_match_known, true_search_known}
use Rattle.jp_eval.proofs.Deciding.{some_of, mapped_some}
use Rattle.jp_eval.proofs.WalkSteps.{any_further, any_found, all_further, all_found}
use Rattle.jp_eval.proofs.local.+decided.Goals as goal

pub decided-returns-in-Any : goal.decided-returns-in-Any
decided-returns-in-Any t c =
    let base = base_of c.args.context.now in
    IfOk-weaker c.any_decided.result _ _ (λ o e. IfSome_then o e (λ b f at.
    let n = node at (part_value c.args.value) in
    f at ∙ ap (list_any (λ l. is_true base l n)) c.as_slice.ensures.value
    ∙ sym (ap (λ l. is_true base l n) c.in-Any.is ∙ true_any base n c.in-Any.parts)))
    c.any_decided.ensures

pub decided-returns-in-All : goal.decided-returns-in-All
decided-returns-in-All t c =
    let base = base_of c.args.context.now in
    IfOk-weaker c.all_decided.result _ _ (λ o e. IfSome_then o e (λ b f at.
    let n = node at (part_value c.args.value) in
    f at ∙ ap (list_all (λ l. is_true base l n)) c.as_slice-in-All.ensures.value
    ∙ sym (ap (λ l. is_true base l n) c.in-All.is ∙ true_all base n c.in-All.parts)))
    c.all_decided.ensures

pub decided-returns-in-Some : goal.decided-returns-in-Some
decided-returns-in-Some t c = λ at.
    let base = base_of c.args.context.now in
    let n = node at (part_value c.args.value) in
    let truth = some_of _ _ _ c.in-Some.is c.in_ok-truth-in-Not.ensures at in
    ap not (truth ∙ ap (λ l. is_true base l n) c.deref.ensures) ∙ sym
    (ap (λ l. is_true base l n) c.in-Not.is ∙ true_not base n c.in-Not.part)

pub decided-returns-in-Compare : goal.decided-returns-in-Compare
decided-returns-in-Compare t c =
    let base = base_of c.args.context.now in
    IfOk-weaker c.compare.result _ _ (λ o e. IfSome_then o e (λ b f at.
    let n = node at (part_value c.args.value) in
    f at ∙ sym (ap (λ l. is_true base l n) c.in-Compare.is
    ∙ true_compare base n c.in-Compare.left c.in-Compare.operator c.in-Compare.right)))
    c.compare.ensures

pub decided-returns-in-Some-first_of : goal.decided-returns-in-Some-first_of
decided-returns-in-Some-first_of t c = λ at.
    let base = base_of c.args.context.now in
    let n = node at (part_value c.args.value) in
    c.is_some.ensures ∙ mapped_some part_value c.in-Some-first_of.found
    ∙ ap is_some (sym (c.in-Some-first_of.ensures base at))
    ∙ sym (ap (λ l. is_true base l n) c.in-Test.is ∙ true_test base n c.in-Test.nodes)

pub decided-returns-in_ok-matches_known-in-Some-side : goal.decided-returns-in_ok-matches_known-in-Some-side
decided-returns-in_ok-matches_known-in-Some-side t c = λ at.
    let base = base_of c.args.context.now in
    let n = node at (part_value c.args.value) in
    c.in_ok-matches_known-in-Some-side.ensures
    ∙ ap (λ o. tested tests.is_match o (Some (text (text_of c.in-MatchRead.known.text))))
    (c.in-Some-side.ensures at) ∙ sym (ap (λ l. is_true base l n)
    c.in-MatchRead.is ∙ true_match_known base n c.in-MatchRead.text c.in-MatchRead.known)

pub decided-returns-in_ok-searches_known-in-Some-side-2
    : goal.decided-returns-in_ok-searches_known-in-Some-side-2
decided-returns-in_ok-searches_known-in-Some-side-2 t c = λ at.
    let base = base_of c.args.context.now in
    let n = node at (part_value c.args.value) in
    c.in_ok-searches_known-in-Some-side-2.ensures
    ∙ ap (λ o. tested tests.is_found o (Some (text (text_of c.in-SearchRead.known.text))))
    (c.in-Some-side-2.ensures at) ∙ sym (ap (λ l. is_true base l n)
    c.in-SearchRead.is ∙ true_search_known base n c.in-SearchRead.text c.in-SearchRead.known)

pub decided-returns-in-Once : goal.decided-returns-in-Once
decided-returns-in-Once t c = λ at.
    let base = base_of c.args.context.now in
    let n = node at (part_value c.args.value) in
    c.truth.ensures n ∙ sym (ap (λ l. is_true base l n) c.in-Once.is ∙ true_once base n c.in-Once.slot)

pub any_decided-loop-part-preserved : goal.any_decided-loop-part-preserved
any_decided-loop-part-preserved t c = λ at.
    let base = base_of c.args.context.now in
    let n = node at (part_value c.args.value) in
    let h : c.loop-part.part-index < length c.args.parts.now = omega arith in
    let off : is_true base c.part-item.result n ≡ false =
    sym (some_of _ _ _ c.in-Some.is c.in_ok-truth.ensures at) ∙ c.if-truth.false in
    any_further (λ l. is_true base l n) c.args.parts.now c.loop-part.part-index c.part-item.result h
    c.part-item.is off ∙ c.loop-part.invariant at

pub any_decided-returns : goal.any_decided-returns
any_decided-returns t c = λ at.
    let base = base_of c.args.context.now in
    let n = node at (part_value c.args.value) in
    sym (at_drop_all (list_any (λ l. is_true base l
    n)) c.args.parts.now c.loop-part.part-index (omega arith)) ∙ c.loop-part.invariant at

pub any_decided-returns-then-truth : goal.any_decided-returns-then-truth
any_decided-returns-then-truth t c = λ at.
    let base = base_of c.args.context.now in
    let n = node at (part_value c.args.value) in
    let h : c.loop-part.part-index < length c.args.parts.now = omega arith in
    let on : is_true base c.part-item.result n ≡ true =
    sym (some_of _ _ _ c.in-Some.is c.in_ok-truth.ensures at) ∙ c.if-truth.true in
    sym (any_found (λ l. is_true base l n)
    c.args.parts.now c.loop-part.part-index c.part-item.result h c.part-item.is on)
    ∙ c.loop-part.invariant at

pub all_decided-loop-part-preserved : goal.all_decided-loop-part-preserved
all_decided-loop-part-preserved t c = λ at.
    let base = base_of c.args.context.now in
    let n = node at (part_value c.args.value) in
    let h : c.loop-part.part-index < length c.args.parts.now = omega arith in
    let on : is_true base c.part-item.result n ≡ true =
    sym (some_of _ _ _ c.in-Some.is c.in_ok-truth.ensures at) ∙ c.if-not-truth.false in
    all_further (λ l. is_true base l n) c.args.parts.now c.loop-part.part-index c.part-item.result h
    c.part-item.is on ∙ c.loop-part.invariant at

pub all_decided-returns : goal.all_decided-returns
all_decided-returns t c = λ at.
    let base = base_of c.args.context.now in
    let n = node at (part_value c.args.value) in
    sym (at_drop_all (list_all (λ l. is_true base l
    n)) c.args.parts.now c.loop-part.part-index (omega arith)) ∙ c.loop-part.invariant at

pub all_decided-returns-then-not-truth : goal.all_decided-returns-then-not-truth
all_decided-returns-then-not-truth t c = λ at.
    let base = base_of c.args.context.now in
    let n = node at (part_value c.args.value) in
    let h : c.loop-part.part-index < length c.args.parts.now = omega arith in
    let off : is_true base c.part-item.result n ≡ false =
    sym (some_of _ _ _ c.in-Some.is c.in_ok-truth.ensures at) ∙ c.if-not-truth.true in
    sym (all_found (λ l. is_true base l n)
    c.args.parts.now c.loop-part.part-index c.part-item.result h c.part-item.is off)
    ∙ c.loop-part.invariant at
