use Rattle.std.proofs.Common.{rules, map, sym, ap, ◌∙◌, subst}
use Rattle.std.specs.List.{list_any}
use Rattle.std.specs.List.Sorted.{IsNonDecreasingBy}
use Rattle.std.proofs.lemmas.List.Sorted.{IsNonDecreasingBy-from_sort_by_key, list_any-IsPermutation}
use Rattle.std.proofs.lemmas.List.Sorted.{IsPermutation-map}
use Rattle.jp_pattern.specs.CharSets.{in_element}
use Rattle.jp_automaton.specs.Letters.{span_element}
use Rattle.jp_automaton.specs.inner.SpanOrder.{first_of, last_of}
use Rattle.jp_automaton.specs.inner.Spans.{widen}
use Rattle.jp_automaton.proofs.SpanLemmas.{widened_firsts, widened_lasts, widened_same}
use Rattle.jp_automaton.proofs.classes.in_order.Goals as goal

pub returns-clause-firsts : goal.returns-clause-firsts
returns-clause-firsts c =
    let made = c.in_ok-widened.ensures ∙ ap (widen 0) c.deref.ensures.value in
    subst (λ xs. IsNonDecreasingBy first_of xs) (sym made) (widened_firsts c.sort_by_key.new.self.items
    (IsNonDecreasingBy-from_sort_by_key first_of _ c.in_ok-sort_by_key.ensures.sorted
    (λ a r q k. search rules)))

pub returns-clause-lasts : goal.returns-clause-lasts
returns-clause-lasts c =
    let made = c.in_ok-widened.ensures ∙ ap (widen 0) c.deref.ensures.value in
    subst (λ xs. IsNonDecreasingBy last_of xs) (sym made) (widened_lasts c.sort_by_key.new.self.items
    (IsNonDecreasingBy-from_sort_by_key first_of _ c.in_ok-sort_by_key.ensures.sorted
    (λ a r q k. search rules)))

pub returns-clause-same : goal.returns-clause-same
returns-clause-same c = λ x.
    let made = c.in_ok-widened.ensures ∙ ap (widen 0) c.deref.ensures.value in
    ap (λ xs. list_any (in_element x) (map span_element xs)) made
    ∙ widened_same c.sort_by_key.new.self.items
    (IsNonDecreasingBy-from_sort_by_key first_of _ c.in_ok-sort_by_key.ensures.sorted
    (λ a r q k. search rules)) x
    ∙ sym (list_any-IsPermutation (in_element x) _ _
    (IsPermutation-map span_element _ _ c.in_ok-sort_by_key.ensures.permutation))
