use Rattle.std.proofs.Common.{◌≡◌, ◌↔◌, [], ◌++◌, sym, ap, ◌∙◌, subst, true≢false, append-nil}
use Rattle.std.specs.Str.{chars}
use Rattle.std.specs.Str.Iter.{chars_rest}
use Rattle.jp_automaton.specs.Held.{pattern_of}
use Rattle.jp_pattern.specs.Language.{Member}
use Rattle.jp_pattern.specs.Pattern.{Text}
use Rattle.jp_automaton.specs.Terms.{IsLeft, pattern_read_by, positions_of}
use Rattle.jp_pattern.specs.Unrolled.{SomePositionHas}
use Rattle.jp_automaton.proofs.FindLemmas.{reading_first, reading_more, reading_end, all_left, none_left}
use Rattle.jp_automaton.proofs.FindLemmas.{match_more}
use Rattle.jp_automaton.proofs.pattern.Pattern.matches_by_positions.Goals as goal

pub loop-c-init : goal.loop-c-init
loop-c-init c =
    let terms = c.in_ok-terms.terms in
    let p = pattern_of c.args.self.now in
    let here : (u : Text) → IsLeft terms u ↔ Member p u =
    subst (λ q. (u : Text) → SomePositionHas q (positions_of terms) u ↔ Member p u)
    (sym c.in_ok-terms.ensures.pattern)
    (subst (λ ps. (u : Text) → SomePositionHas p ps u ↔ Member p u) (sym c.in_ok-terms.ensures.positions)
    (all_left p)) in
    let begins : chars_rest c.into_iter-c-iterator.result ≡ c.args.text.now =
    ap chars_rest c.into_iter-c-iterator.ensures.into_iter_gives ∙ c.chars-c-items.ensures.rest in
    let reading = reading_first c.args.text.now c.into_iter-c-iterator.result c.utf8.text begins in
    (c.in_ok-terms.ensures.pattern, here, reading)

pub loop-c-preserved : goal.loop-c-preserved
loop-c-preserved c =
    let kept = c.loop-c.invariant in (
      c.step.ensures.pattern ∙ kept.0,
      match_more (pattern_of c.args.self.now) (IsLeft c.loop-c.terms) (IsLeft c.step.new.self)
          (Member (pattern_read_by c.loop-c.terms))
          c.loop-c.yielded c.in-Some.c kept.1 c.in_ok-step.ensures.ok,
      reading_more (chars c.args.text.now) c.loop-c.yielded c.loop-c.c-iterator c.next.new.self kept.2
          c.in-Some.c c.in-Some.ensures.steps,
    )

pub returns-then-is_empty : goal.returns-then-is_empty
returns-then-is_empty c =
    let kept = c.loop-c.invariant in
    let p = pattern_of c.args.self.now in
    let new = c.step.new.self in
    let more = match_more p (IsLeft c.loop-c.terms) (IsLeft new) (Member (pattern_read_by c.loop-c.terms))
    c.loop-c.yielded c.in-Some.c kept.1 c.in_ok-step.ensures.ok in
    let reading = reading_more (chars c.args.text.now) c.loop-c.yielded c.loop-c.c-iterator c.next.new.self
    kept.2 c.in-Some.c c.in-Some.ensures.steps in
    let none : positions_of new ≡ [] = c.is_empty.ensures.0 c.if-is_empty.true in (
      λ h. absurd (true≢false (sym h)),
      λ m. absurd (none_left (pattern_read_by new) reading.rest
          (subst (λ ps. SomePositionHas (pattern_read_by new) ps reading.rest) none
          ((more reading.rest).1 (subst (Member p) reading.splits m)))),
    )

pub returns : goal.returns
returns c =
    let kept = c.loop-c.invariant in
    let p = pattern_of c.args.self.now in
    let whole = reading_end (chars c.args.text.now) c.loop-c.yielded c.loop-c.c-iterator c.next.new.self
    kept.2 c.in-None.ensures.steps in
    let same : c.loop-c.yielded ++ [] ≡ chars c.args.text.now = append-nil c.loop-c.yielded ∙ sym whole in (
      λ h. subst (Member p) same ((kept.1 []).0 (c.accepts.ensures.0 h)),
      λ m. c.accepts.ensures.1 ((kept.1 []).1 (subst (Member p) (sym same) m)),
    )
