use Rattle.std.proofs.Common.{◌≡◌, ◌⊎◌, ◌↔◌, IsTrue, [], ◌∷◌, true, refl, sym, ap, ◌∙◌, subst, true≢false}
use Rattle.std.proofs.Common.{append-nil}
use Rattle.std.specs.Str.{chars}
use Rattle.std.specs.Str.Iter.{chars_rest}
use Rattle.jp_automaton.specs.Held.{pattern_of}
use Rattle.jp_pattern.specs.Language.{Member}
use Rattle.jp_pattern.specs.Pattern.{Text}
use Rattle.jp_automaton.specs.Terms.{IsLeft, pattern_read_by, positions_of}
use Rattle.jp_pattern.specs.Unrolled.{SomePositionHas}
use Rattle.jp_automaton.proofs.FindLemmas.{reading_first, reading_more, reading_end, all_left, began_first}
use Rattle.jp_automaton.proofs.FindLemmas.{no_part_first, find_more, no_part_more, began_found, found_began}
use Rattle.jp_automaton.proofs.FindLemmas.{skip_left, not_at_first, first_left}
use Rattle.jp_automaton.proofs.ProfileLemmas.{kept_profile}
use Rattle.jp_automaton.proofs.pattern.Pattern.found_by_positions.Goals as goal

pub loop-c-init : goal.loop-c-init
loop-c-init c =
    let terms = c.in_ok-terms.terms in
    let p = pattern_of c.args.self.now in
    let here : (u : Text) → IsLeft terms u ↔ Member p u =
    subst (λ q. (u : Text) → SomePositionHas q (positions_of terms) u ↔ Member p u)
    (sym c.in_ok-terms.ensures.pattern)
    (subst (λ ps. (u : Text) → SomePositionHas p ps u ↔ Member p u) (sym c.in_ok-terms.ensures.positions)
    (all_left p)) in
    let begins : chars_rest c.into_iter-c-iterator.result ≡ c.args.text.now =
    ap chars_rest c.into_iter-c-iterator.ensures.into_iter_gives ∙ c.chars-c-items.ensures.rest in
    let reading = reading_first c.args.text.now c.into_iter-c-iterator.result c.utf8.text begins in (
      c.in_ok-terms.ensures.pattern,
      λ u. (λ h. (began_first p u).0 ((here u).0 h), λ h. (here u).1 ((began_first p u).1 h)),
      no_part_first p,
      reading,
    )

pub loop-c-preserved : goal.loop-c-preserved
loop-c-preserved c =
    let kept = c.loop-c.invariant in
    let p = pattern_of c.args.self.now in
    let old = c.loop-c.terms in
    let new = c.read.new.self in
    let stepped : (t : Text) → IsLeft new t ↔ (IsLeft old (c.in-Some.c ∷ t) ⊎ (IsTrue true × Member p t)) =
    subst (λ q. (t : Text) → IsLeft new t ↔ (IsLeft old (c.in-Some.c ∷ t) ⊎ (IsTrue true × Member q t)))
    kept.0 c.in_ok-read.ensures.ok in (
      c.read.ensures.pattern ∙ kept.0,
      find_more p c.loop-c.yielded c.in-Some.c (IsLeft old) (IsLeft new) kept.1 stepped,
      no_part_more p c.loop-c.yielded c.in-Some.c kept.2
          (λ h. true≢false (sym (c.in_ok-read.ensures.accepted.1 ((kept.1 []).1 h)) ∙ c.if-branch.false)),
      reading_more (chars c.args.text.now) c.loop-c.yielded c.loop-c.c-iterator c.next.new.self kept.3
          c.in-Some.c c.in-Some.ensures.steps,
    )

pub returns-then-branch : goal.returns-then-branch
returns-then-branch c =
    let kept = c.loop-c.invariant in
    let p = pattern_of c.args.self.now in (
      λ h. began_found p (chars c.args.text.now) c.loop-c.yielded kept.3.rest kept.3.splits
          ((kept.1 []).0 (c.in_ok-read.ensures.accepted.0 c.if-branch.true)),
      λ h. refl,
    )

pub returns : goal.returns
returns c =
    let kept = c.loop-c.invariant in
    let p = pattern_of c.args.self.now in
    let text = chars c.args.text.now in
    let whole = reading_end text c.loop-c.yielded c.loop-c.c-iterator c.next.new.self kept.3
    c.in-None.ensures.steps in (
      λ h. began_found p text c.loop-c.yielded [] (whole ∙ sym (append-nil c.loop-c.yielded))
          ((kept.1 []).0 (c.accepts-2.ensures.0 h)),
      λ h. c.accepts-2.ensures.1 ((kept.1 []).1 (found_began p text c.loop-c.yielded whole kept.2 h)),
    )

pub loop-c-preserved-then-not-may_begin : goal.loop-c-preserved-then-not-may_begin
loop-c-preserved-then-not-may_begin c =
    let kept = c.loop-c.invariant in
    let p = pattern_of c.args.self.now in
    let terms = c.loop-c.terms in
    let char = c.in-Some.c in
    let positions : positions_of terms ≡ 0 ∷ [] = c.is_at_start.ensures.0 c.if-is_at_start.true in
    let none = c.may_begin.ensures c.if-not-may_begin.true in (
      kept.0,
      skip_left p (kept_profile p c.args.self.now.in_profile).counts c.loop-c.yielded char
          (pattern_read_by terms) (positions_of terms) kept.0 positions none kept.1,
      no_part_more p c.loop-c.yielded char kept.2
          (λ h. not_at_first p (pattern_read_by terms) (positions_of terms) c.loop-c.yielded kept.0
          positions kept.1
          (λ m. true≢false (sym (c.accepts.ensures.1 (first_left p (pattern_read_by c.in_ok-terms.terms)
          (positions_of c.in_ok-terms.terms)
          c.in_ok-terms.ensures.pattern c.in_ok-terms.ensures.positions m)) ∙ c.if-accepts.false)) h),
      reading_more (chars c.args.text.now) c.loop-c.yielded c.loop-c.c-iterator c.next.new.self kept.3 char
          c.in-Some.ensures.steps,
    )
