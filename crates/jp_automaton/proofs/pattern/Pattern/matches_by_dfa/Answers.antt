use Rattle.std.proofs.Common.{◌≡◌, ◌<◌, length, false, slice_index_or, ap, sym, ◌∙◌, true≢false, subst, arith}
use Rattle.std.proofs.lemmas.Grind.{common_steps}
use Rattle.jp_automaton.specs.Held.{pattern_of}
use Rattle.jp_automaton.specs.inner.Dfa.{state_behind}
use Rattle.jp_automaton.proofs.ProfileLemmas.{kept_profile, kept_dfa}
use Rattle.jp_automaton.proofs.RunLemmas.{member_by}
use Rattle.jp_automaton.proofs.DfaLemmas.{is_some}
use Rattle.jp_automaton.proofs.pattern.Pattern.matches_by_dfa.Goals as goal

pub index-requires : goal.index-requires
index-requires c =
    let self = c.args.self.now in
    let p = pattern_of self in
    let some : 0 < length self.whole.states.items = omega
    (arith, is_some _ c.is_empty.result c.is_empty.ensures c.if-is_empty.false) in
    let of = kept_dfa _ false self.whole self.whole_steps in
    let same = c.behind.ensures ∙ ap (state_behind self.whole.cells.items 0) c.as_bytes.ensures.value in
    let tells = member_by p (kept_profile p self.in_profile).counts self.whole.states.items
    self.whole.cells.items of.full some c.args.text.now c.utf8.text c.behind.result same of.steps in
    let small : c.behind.result < 254 = omega arith in
    omega (arith, tells.within small)

pub returns-in-254 : goal.returns-in-254
returns-in-254 c =
    let self = c.args.self.now in
    let p = pattern_of self in
    let some : 0 < length self.whole.states.items = omega
    (arith, is_some _ c.is_empty.result c.is_empty.ensures c.if-is_empty.false) in
    let of = kept_dfa _ false self.whole self.whole_steps in
    let same = c.behind.ensures ∙ ap (state_behind self.whole.cells.items 0) c.as_bytes.ensures.value in
    let tells = member_by p (kept_profile p self.in_profile).counts self.whole.states.items
    self.whole.cells.items of.full some c.args.text.now c.utf8.text c.behind.result same of.steps in (
      λ h. absurd (true≢false (sym h)),
      λ m. absurd (tells.refused c.in-254.is m),
    )

pub returns-in_default : goal.returns-in_default
returns-in_default c =
    let self = c.args.self.now in
    let p = pattern_of self in
    let some : 0 < length self.whole.states.items = omega
    (arith, is_some _ c.is_empty.result c.is_empty.ensures c.if-is_empty.false) in
    let of = kept_dfa _ false self.whole self.whole_steps in
    let same = c.behind.ensures ∙ ap (state_behind self.whole.cells.items 0) c.as_bytes.ensures.value in
    let tells = member_by p (kept_profile p self.in_profile).counts self.whole.states.items
    self.whole.cells.items of.full some c.args.text.now c.utf8.text c.behind.result same of.steps in
    let s = c.index.result.now in
    let small : c.behind.result < 254 = omega arith in
    let at : s ≡ slice_index_or self.whole.states.items c.behind.result s =
    subst (λ n. s ≡ slice_index_or self.whole.states.items n s) c.from.ensures c.index.ensures in
    let accepts = tells.accepts s small in (
      λ h. accepts.0 (ap (λ x. x.accepts) (sym at) ∙ h),
      λ m. ap (λ x. x.accepts) at ∙ accepts.1 m,
    )

pub returns-then-is_empty : goal.returns-then-is_empty
returns-then-is_empty c = grind (arith, common_steps)

pub returns-in-255 : goal.returns-in-255
returns-in-255 c = grind (arith, common_steps)
