use Rattle.std.proofs.Common.{◌<◌, length, ap, ◌∙◌, arith, true, refl}
use Rattle.jp_automaton.specs.Held.{pattern_of}
use Rattle.jp_automaton.specs.inner.Dfa.{state_behind}
use Rattle.jp_automaton.proofs.ProfileLemmas.{kept_profile, kept_dfa, kept_endings}
use Rattle.jp_automaton.proofs.RunLemmas.{found_at_once, found_by}
use Rattle.jp_automaton.proofs.DfaLemmas.{is_some}
use Rattle.jp_automaton.proofs.pattern.Pattern.found_by_dfa.Goals as goal

pub returns-then-index : goal.returns-then-index
returns-then-index c =
    let self = c.args.self.now in
    let p = pattern_of self in
    let some : 0 < length self.part.states.items = omega
    (arith, is_some _ c.is_empty.result c.is_empty.ensures c.if-is_empty.false) in
    let of = kept_dfa _ true self.part self.part_steps in (
      λ h. found_at_once p (kept_profile p self.in_profile).counts self.part.states.items
          self.part.cells.items _ some of.steps c.index.result.now c.index.ensures c.if-index.true,
      λ h. refl,
    )

pub returns-then-not-may_end : goal.returns-then-not-may_end
returns-then-not-may_end c =
    let self = c.args.self.now in
    let p = pattern_of self in
    let some : 0 < length self.part.states.items = omega
    (arith, is_some _ c.is_empty.result c.is_empty.ensures c.if-is_empty.false) in
    let of = kept_dfa _ true self.part self.part_steps in
    let cells = self.part.cells.items in
    let bytes = c.as_bytes-bytes.result.now in
    let tells = found_by p (kept_profile p self.in_profile).counts self.part.states.items
    cells of.full some c.args.text.now c.utf8.text (state_behind cells 0 bytes)
    (ap (state_behind cells 0) c.as_bytes-bytes.ensures.value)
    of.steps c.index.result.now c.index.ensures c.if-index.false in
    let small : state_behind cells 0 bytes < 254 =
    c.may_end.ensures cells (kept_endings cells self.prefilter.endings self.right_endings)
    c.if-not-may_end.true in (
      λ h. absurd cc,
      λ h. absurd (tells.none small h),
    )

pub returns-in-254 : goal.returns-in-254
returns-in-254 c =
    let self = c.args.self.now in
    let p = pattern_of self in
    let some : 0 < length self.part.states.items = omega
    (arith, is_some _ c.is_empty.result c.is_empty.ensures c.if-is_empty.false) in
    let of = kept_dfa _ true self.part self.part_steps in
    let same = c.part_state.ensures
    ∙ ap (state_behind self.part.cells.items 0) c.as_bytes-bytes.ensures.value in
    let tells = found_by p (kept_profile p self.in_profile).counts self.part.states.items
    self.part.cells.items of.full some c.args.text.now c.utf8.text c.part_state.result same
    of.steps c.index.result.now c.index.ensures c.if-index.false in (
      λ h. tells.found c.in-254.is,
      λ h. refl,
    )

pub returns-in_default : goal.returns-in_default
returns-in_default c =
    let self = c.args.self.now in
    let p = pattern_of self in
    let some : 0 < length self.part.states.items = omega
    (arith, is_some _ c.is_empty.result c.is_empty.ensures c.if-is_empty.false) in
    let of = kept_dfa _ true self.part self.part_steps in
    let same = c.part_state.ensures
    ∙ ap (state_behind self.part.cells.items 0) c.as_bytes-bytes.ensures.value in
    let tells = found_by p (kept_profile p self.in_profile).counts self.part.states.items
    self.part.cells.items of.full some c.args.text.now c.utf8.text c.part_state.result same
    of.steps c.index.result.now c.index.ensures c.if-index.false in
    let small : c.part_state.result < 254 = omega arith in (
      λ h. absurd cc,
      λ h. absurd (tells.none small h),
    )
