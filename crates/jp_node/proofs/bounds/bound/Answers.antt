use Rattle.std.proofs.Common.{rules, w64, ap, ◌∙◌}
use mir.Val.{SFits}
use Rattle.std.proofs.lemmas.Int.{to_z-of_z}
use Rattle.jp_node.specs.Slice.{clamped, normalized}
use Rattle.jp_node.proofs.Positions.{position_or}
use Rattle.jp_node.proofs.bounds.bound.Goals as goal

pub normalized-requires : goal.normalized-requires
normalized-requires c =
    let u : SFits w64 c.unwrap_or.result = search rules in
    let d : SFits w64 c.args.default = c.ranges.default in
    let e = simp to_z-of_z at c.unwrap_or.ensures in
    rw (to_z-of_z w64 c.unwrap_or.result u, e) (position_or c.args.number c.args.default c.requires.number
    c.requires.default)

pub returns : goal.returns
returns c =
    let l : SFits w64 c.args.low = c.ranges.low in
    let h : SFits w64 c.args.high = c.ranges.high in
    let u : SFits w64 c.unwrap_or.result = search rules in
    let n : SFits w64 c.normalized.result = search rules in
    let r : SFits w64 c.clamped.result = search rules in
    let d : SFits w64 c.args.default = c.ranges.default in
    let unwrapped = simp to_z-of_z at c.unwrap_or.ensures in
    let from_end = simp to_z-of_z at c.normalized.ensures in
    let within = simp to_z-of_z at c.clamped.ensures in
    to_z-of_z w64 c.clamped.result r ∙ within ∙ ap (clamped c.args.low c.args.high) (from_end
    ∙ ap (λ z. normalized z c.args.len) unwrapped)
