use Rattle.std.proofs.Common.{rules, arith, w64, pos, ◌-ℤ◌}
use mir.Val.{SFits}
use Rattle.std.proofs.lemmas.Int.{ints, to_z-of_z}
use Rattle.jp_node.proofs.Positions.{falling_is, rising_is}
use Rattle.jp_node.proofs.bounds.slice_bounds.Goals as goal

pub returns-then-step-lt0 : goal.returns-then-step-lt0
returns-then-step-lt0 c =
    let n : SFits w64 c.from-last.result = search rules in
    let m : SFits w64 (c.from-last.result -ℤ pos 1) = omega (arith, ints) in
    let k : SFits w64 (pos 0 -ℤ c.from-last.result) = omega (arith, ints) in
    let j : SFits w64 ((pos 0 -ℤ c.from-last.result) -ℤ pos 1) = omega (arith, ints) in
    let s : SFits w64 c.unwrap_or-step.result = search rules in
    let l : SFits w64 c.bound-lower.result = search rules in
    let u : SFits w64 c.bound-upper.result = search rules in
    let below = simp to_z-of_z at c.if-step-lt0.true in
    let lower = simp to_z-of_z at c.bound-lower.ensures in
    let upper = simp to_z-of_z at c.bound-upper.ensures in
    rw (
      to_z-of_z w64 c.bound-lower.result l,
      to_z-of_z w64 c.bound-upper.result u,
      to_z-of_z w64
          c.unwrap_or-step.result s,
    )
    (falling_is c.args.start c.args.end c.args.step c.args.len c.from-last.result c.unwrap_or-step.result
    c.bound-lower.result c.bound-upper.result c.from-last.ensures c.unwrap_or-step.ensures below lower
    upper)

pub returns-else-step-lt0 : goal.returns-else-step-lt0
returns-else-step-lt0 c =
    let n : SFits w64 c.from-last.result = search rules in
    let s : SFits w64 c.unwrap_or-step.result = search rules in
    let l : SFits w64 c.bound-lower-else-step-lt0.result = search rules in
    let u : SFits w64 c.bound-upper-else-step-lt0.result = search rules in
    let above = simp to_z-of_z at c.if-step-lt0.false in
    let lower = simp to_z-of_z at c.bound-lower-else-step-lt0.ensures in
    let upper = simp to_z-of_z at c.bound-upper-else-step-lt0.ensures in
    rw (
      to_z-of_z w64 c.bound-lower-else-step-lt0.result l,
      to_z-of_z w64
          c.bound-upper-else-step-lt0.result u,
      to_z-of_z w64 c.unwrap_or-step.result s,
    )
    (rising_is c.args.start c.args.end c.args.step c.args.len c.from-last.result c.unwrap_or-step.result
    c.bound-lower-else-step-lt0.result c.bound-upper-else-step-lt0.result c.from-last.ensures
    c.unwrap_or-step.ensures above lower upper)
