use Rattle.std.proofs.Common.{◌≡◌, ◌+◌, ◌-◌, ◌/◌, ◌^◌, ◌∙◌, sym, ap, map, length, arith}
use Rattle.std.specs.Simd.Lanes.{mask_l}
use Rattle.json.specs.Run.{is_stop}
use lib.Count.{count_trailing_zeros}
use lib.Lanes.{chunk}
use Rattle.jp_flat_nodes.proofs.Vectors.{shifted_mask, none_stops, first_stop, plain_within, none_behind}
use Rattle.jp_flat_nodes.proofs.bytes.plain_end_in_last.Goals as goal

pub returns-then-found-ne0-clause-value : goal.returns-then-found-ne0-clause-value
returns-then-found-ne0-clause-value c =
    let line = c.args.line.now in
    let from = c.args.from in
    let last = length line - 16 in
    let n = from - last in
    let is : c.stops.result / 2 ^ n ≡ mask_l (map is_stop (chunk from (16 - n) line)) =
    ap (λ m. m / 2 ^ n) c.stops.ensures
    ∙ shifted_mask line from last n (omega (arith, c.requires)) (omega (arith, c.requires))
    c.requires.left.0 in
    let first = first_stop line from (16 - n) (omega (arith, c.requires)) (omega arith)
    (omega (arith, is, c.if-found-ne0.true)) ∙ ap (count_trailing_zeros 64) (sym is) in
    omega (arith, first)

pub returns-then-found-ne0-clause-within : goal.returns-then-found-ne0-clause-within
returns-then-found-ne0-clause-within c =
    let line = c.args.line.now in
    let from = c.args.from in
    let last = length line - 16 in
    let n = from - last in
    let is : c.stops.result / 2 ^ n ≡ mask_l (map is_stop (chunk from (16 - n) line)) =
    ap (λ m. m / 2 ^ n) c.stops.ensures
    ∙ shifted_mask line from last n (omega (arith, c.requires)) (omega (arith, c.requires))
    c.requires.left.0 in
    let first = first_stop line from (16 - n) (omega (arith, c.requires)) (omega arith)
    (omega (arith, is, c.if-found-ne0.true)) ∙ ap (count_trailing_zeros 64) (sym is) in
    omega (arith, first, plain_within line from c.requires.left.0)

pub returns-clause-value : goal.returns-clause-value
returns-clause-value c =
    let line = c.args.line.now in
    let from = c.args.from in
    let last = length line - 16 in
    let n = from - last in
    let is : c.stops.result / 2 ^ n ≡ mask_l (map is_stop (chunk from (16 - n) line)) =
    ap (λ m. m / 2 ^ n) c.stops.ensures
    ∙ shifted_mask line from last n (omega (arith, c.requires)) (omega (arith, c.requires))
    c.requires.left.0 in
    let none = none_stops line from (16 - n) (omega (arith, c.requires)) (omega arith)
    (sym is ∙ c.if-found-ne0.false) in
    omega (arith, none, none_behind line (from + (16 - n)) (omega (arith, c.requires)), c.requires)
