use Rattle.std.proofs.Common.{◌≤◌, ◌^◌, length, arith, sym, le-leb}
use Rattle.std.specs.Str.Parse.{digits_value}
use Rattle.jp_flat.proofs.Numbers.{below, parsed, too_many}
use Rattle.jp_flat.proofs.digits.fits_behind_minus.Goals as goal

pub returns-then-digits-le18 : goal.returns-then-digits-le18
returns-then-digits-le18 c =
    let ds = c.args.digits.now in
    let few : length ds ≤ 18 = omega arith in
    let fits = below ds 18 c.requires few in
    sym (le-leb (digits_value 10 ds) (2 ^ 63) (omega (arith, fits)))

pub returns-in-Err : goal.returns-in-Err
returns-in-Err c =
    let ds = c.args.digits.now in
    too_many ds c.parse_u64.result _ c.in-Err.is (parsed ds c.parse_u64.result c.requires c.parse_u64.ensures)
