use Rattle.std.proofs.Common.{◌≤◌, ◌^◌, length, arith, sym, lt-ltb, le-leb, ◌∙◌}
use Rattle.std.specs.Str.Parse.{digits_value}
use Rattle.jp_flat.proofs.Numbers.{below, parsed, told_fits}
use Rattle.jp_flat.proofs.digits.fits_unsigned.Goals as goal

pub returns-then-digits-le19 : goal.returns-then-digits-le19
returns-then-digits-le19 c =
    let ds = c.args.digits.now in
    let few : length ds ≤ 19 = omega arith in
    let fits = below ds 19 c.requires few in
    le-leb (length ds) 19 few ∙ sym (lt-ltb (digits_value 10 ds) (2 ^ 64) (omega (arith, fits)))

pub returns-else-digits-le19 : goal.returns-else-digits-le19
returns-else-digits-le19 c =
    let ds = c.args.digits.now in
    c.is_ok.ensures.value ∙ told_fits ds c.parse_u64.result (parsed ds c.parse_u64.result c.requires
    c.parse_u64.ensures)
