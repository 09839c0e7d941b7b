use Rattle.std.proofs.Common.{◌++◌, arith}
use Rattle.jp_number.proofs.Fronts.{front_none, front_more}
use Rattle.jp_number.proofs.digits.count_zeros.Goals as goal

pub loop-at-init : goal.loop-at-init
loop-at-init c = record { within = omega arith; none = front_none (c.args.whole.now ++ c.args.fraction.now) }

pub loop-at-preserved : goal.loop-at-preserved
loop-at-preserved c =
    let ds = c.args.whole.now ++ c.args.fraction.now in
    record {
      within = omega arith;
      none =
          omega (arith, front_more ds c.loop-at.at, c.digit_at.ensures, c.loop-at.invariant.none);
    }
