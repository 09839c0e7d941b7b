use Rattle.std.proofs.Common.{arith}
use Rattle.std.proofs.lemmas.Simd.{zip2_splat}
use Rattle.jp_flat_nodes.proofs.Vectors.{if_equal, if_below, stop_mask}
use Rattle.jp_flat_nodes.proofs.bytes.stops.Goals as goal

pub returns : goal.returns
returns c =
    let v = c.fits-bytes.0 in
    stop_mask c.args.bytes _ _ _ (omega (arith, v)) (zip2_splat if_equal c.args.bytes 16 34 v)
    (zip2_splat if_equal c.args.bytes 16 92 v) (zip2_splat if_below c.args.bytes 16 32 v)
