use Rattle.std.proofs.Common.{arith}
use Rattle.std.proofs.lemmas.Simd.{zip2_splat}
use Rattle.jp_node.proofs.BareTexts.{if_equal, if_below, escape_mask}
use Rattle.jp_node.proofs.bare_text.escapes.Goals as goal

pub returns : goal.returns
returns g c =
    let v = c.fits-bytes.0 in
    escape_mask c.args.quote c.args.bytes _ _ _ (omega (arith, v, c.requires))
    (zip2_splat if_equal c.args.bytes _ c.args.quote v)
    (zip2_splat if_equal c.args.bytes _ 92 v) (zip2_splat if_below c.args.bytes _ 32 v)
