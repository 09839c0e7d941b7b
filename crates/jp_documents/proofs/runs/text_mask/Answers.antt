use Rattle.std.proofs.Common.{arith}
use Rattle.std.proofs.lemmas.Simd.{zip2_splat}
use Rattle.jp_documents.proofs.Vectors.{if_equal, text_bytes}
use Rattle.jp_documents.proofs.runs.text_mask.Goals as goal

pub returns : goal.returns
returns c =
    let v = c.fits-bytes.0 in
    text_bytes c.args.bytes _ _ _ (omega (arith, v)) (zip2_splat if_equal c.args.bytes 16 34 v)
    (zip2_splat if_equal c.args.bytes 16 92 v) (zip2_splat if_equal c.args.bytes 16 10 v)
