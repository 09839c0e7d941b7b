use Rattle.std.proofs.Common.{arith}
use Rattle.std.proofs.lemmas.Simd.{zip2_splat}
use Rattle.jp_documents.proofs.Vectors.{if_equal, brackets_bytes}
use Rattle.jp_documents.proofs.runs.brackets_mask.Goals as goal

pub returns : goal.returns
returns c =
    let v = c.fits-bytes.0 in
    brackets_bytes c.args.bytes _ _ _ _ _ (omega (arith, v)) (zip2_splat if_equal c.args.bytes 16 34 v)
    (zip2_splat if_equal c.args.bytes 16 123 v) (zip2_splat if_equal c.args.bytes 16 125 v)
    (zip2_splat if_equal c.args.bytes 16 91 v) (zip2_splat if_equal c.args.bytes 16 93 v)
