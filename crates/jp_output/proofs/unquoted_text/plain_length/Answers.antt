use Rattle.jp_output.proofs.UnquotedTexts.{plain_more}
use Rattle.jp_output.proofs.unquoted_text.plain_length.Goals as goal

pub loop-i-preserved : goal.loop-i-preserved
loop-i-preserved c =
    plain_more c.args.bytes.now c.loop-i.i c.loop-i-test.true c.if-byte-lt32.false c.if-byte-eq92.false
    c.loop-i.invariant
