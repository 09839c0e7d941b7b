use Rattle.std.proofs.Common.{sym, arith}
use Rattle.jp_flat_nodes.proofs.Unescaping.{short_read, ascii_alone}
use Rattle.jp_flat_nodes.proofs.escapes.read_escape.Goals as goal

pub returns : goal.returns
returns c =
    let small = c.in_ok-byte.ensures.small in
    short_read c.args.line.now c.args.at c.byte_at-letter.result c.in_ok-byte.byte c.requires.1 c.requires.2
    (c.byte_at-letter.ensures.within (λ e. omega (arith, small))) (sym c.byte_at-letter.ensures.value)
    (λ e. omega (arith, small)) c.in_ok-byte.ensures.value (ascii_alone c.in_ok-byte.byte (omega (
      arith,
      small,
    )))
