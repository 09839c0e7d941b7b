use Rattle.std.proofs.Common.{◌∙◌, ap, arith, take, length}
use Rattle.jp_buffer.specs.inner.Waiting.{bytes_of}
use Rattle.jp_buffer.proofs.SpanLaws.{lines_count, bytes_parts, kept_front}
use Rattle.jp_buffer.proofs.waiting.WaitingLines.truncate.Goals as goal

pub split_at-requires : goal.split_at-requires
split_at-requires c =
    omega (
      arith,
      lines_count c.self.inside.bytes.items c.self.inside.spans.items,
      ap length c.self.view_is,
      ap length c.deref.ensures.value,
      c.requires,
    )

pub total_len-end-requires : goal.total_len-end-requires
total_len-end-requires c =
    omega (
      arith,
      ap bytes_of (c.split_at.ensures.front ∙ ap (take c.args.count) c.deref.ensures.value),
      bytes_parts c.args.count c.self.inside.spans.items,
      c.self.invariant,
      c.self.inside.bytes.ok.0,
    )

pub invariant_of-self : goal.invariant_of-self
invariant_of-self c =
    (kept_front c.args.count c.self.inside.bytes.items _ c.self.inside.spans.items _ c.self.invariant
    (c.truncate.ensures.items ∙ ap (λ n. take n c.self.inside.bytes.items) (c.total_len-end.ensures
    ∙ ap bytes_of (c.split_at.ensures.front ∙ ap (take c.args.count) c.deref.ensures.value)))
    c.truncate-2.ensures.items).0

pub returns : goal.returns
returns c =
    (kept_front c.args.count c.self.inside.bytes.items _ c.self.inside.spans.items _ c.self.invariant
    (c.truncate.ensures.items ∙ ap (λ n. take n c.self.inside.bytes.items) (c.total_len-end.ensures
    ∙ ap bytes_of (c.split_at.ensures.front ∙ ap (take c.args.count) c.deref.ensures.value)))
    c.truncate-2.ensures.items).1 ∙ ap (take c.args.count) c.self.view_is
