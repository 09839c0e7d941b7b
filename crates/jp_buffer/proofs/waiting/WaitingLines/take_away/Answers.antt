use Rattle.std.proofs.Common.{◌∙◌, ap, arith, take, drop, length}
use Rattle.jp_buffer.specs.inner.Waiting.{bytes_of}
use Rattle.jp_buffer.proofs.SpanLaws.{lines_count, bytes_parts, kept_behind}
use Rattle.jp_buffer.proofs.waiting.WaitingLines.take_away.Goals as goal

pub split_at-requires : goal.split_at-requires
split_at-requires c =
    omega (
      arith,
      lines_count c.self.inside.bytes.items c.self.inside.spans.items,
      ap length c.self.view_is,
      ap length c.deref.ensures.value,
      c.requires,
    )

pub total_len-end-requires : goal.total_len-end-requires
total_len-end-requires c =
    omega (
      arith,
      ap bytes_of (c.split_at.ensures.front ∙ ap (take c.args.count) c.deref.ensures.value),
      bytes_parts c.args.count c.self.inside.spans.items,
      c.self.invariant,
      c.self.inside.bytes.ok.0,
    )

pub take_front-requires : goal.take_front-requires
take_front-requires c =
    omega (
      arith,
      c.total_len-end.ensures,
      ap bytes_of (c.split_at.ensures.front ∙ ap (take c.args.count) c.deref.ensures.value),
      bytes_parts c.args.count c.self.inside.spans.items,
      c.self.invariant,
      c.self.inside.bytes.ok.0,
    )

pub invariant_of-self : goal.invariant_of-self
invariant_of-self c =
    (kept_behind c.args.count c.self.inside.bytes.items _ c.self.inside.spans.items _ c.self.invariant
    (c.let_go.ensures ∙ c.take_front.ensures
    ∙ ap (λ n. drop n c.self.inside.bytes.items) (c.total_len-end.ensures
    ∙ ap bytes_of (c.split_at.ensures.front ∙ ap (take c.args.count) c.deref.ensures.value)))
    c.take_front-2.ensures).0

pub returns : goal.returns
returns c =
    (kept_behind c.args.count c.self.inside.bytes.items _ c.self.inside.spans.items _ c.self.invariant
    (c.let_go.ensures ∙ c.take_front.ensures
    ∙ ap (λ n. drop n c.self.inside.bytes.items) (c.total_len-end.ensures
    ∙ ap bytes_of (c.split_at.ensures.front ∙ ap (take c.args.count) c.deref.ensures.value)))
    c.take_front-2.ensures).1 ∙ ap (drop c.args.count) c.self.view_is
