use Rattle.std.proofs.Common.{◌∙◌, sym, ap}
use Rattle.jp_buffer.specs.Buffered.{total_bytes}
use Rattle.jp_buffer.proofs.SpanLaws.{total_in}
use Rattle.jp_buffer.proofs.waiting.WaitingLines.total_bytes.Goals as goal

pub returns : goal.returns
returns c =
    c.len.ensures ∙ c.self.inside.bytes.ok.0 ∙ c.self.invariant
    ∙ sym (total_in c.self.inside.bytes.items c.self.inside.spans.items c.self.invariant)
    ∙ ap total_bytes c.self.view_is
