use Rattle.std.proofs.Common.{◌∙◌, sym, ap, length}
use Rattle.jp_buffer.proofs.SpanLaws.{lines_count}
use Rattle.jp_buffer.proofs.waiting.WaitingLines.len.Goals as goal

pub returns : goal.returns
returns c =
    c.len.ensures ∙ c.self.inside.spans.ok.0
    ∙ sym (lines_count c.self.inside.bytes.items c.self.inside.spans.items) ∙ ap length c.self.view_is
