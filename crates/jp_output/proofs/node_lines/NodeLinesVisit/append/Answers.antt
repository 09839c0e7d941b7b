use Rattle.std.proofs.Common.{◌≡◌, [], sym, ap, ◌∙◌, rules}
use Rattle.std.proofs.lemmas.Result.{on_ok_weaker}
use Rattle.std.specs.List.{fold}
use Rattle.jp_output.specs.OutputLine.{put_line}
use Rattle.jp_output.specs.inner.Buffered.{buffered}
use Rattle.jp_output.specs.inner.Taken.{lines_append}
use Rattle.jp_output.proofs.node_lines.NodeLinesVisit.append.Goals as goal

pub returns : goal.returns
returns c = λ ns e.
    let head = c.self.inside.writer.front.0 in
    let number = c.self.inside.writer.front.1 in
    let mine = buffered c.self.inside.lines in
    let more = buffered c.other.inside.lines in
    let is : c.args.self.now ≡ (head, number, mine) = search rules in
    let other : c.args.other ≡ (c.other.inside.writer.front.0, c.other.inside.writer.front.1, more)
    = search rules in
    on_ok_weaker c.append.result (λ appended.
    ap (λ bytes. (head, number, bytes)) appended
    ∙ lines_append head number mine (c.other.inside.writer.front.0, c.other.inside.writer.front.1, more) ns
    (sym other ∙ e ∙ ap (λ k. fold put_line (k.0, k.1, []) ns) is)
    ∙ ap (λ k. fold put_line k ns) (sym is))
    c.append.ensures
