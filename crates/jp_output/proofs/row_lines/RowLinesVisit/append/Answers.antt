use Rattle.std.proofs.Common.{◌≡◌, [], sym, ap, ◌∙◌, rules}
use Rattle.std.proofs.lemmas.Result.{on_ok_weaker}
use Rattle.std.specs.List.{fold}
use Rattle.jp_output.specs.Rows.{put_row}
use Rattle.jp_output.specs.inner.Buffered.{buffered}
use Rattle.jp_output.specs.inner.Taken.{rows_append}
use Rattle.jp_output.proofs.row_lines.RowLinesVisit.append.Goals as goal

pub returns : goal.returns
returns g c = λ e.
    let fields = g.self.inside.fields in
    let mine = buffered g.self.inside.lines in
    let more = buffered g.other.inside.lines in
    let is : g.args.self.now ≡ (fields, mine) = search rules in
    let other : g.args.other ≡ (g.other.inside.fields, more) = search rules in
    on_ok_weaker g.append.result (λ appended.
    ap (λ bytes. (fields, bytes)) appended
    ∙ rows_append fields mine (g.other.inside.fields, more) c
    (sym other ∙ e ∙ ap (λ k. fold put_row (k.0, []) c) is)
    ∙ ap (λ k. fold put_row k c) (sym is))
    g.append.ensures
