use Rattle.std.proofs.Common.{◌≡◌, ℕ, Bool, List, sym, ap, ◌∙◌, rules}
use Rattle.std.specs.List.{fold}
use Rattle.jp_output.specs.InputLine.{put_selected}
use Rattle.jp_output.specs.inner.Buffered.{buffered}
use Rattle.jp_output.specs.inner.Taken.{selected_append}
use Rattle.jp_output.proofs.input_lines.InputLinesVisit.append.Goals as goal

pub returns : goal.returns
returns c = λ ns e.
    let selected = c.self.inside.selected in
    let mine = buffered c.self.inside.lines in
    let more : Bool × List ℕ = (c.other.inside.selected, buffered c.other.inside.lines) in
    let is : c.args.self.now ≡ (selected, mine) = search rules in
    let other : c.args.other ≡ more = search rules in
    selected_append selected mine more ns (sym other ∙ e) ∙ ap (λ k. fold put_selected k ns) (sym is)
