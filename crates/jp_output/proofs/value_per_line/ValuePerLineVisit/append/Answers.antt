use Rattle.std.proofs.Common.{◌≡◌, [], sym, ap, ◌∙◌, rules}
use Rattle.std.proofs.lemmas.Result.{on_ok_weaker}
use Rattle.std.specs.List.{fold}
use Rattle.jp_output.specs.OutputLine.{put_ended}
use Rattle.jp_output.specs.inner.Buffered.{buffered}
use Rattle.jp_output.specs.inner.Taken.{values_append}
use Rattle.jp_output.proofs.value_per_line.ValuePerLineVisit.append.Goals as goal

pub returns : goal.returns
returns g c = λ ns e.
    let put = put_ended g.T.ValueForm.text in
    let ending = c.self.inside.ending in
    let mine = buffered c.self.inside.lines in
    let more = buffered c.other.inside.lines in
    let is : c.args.self.now ≡ (ending, mine) = search rules in
    let other : c.args.other ≡ (c.other.inside.ending, more) = search rules in
    on_ok_weaker c.append.result (λ appended.
    ap (λ bytes. (ending, bytes)) appended
    ∙ values_append g.T.ValueForm.text ending mine (c.other.inside.ending, more) ns
    (sym other ∙ e ∙ ap (λ k. fold put (k.0, []) ns) is)
    ∙ ap (λ k. fold put k ns) (sym is))
    c.append.ensures
