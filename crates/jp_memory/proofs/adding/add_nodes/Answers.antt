use Rattle.std.proofs.Common.{◌∙◌, ◌++◌, ap}
use Rattle.std.proofs.lemmas.Result.{on_ok_weaker}
use Rattle.jp_buffer.specs.Buffered.{line_at}
use Rattle.jp_node.specs.Part.{part_value}
use Rattle.jp_output.specs.OutputForm.{OutputForm}
use Rattle.jp_answer.specs.FilteredQuery.{selected_nodes}
use Rattle.jp_memory.specs.inner.Filtered.{filtered_query}
use Rattle.jp_memory.proofs.adding.add_nodes.Goals as goal

pub returns-clause-lines : goal.returns-clause-lines
returns-clause-lines g c = on_ok_weaker c.end_line.result (λ ended t right.
    let ns = selected_nodes t (part_value c.args.root) (filtered_query c.args.evaluator.now) in
    ended c.begin.new.self _ ns c.begin.ensures.begun (c.in-Ok.ensures.nodes t right)
    ∙ ap (λ (f : OutputForm).
    g.F.Form.written c.args.written.now ++ f.of_document (line_at c.args.line.now) ns)
    c.begin.ensures.form) c.end_line.ensures.written

pub returns-clause-form : goal.returns-clause-form
returns-clause-form g c = on_ok_weaker c.end_line.result (λ ended t right.
    c.end_line.ensures.form c.begin.new.self
    (selected_nodes t (part_value c.args.root) (filtered_query c.args.evaluator.now))
    (c.in-Ok.ensures.nodes t right)
    ∙ c.begin.ensures.form) c.end_line.ensures.written
