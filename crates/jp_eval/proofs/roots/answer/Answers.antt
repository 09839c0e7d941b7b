use Rattle.std.proofs.Common.{[], true, sym, ap, ◌∙◌}
use Rattle.jp_compiled.specs.Parts.{roots_of, segments_in, logical_in, wanted_in}
use Rattle.jp_compiled.specs.Uniform.{wanted_uniform}
use Rattle.jp_compiled.specs.declared.query.Want.TheVariants as want
use Rattle.jp_tree.specs.Tree.{no_segments}
use Rattle.jp_found.specs.Aggregates.{tells}
use Rattle.jp_found.specs.Links.{here}
use Rattle.jp_node.specs.Part.{part_value}
use Rattle.jp_eval.specs.inner.Base.{base_of}
use Rattle.jp_eval.specs.inner.Rooted.{root_nodes, is_answer}
use Rattle.jp_eval.specs.inner.Walk.{is_true}
use Rattle.jp_eval.proofs.Answered.{answers_it, answers_truth}
use Rattle.jp_eval.proofs.roots.answer.Goals as goal

pub returns-in_ok-known-in-Query : goal.returns-in_ok-known-in-Query
returns-in_ok-known-in-Query g c =
    let context = c.args.context.now in
    let root = part_value context.root in
    let before = roots_of context.roots.now in
    let query = c.in-Query.query in
    let ss = segments_in before query.segments.items in
    let known = c.in_ok-known-in-Query.known in
    ap (λ p. is_answer root (wanted_in before p) known.answer true) c.in-Query.is
    ∙ answers_it root query.want ss known.answer
    (ap (tells query.want (root_nodes root ss)) c.in_ok-known-in-Query.ensures
    ∙ c.in_ok-told-in-Query.ensures)

pub returns-in_ok-known-in-Test : goal.returns-in_ok-known-in-Test
unfolding is_true
returns-in_ok-known-in-Test g c =
    let context = c.args.context.now in
    let root = part_value context.root in
    let before = roots_of context.roots.now in
    let test = c.in-Test.test in
    let known = c.in_ok-known-in-Test.known in
    let truth = c.in_ok-truth-in-Test.truth in
    ap (λ p. is_answer root (wanted_in before p) known.answer truth) c.in-Test.is
    ∙ answers_truth root (logical_in before test) known.answer truth
    (ap (λ p. wanted_uniform (wanted_in before p)) (sym c.in-Test.is) ∙ c.requires)
    (ap (tells want.First (root_nodes root no_segments)) c.in_ok-known-in-Test.ensures
    ∙ c.of_one-told.ensures [])
    (c.in_ok-truth-in-Test.ensures.truth
    ∙ ap (λ at. is_true (base_of context) test (here at context.root)) c.new-path.ensures)
