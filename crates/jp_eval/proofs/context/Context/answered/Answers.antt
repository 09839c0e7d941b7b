use Rattle.std.proofs.Common.{◌≡◌, ◌<◌, ◌≤◌, length, get_or, true, rules, sym, ap, ◌∙◌}
use Rattle.jp_tree.specs.Tree.{query, no_segments}
use Rattle.jp_tree.specs.declared.tree.Start.TheVariants as start
use Rattle.jp_compiled.specs.Parts.{roots_of, wanted, where_wanted}
use Rattle.jp_node.specs.Part.{part_value}
use Rattle.jp_eval.proofs.Answered.{answer_at, none_at, result_where, none_where, where_none}
use Rattle.jp_eval.proofs.context.Context.answered.Goals as goal

pub returns-in_default : goal.returns-in_default
returns-in_default c =
    let context = c.args.self.now in
    let want = c.args.want in
    let past : length context.answers.items ≤ c.args.slot = search rules in
    ap (λ w. query start.Root (where_wanted want w))
    (none_at (part_value context.root) (roots_of context.roots.now) context.answers.items context.truths.items
    c.args.slot (wanted want no_segments) context.answered past)
    ∙ ap (query start.Root) (where_none want)

pub returns-then-is_result_of : goal.returns-then-is_result_of
returns-then-is_result_of c = λ n.
    let context = c.args.self.now in
    let root = part_value context.root in
    let roots = roots_of context.roots.now in
    let slot = c.args.slot in
    let none = wanted c.args.want no_segments in
    let xs = context.answers.items in
    let known = c.in-Some.known.now in
    let within : slot < length xs = search rules in
    let is : known ≡ get_or xs slot known = search rules in
    result_where root c.args.want (get_or roots slot none) known.answer
    (get_or context.truths.items slot true)
    (answer_at root roots xs context.truths.items slot none known context.answered within is)
    (sym c.is_result_of.ensures ∙ c.if-is_result_of.true)

pub returns-else-is_result_of : goal.returns-else-is_result_of
returns-else-is_result_of c =
    let context = c.args.self.now in
    let root = part_value context.root in
    let roots = roots_of context.roots.now in
    let slot = c.args.slot in
    let none = wanted c.args.want no_segments in
    let xs = context.answers.items in
    let known = c.in-Some.known.now in
    let within : slot < length xs = search rules in
    let is : known ≡ get_or xs slot known = search rules in
    ap (query start.Root) (none_where root c.args.want (get_or roots slot none) known.answer
    (get_or context.truths.items slot true)
    (answer_at root roots xs context.truths.items slot none known context.answered within is)
    (sym c.is_result_of.ensures ∙ c.if-is_result_of.false))
