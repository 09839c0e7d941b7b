use Rattle.std.proofs.Common.{◌≡◌, ◌<◌, ◌≤◌, length, get_or, rules, sym, ap, arith}
use Rattle.jp_tree.specs.Tree as tree
use Rattle.jp_compiled.specs.Parts.{roots_of, truth_of, tested_in}
use Rattle.jp_node.specs.Part.{part_value}
use Rattle.jp_value.specs.RightTests.{tests}
use Rattle.jp_eval.specs.Nodelist.{holds}
use Rattle.jp_eval.proofs.Answered.{as_many, none_at, truth_at}
use Rattle.jp_eval.proofs.context.Context.truth.Goals as goal

pub returns-in-None : goal.returns-in-None
returns-in-None c = λ n.
    let context = c.args.self.now in
    let root = part_value context.root in
    let roots = roots_of context.roots.now in
    let past : length context.truths.items ≤ c.args.slot = search rules in
    let alike = as_many root roots context.answers.items context.truths.items context.answered in
    let few : length context.answers.items ≤ c.args.slot = omega (arith, alike, past) in
    sym (ap (λ w. holds tests root (tested_in w) n)
    (none_at root roots context.answers.items context.truths.items c.args.slot
    (truth_of (tree.all tree.no_logicals)) context.answered few))

pub returns-in-Some : goal.returns-in-Some
returns-in-Some c = λ n.
    let context = c.args.self.now in
    let bs = context.truths.items in
    let truth = c.in-Some.truth.now in
    let within : c.args.slot < length bs = search rules in
    let is : truth ≡ get_or bs c.args.slot truth = search rules in
    truth_at (part_value context.root) (roots_of context.roots.now) context.answers.items bs c.args.slot
    (truth_of (tree.all tree.no_logicals)) truth n context.answered within is
