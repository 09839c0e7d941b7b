use Rattle.std.proofs.Common.{[], ap, ap₂, ◌∙◌}
use Rattle.jp_compiled.specs.Parts.{roots_of, wanted_in}
use Rattle.jp_compiled.proofs.RootsListed.{listed_more}
use Rattle.jp_eval.specs.inner.Rooted.{are_answers}
use Rattle.jp_node.specs.Part.{part_value}
use Rattle.jp_eval.proofs.Answered.{one_more}
use Rattle.jp_eval.proofs.context.Context.with.Goals as goal

pub invariant_of-result : goal.invariant_of-result
invariant_of-result c =
    let root = part_value c.args.self.root in
    let before = c.args.self.roots.now in
    let part = c.args.part.now in
    record {
      answered = ap (λ rs. are_answers root (roots_of rs) c.push.new.self.items c.push-2.new.self.items)
          c.requires.roots
          ∙ ap (λ ws. are_answers root ws c.push.new.self.items c.push-2.new.self.items)
          (listed_more [] before part)
          ∙ ap₂ (are_answers root _) c.in_ok-push.ensures.items c.in_ok-push-2.ensures.items
          ∙ one_more root (roots_of before) c.args.self.answers.items c.args.self.truths.items
          (wanted_in (roots_of before) part) c.args.answer c.args.truth c.args.self.answered
          c.requires.answer;
    }
