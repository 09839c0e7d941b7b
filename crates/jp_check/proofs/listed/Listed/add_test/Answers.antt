use Rattle.std.proofs.Common.{◌∙◌}
use Rattle.jp_compiled.specs.Parts.{roots_of}
use Rattle.jp_check.proofs.Listing.{still_uniform, once_listed}
use Rattle.jp_check.proofs.MakingSteps.{listed_begins}
use Rattle.jp_check.proofs.listed.Listed.add_test.Goals as goal

pub invariant_of-self : goal.invariant_of-self
invariant_of-self c =
    let rs = c.args.self.now.roots.items in
    record {
      uniform = still_uniform rs _ _ _ c.push.ensures.items c.args.self.now.uniform
          (c.requires.asks (roots_of rs) c.args.self.now.uniform);
    }

pub returns-clause-made : goal.returns-clause-made
returns-clause-made c = λ all h.
    once_listed c.args.self.now.roots.items c.push.new.self.items c.args.test c.len-slot.result all
    (c.len-slot.ensures ∙ c.args.self.now.roots.ok.0) c.in_ok-push.ensures.items h

pub returns-clause-roots : goal.returns-clause-roots
returns-clause-roots c = listed_begins c.args.self.now.roots.items _ _ c.in_ok-push.ensures.items
