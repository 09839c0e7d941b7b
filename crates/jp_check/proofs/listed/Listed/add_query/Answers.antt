use Rattle.std.proofs.Common.{◌∙◌}
use Rattle.jp_compiled.specs.Parts.{roots_of, segments_in}
use Rattle.jp_check.proofs.Listing.{still_uniform, query_uniform}
use Rattle.jp_check.proofs.MakingSteps.{root_found, listed_begins}
use Rattle.jp_check.proofs.listed.Listed.add_query.Goals as goal

pub invariant_of-self : goal.invariant_of-self
invariant_of-self c =
    let rs = c.args.self.now.roots.items in
    record {
      uniform = still_uniform rs _ _ _ c.push.ensures.items c.args.self.now.uniform
          (query_uniform c.args.want (segments_in (roots_of rs) c.args.segments.items));
    }

pub returns-clause-root : goal.returns-clause-root
returns-clause-root c = λ all h.
    root_found c.args.self.now.roots.items c.push.new.self.items c.args.want c.args.segments
    c.len-slot.result all (c.len-slot.ensures ∙ c.args.self.now.roots.ok.0) c.in_ok-push.ensures.items h

pub returns-clause-roots : goal.returns-clause-roots
returns-clause-roots c = listed_begins c.args.self.now.roots.items _ _ c.in_ok-push.ensures.items
