use Rattle.std.proofs.Common.{◌≡◌, ◌∷◌, ◌++◌, [], map, refl, sym, ap, ◌∙◌, append_assoc, arith}
use Rattle.std.proofs.lemmas.Grind.{common_steps}
use Rattle.std.specs.Vec.Iter.{into_iter_items}
use Rattle.jp_compiled.specs.Parts.{roots_of, logical_in}
use Rattle.jp_check.proofs.Listing.{more_made}
use Rattle.jp_check.proofs.MakingSteps.{begins_itself, begins_on}
use Rattle.jp_check.proofs.listed.Listed.apart.Goals as goal

pub loop-part-init : goal.loop-part-init
loop-part-init c = record {
  all = grind (arith, common_steps);
  made = λ x r every from. ap (map (logical_in every)) c.in_ok-made.ensures.items ∙ r every from;
  roots = begins_itself (roots_of c.args.self.now.roots.items);
  patterns = refl;
}

pub loop-part-preserved : goal.loop-part-preserved
loop-part-preserved c =
    let done = c.loop-part.yielded in
    let l = c.in-Some.part in
    let rest = into_iter_items c.next.new.self in
    let known = c.loop-part.invariant in
    let first = roots_of c.args.self.now.roots.items in
    let before = roots_of c.loop-part.self.roots.items in
    let now = roots_of c.once.new.self.roots.items in
    record {
      all = known.all ∙ ap (λ ls. done ++ ls) c.in-Some.ensures.steps.0
          ∙ sym (append_assoc done (l ∷ []) rest);
      made = more_made first before now done c.loop-part.made.items c.push.new.self.items l
          c.in_ok-once.field-0 c.in_ok-push.ensures.items known.roots c.in_ok-once.ensures.roots known.made
          c.in_ok-once.ensures.made;
      roots = begins_on first before now known.roots c.in_ok-once.ensures.roots;
      patterns = c.in_ok-once.ensures.patterns ∙ known.patterns;
    }

pub returns-clause-made : goal.returns-clause-made
returns-clause-made c = λ x r.
    let done : c.args.parts.items ≡ c.loop-part.yielded = grind (arith, common_steps) in
    c.loop-part.invariant.made x (rw done at r)
