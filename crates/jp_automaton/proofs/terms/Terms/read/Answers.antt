use Rattle.std.proofs.Common.{ap, ◌∙◌}
use Rattle.jp_automaton.specs.Held.{pattern_of}
use Rattle.jp_pattern.specs.Unrolled.{unrolled}
use Rattle.jp_automaton.specs.inner.Simulation.{is_elem, exits}
use Rattle.jp_automaton.proofs.ProfileLemmas.{kept_profile}
use Rattle.jp_automaton.proofs.TermLemmas.{accepted, takes_step, next_rises, next_few, read_next}
use Rattle.jp_automaton.proofs.terms.Terms.read.Goals as goal

pub invariant_of-self-2 : goal.invariant_of-self-2
invariant_of-self-2 c =
    let self = c.args.self.now in
    let p = pattern_of self.pattern.now in
    let e = read_next p c.args.c self.at_start self.active.items c.deref.result.now c.clear.new.self.items
    c.read_into.new.next.items c.swap.new.x.items
    c.deref.ensures.value c.clear.ensures.items c.in_ok-accepted.ensures.next
    (ap (λ v. v.items) c.swap.ensures.x_after) in
    record {
      rising = next_rises p c.args.c self.at_start self.active.items c.swap.new.x.items e;
      few = next_few p c.args.c self.at_start self.active.items c.swap.new.x.items e;
    }

pub returns-clause-ok : goal.returns-clause-ok
returns-clause-ok c =
    let self = c.args.self.now in
    let p = pattern_of self.pattern.now in
    let e = read_next p c.args.c self.at_start self.active.items c.deref.result.now c.clear.new.self.items
    c.read_into.new.next.items c.swap.new.x.items
    c.deref.ensures.value c.clear.ensures.items c.in_ok-accepted.ensures.next
    (ap (λ v. v.items) c.swap.ensures.x_after) in
    takes_step p (kept_profile p self.pattern.now.in_profile).counts self.at_start
    self.active.items self.rising
    c.args.c c.args.anew c.swap.new.x.items e

pub returns-clause-accepted : goal.returns-clause-accepted
returns-clause-accepted c =
    let self = c.args.self.now in
    let p = pattern_of self.pattern.now in
    accepted p (kept_profile p self.pattern.now.in_profile).counts self.at_start self.active.items self.rising
    c.in_ok-accepted.accepted
    (c.in_ok-accepted.ensures.accepted ∙ ap (λ xs. exits (is_elem xs) (unrolled p) 0 self.at_start)
    c.deref.ensures.value)
