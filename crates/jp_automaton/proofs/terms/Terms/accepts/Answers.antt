use Rattle.std.proofs.Common.{◌≡◌, ap, ◌∙◌, arith}
use Rattle.jp_automaton.specs.Held.{pattern_of}
use Rattle.jp_pattern.specs.Unrolled.{unrolled}
use Rattle.jp_automaton.specs.inner.Simulation.{is_elem, exits}
use Rattle.jp_automaton.proofs.ProfileLemmas.{kept_profile, kept_size}
use Rattle.jp_automaton.proofs.TermLemmas.{accepted, at_most_size}
use Rattle.jp_automaton.proofs.terms.Terms.accepts.Goals as goal

pub exit-requires-clause-fits : goal.exit-requires-clause-fits
exit-requires-clause-fits c =
    let p = pattern_of c.args.self.now.pattern.now in
    let h = at_most_size p (kept_size p c.args.self.now.pattern.now.in_profile) in
    omega (arith, ap (λ r. r.past) c.start-at.ensures, h)

pub returns : goal.returns
returns c =
    let p = pattern_of c.args.self.now.pattern.now in
    let active = c.args.self.now.active.items in
    let e : c.exit.result.entered ≡ exits (is_elem active) (unrolled p) 0 c.args.self.now.at_start =
    c.exit.ensures.entered
    ∙ ap (λ r. exits (is_elem c.deref.result.now) (unrolled p) r.past r.entered) c.start-at.ensures
    ∙ ap (λ xs. exits (is_elem xs) (unrolled p) 0 c.args.self.now.at_start) c.deref.ensures.value in
    accepted p (kept_profile p c.args.self.now.pattern.now.in_profile).counts c.args.self.now.at_start active
    c.args.self.now.rising
    c.exit.result.entered e
