use Rattle.std.proofs.Common.{◌∷◌, [], map, ap, ◌∙◌}
use Rattle.std.proofs.lemmas.List.{map-append}
use Rattle.std.proofs.lemmas.Result.{err_from_is_err_and}
use Rattle.jp_pattern.specs.Tree.{element_of}
use Rattle.jp_pattern.specs.inner.Reading.{elements_behind}
use Rattle.jp_pattern.proofs.TurnLemmas.{element_fails, element_ends, element_last, element_more}
use Rattle.jp_pattern.proofs.read_sets.elements_from.Goals as goal

pub returns-in_err-next : goal.returns-in_err-next
returns-in_err-next c =
    let p = err_from_is_err_and c.from_residual.result c.from_residual.ensures.1 in
    rw (p.1, p.2) (element_fails (elements_behind (map element_of c.args.found.items) c.args.turns
    c.args.text.now) (map element_of c.loop-turn.found.items) c.args.turns c.loop-turn._turn
    c.loop-turn.rest.now
    c.loop-turn-test.true c.loop-turn.invariant c.in_err-next.field-0.0 c.in_err-next.ensures)

pub returns-in-None : goal.returns-in-None
returns-in-None c =
    let next = rw c.in-None.is at c.in_ok-next.ensures in
    element_ends (elements_behind (map element_of c.args.found.items) c.args.turns c.args.text.now)
    (map element_of c.loop-turn.found.items) c.args.turns c.loop-turn._turn c.loop-turn.rest.now
    c.loop-turn-test.true c.loop-turn.invariant c.in_ok-next.goes_on c.in_ok-next.after.now next

pub returns-then-not-goes_on : goal.returns-then-not-goes_on
returns-then-not-goes_on c =
    let next = rw (c.in-Some.is, c.if-not-goes_on.true) at c.in_ok-next.ensures in
    let found = ap (map element_of) c.in_ok-push-in-Some.ensures.items
    ∙ map-append element_of c.loop-turn.found.items (c.in-Some.element ∷ []) in
    rw found
    (element_last (elements_behind (map element_of c.args.found.items) c.args.turns c.args.text.now)
    (map element_of c.loop-turn.found.items) c.args.turns c.loop-turn._turn c.loop-turn.rest.now
    c.loop-turn-test.true c.loop-turn.invariant (element_of c.in-Some.element) c.in_ok-next.after.now next)

pub loop-turn-preserved : goal.loop-turn-preserved
loop-turn-preserved c =
    let next = rw (c.in-Some.is, c.if-not-goes_on.false) at c.in_ok-next.ensures in
    let found = ap (map element_of) c.in_ok-push-in-Some.ensures.items
    ∙ map-append element_of c.loop-turn.found.items (c.in-Some.element ∷ []) in
    rw found
    (element_more (elements_behind (map element_of c.args.found.items) c.args.turns c.args.text.now)
    (map element_of c.loop-turn.found.items) c.args.turns c.loop-turn._turn c.loop-turn.rest.now
    c.loop-turn-test.true c.loop-turn.invariant (element_of c.in-Some.element) c.in_ok-next.after.now next)
