use Rattle.std.proofs.Common.{ℕ, ap, sym, ◌∙◌, refl, rules}
use Rattle.std.specs.Prelude.{option_map}
use Rattle.std.specs.Str.{chars}
use Rattle.std.proofs.lemmas.Result.{err_from_is_err_and}
use Rattle.jp_tokens.specs.Reading.{Turn, skip, literal_at, operator_at, all_of}
use Rattle.jp_syntax.specs.declared.connective.Connective.{Connective}
use Rattle.jp_syntax.specs.inner.Reading.{logical_at, mark_of, part_at, next_part, segment_behind, next_item}
use Rattle.jp_syntax.specs.inner.Reading.{selector_at}
use Rattle.jp_syntax.specs.inner.Reading.{argument_at, compared_behind}
use Rattle.jp_tree.specs.Tree as tree
use Rattle.jp_tree.specs.Tree.{Text}
use Rattle.jp_tree.specs.View.{literal_of}
use Rattle.jp_tree.specs.PartViews.{selectors_of, segments_of, arguments_of, logicals_of, selector_of}
use Rattle.jp_tree.specs.PartViews.{segment_of, argument_of, logical_of}
use Rattle.jp_tokens.proofs.Turns.{still_fails, turn_fails, turn_ends, turn_goes, turn_shortens}
use Rattle.jp_syntax.proofs.LiteralOnce.{argument_other, argument_alone, argument_none, argument_compared}
use Rattle.jp_syntax.proofs.Progress.{selectors_get_on, arguments_get_on, segments_get_on, parts_get_on}
use Rattle.jp_syntax.proofs.reader.+reader.Goals as goal

pub selectors_from-returns-in_err-next : goal.selectors_from-returns-in_err-next
selectors_from-returns-in_err-next t c =
    let p = err_from_is_err_and c.from_residual.result c.from_residual.ensures.1 in
    rw (p.1, p.2) (turn_fails (λ u. next_item 93 (selector_at (logical_at c.args.left)) (skip u))
    (selectors_get_on c.args.left)
    (all_of (λ u. next_item 93 (selector_at (logical_at c.args.left)) (skip u))
    (selectors_of c.args.found.items) (chars c.args.text.now)) (selectors_of c.loop-found.found.items)
    (chars c.loop-found.rest.now) c.loop-found.invariant.1 c.in_err-next.field-0.0
    (rw (← c.skip.ensures) c.in_err-next.ensures))

pub selectors_from-returns-in-None : goal.selectors_from-returns-in-None
selectors_from-returns-in-None t c =
    turn_ends (λ u. next_item 93 (selector_at (logical_at c.args.left)) (skip u))
    (selectors_get_on c.args.left) (all_of (λ u. next_item 93 (selector_at (logical_at c.args.left)) (skip u))
    (selectors_of c.args.found.items) (chars c.args.text.now)) (selectors_of c.loop-found.found.items)
    (chars c.loop-found.rest.now) c.loop-found.invariant.1 _ (chars c.in_ok-next.after.now)
    (rw (← c.skip.ensures) c.in_ok-next.ensures) (ap (λ o. option_map selector_of o) c.in-None.is)

pub selectors_from-loop-found-smaller : goal.selectors_from-loop-found-smaller
selectors_from-loop-found-smaller t c =
    turn_shortens (λ u. next_item 93 (selector_at (logical_at c.args.left)) (skip u))
    (selectors_get_on c.args.left) (chars c.loop-found.rest.now) _ _ (chars c.in_ok-next.after.now)
    (rw (← c.skip.ensures) c.in_ok-next.ensures) (ap (λ o. option_map selector_of o) c.in-Some.is)

pub selectors_from-loop-found-preserved : goal.selectors_from-loop-found-preserved
selectors_from-loop-found-preserved t c = (
  search rules,
  rw c.in_ok-push_selector-in-Some.ensures
      (turn_goes (λ u. next_item 93 (selector_at (logical_at c.args.left)) (skip u))
      (selectors_get_on c.args.left)
      (all_of (λ u. next_item 93 (selector_at (logical_at c.args.left)) (skip u))
      (selectors_of c.args.found.items) (chars c.args.text.now)) (selectors_of c.loop-found.found.items)
      (chars c.loop-found.rest.now) c.loop-found.invariant.1 _ _ (chars c.in_ok-next.after.now)
      (rw (← c.skip.ensures) c.in_ok-next.ensures) (ap (λ o. option_map selector_of o) c.in-Some.is)),
)

pub arguments_from-returns-in_err-next : goal.arguments_from-returns-in_err-next
arguments_from-returns-in_err-next t c =
    let p = err_from_is_err_and c.from_residual.result c.from_residual.ensures.1 in
    rw (p.1, p.2) (turn_fails (λ u. next_item 41 (argument_at (logical_at c.args.left)) (skip u))
    (arguments_get_on c.args.left)
    (all_of (λ u. next_item 41 (argument_at (logical_at c.args.left)) (skip u))
    (arguments_of c.args.found.items) (chars c.args.text.now)) (arguments_of c.loop-found.found.items)
    (chars c.loop-found.rest.now) c.loop-found.invariant.1 c.in_err-next.field-0.0
    (rw (← c.skip.ensures) c.in_err-next.ensures))

pub arguments_from-returns-in-None : goal.arguments_from-returns-in-None
arguments_from-returns-in-None t c =
    turn_ends (λ u. next_item 41 (argument_at (logical_at c.args.left)) (skip u))
    (arguments_get_on c.args.left) (all_of (λ u. next_item 41 (argument_at (logical_at c.args.left)) (skip u))
    (arguments_of c.args.found.items) (chars c.args.text.now)) (arguments_of c.loop-found.found.items)
    (chars c.loop-found.rest.now) c.loop-found.invariant.1 _ (chars c.in_ok-next.after.now)
    (rw (← c.skip.ensures) c.in_ok-next.ensures) (ap (λ o. option_map argument_of o) c.in-None.is)

pub arguments_from-loop-found-smaller : goal.arguments_from-loop-found-smaller
arguments_from-loop-found-smaller t c =
    turn_shortens (λ u. next_item 41 (argument_at (logical_at c.args.left)) (skip u))
    (arguments_get_on c.args.left) (chars c.loop-found.rest.now) _ _ (chars c.in_ok-next.after.now)
    (rw (← c.skip.ensures) c.in_ok-next.ensures) (ap (λ o. option_map argument_of o) c.in-Some.is)

pub arguments_from-loop-found-preserved : goal.arguments_from-loop-found-preserved
arguments_from-loop-found-preserved t c = (
  search rules,
  rw c.in_ok-push_argument-in-Some.ensures
      (turn_goes (λ u. next_item 41 (argument_at (logical_at c.args.left)) (skip u))
      (arguments_get_on c.args.left)
      (all_of (λ u. next_item 41 (argument_at (logical_at c.args.left)) (skip u))
      (arguments_of c.args.found.items) (chars c.args.text.now)) (arguments_of c.loop-found.found.items)
      (chars c.loop-found.rest.now) c.loop-found.invariant.1 _ _ (chars c.in_ok-next.after.now)
      (rw (← c.skip.ensures) c.in_ok-next.ensures) (ap (λ o. option_map argument_of o) c.in-Some.is)),
)

pub segments_from-returns-in_err-next : goal.segments_from-returns-in_err-next
segments_from-returns-in_err-next t c =
    let p = err_from_is_err_and c.from_residual.result c.from_residual.ensures.1 in
    rw (p.1, p.2) (turn_fails (λ u. segment_behind (logical_at c.args.left) u (skip u))
    (segments_get_on c.args.left) (all_of (λ u. segment_behind (logical_at c.args.left) u (skip u))
    (segments_of c.args.found.items) (chars c.args.text.now)) (segments_of c.loop-found.found.items)
    (chars c.loop-found.rest.now) c.loop-found.invariant.1 c.in_err-next.field-0.0
    (rw (← c.skip.ensures) c.in_err-next.ensures))

pub segments_from-returns-in-None : goal.segments_from-returns-in-None
segments_from-returns-in-None t c = turn_ends (λ u. segment_behind (logical_at c.args.left) u (skip u))
    (segments_get_on c.args.left) (all_of (λ u. segment_behind (logical_at c.args.left) u (skip u))
    (segments_of c.args.found.items) (chars c.args.text.now)) (segments_of c.loop-found.found.items)
    (chars c.loop-found.rest.now) c.loop-found.invariant.1 _ (chars c.in_ok-next.after.now)
    (rw (← c.skip.ensures) c.in_ok-next.ensures) (ap (λ o. option_map segment_of o) c.in-None.is)

pub segments_from-loop-found-smaller : goal.segments_from-loop-found-smaller
segments_from-loop-found-smaller t c = turn_shortens (λ u. segment_behind (logical_at c.args.left) u (skip u))
    (segments_get_on c.args.left) (chars c.loop-found.rest.now) _ _ (chars c.in_ok-next.after.now)
    (rw (← c.skip.ensures) c.in_ok-next.ensures) (ap (λ o. option_map segment_of o) c.in-Some.is)

pub segments_from-loop-found-preserved : goal.segments_from-loop-found-preserved
segments_from-loop-found-preserved t c = (
  search rules,
  rw c.in_ok-push_segment-in-Some.ensures
      (turn_goes (λ u. segment_behind (logical_at c.args.left) u (skip u)) (segments_get_on c.args.left)
      (all_of (λ u. segment_behind (logical_at c.args.left) u (skip u)) (segments_of c.args.found.items)
      (chars c.args.text.now)) (segments_of c.loop-found.found.items) (chars c.loop-found.rest.now)
      c.loop-found.invariant.1 _ _ (chars c.in_ok-next.after.now) (rw (← c.skip.ensures) c.in_ok-next.ensures)
      (ap (λ o. option_map segment_of o) c.in-Some.is)),
)

-- a turn of the loop over parts
abbrev part_turn : Connective → ℕ → Text → Turn tree.Logical
part_turn by n u = next_part (mark_of by) (part_at (logical_at n) by) u (skip u)

pub parts_from-returns-in_err-next : goal.parts_from-returns-in_err-next
parts_from-returns-in_err-next t c =
    let p = err_from_is_err_and c.from_residual.result c.from_residual.ensures.1 in
    rw (p.1, p.2) (turn_fails (part_turn c.args.connective c.args.left)
    (parts_get_on c.args.left c.args.connective)
    (all_of (part_turn c.args.connective c.args.left) (logicals_of c.args.found.items)
    (chars c.args.text.now)) (logicals_of c.loop-found.found.items) (chars c.loop-found.rest.now)
    c.loop-found.invariant.1 c.in_err-next.field-0.0 (rw (← c.skip.ensures) c.in_err-next.ensures))

pub parts_from-returns-in-None : goal.parts_from-returns-in-None
parts_from-returns-in-None t c = turn_ends (part_turn c.args.connective c.args.left)
    (parts_get_on c.args.left c.args.connective)
    (all_of (part_turn c.args.connective c.args.left) (logicals_of c.args.found.items)
    (chars c.args.text.now)) (logicals_of c.loop-found.found.items) (chars c.loop-found.rest.now)
    c.loop-found.invariant.1 _ (chars c.in_ok-next.after.now)
    (rw (← c.skip.ensures) c.in_ok-next.ensures) (ap (λ o. option_map logical_of o) c.in-None.is)

pub parts_from-loop-found-smaller : goal.parts_from-loop-found-smaller
parts_from-loop-found-smaller t c = turn_shortens (part_turn c.args.connective c.args.left)
    (parts_get_on c.args.left c.args.connective) (chars c.loop-found.rest.now) _ _
    (chars c.in_ok-next.after.now)
    (rw (← c.skip.ensures) c.in_ok-next.ensures) (ap (λ o. option_map logical_of o) c.in-Some.is)

pub parts_from-loop-found-preserved : goal.parts_from-loop-found-preserved
parts_from-loop-found-preserved t c = (
  search rules,
  rw c.in_ok-push_logical-in-Some.ensures
      (turn_goes (part_turn c.args.connective c.args.left) (parts_get_on c.args.left c.args.connective)
      (all_of (part_turn c.args.connective c.args.left) (logicals_of c.args.found.items)
      (chars c.args.text.now)) (logicals_of c.loop-found.found.items) (chars c.loop-found.rest.now)
      c.loop-found.invariant.1 _ _ (chars c.in_ok-next.after.now) (rw (← c.skip.ensures) c.in_ok-next.ensures)
      (ap (λ o. option_map logical_of o) c.in-Some.is)),
)

pub joined_behind-returns : goal.joined_behind-returns
joined_behind-returns t c =
    rw (← c.in_ok-one_logical.ensures, c.in_ok-parts.ensures, c.join.ensures) refl

pub argument_at-returns-in_err-logical : goal.argument_at-returns-in_err-logical
argument_at-returns-in_err-logical t c =
    let p = err_from_is_err_and c.from_residual.result c.from_residual.ensures.1 in
    let other = argument_other c.args.left (chars c.args.text.now) (sym c.begins_literal.ensures
    ∙ c.if-not-begins_literal.true) in
    rw (p.1, p.2) (still_fails c.in_err-logical.field-0.0 (logical_at c.args.left (chars c.args.text.now))
    (argument_at (logical_at c.args.left) (chars c.args.text.now)) (λ none. other ∙ rw none refl)
    c.in_err-logical.ensures)

pub argument_at-returns-then-not-begins_literal : goal.argument_at-returns-then-not-begins_literal
argument_at-returns-then-not-begins_literal t c =
    argument_other c.args.left (chars c.args.text.now) (sym c.begins_literal.ensures
    ∙ c.if-not-begins_literal.true)
    ∙ rw (c.in_ok-logical.ensures, c.standing_argument.ensures) refl

pub argument_at-returns-in_err-literal : goal.argument_at-returns-in_err-literal
argument_at-returns-in_err-literal t c =
    let p = err_from_is_err_and c.from_residual-in_err-literal.result
    c.from_residual-in_err-literal.ensures.1 in
    let begins = sym c.begins_literal.ensures ∙ c.if-not-begins_literal.false in
    rw (p.1, p.2) (still_fails c.in_err-literal.field-0.0 (literal_at (chars c.args.text.now))
    (argument_at (logical_at c.args.left) (chars c.args.text.now))
    (argument_none c.args.left (chars c.args.text.now) begins) c.in_err-literal.ensures)

pub argument_at-returns-in-None : goal.argument_at-returns-in-None
argument_at-returns-in-None t c =
    let begins = sym c.begins_literal.ensures ∙ c.if-not-begins_literal.false in
    argument_alone c.args.left (chars c.args.text.now) begins (literal_of c.in_ok-literal.literal)
    (chars c.in_ok-literal.rest.now) c.in_ok-literal.ensures (ap operator_at (sym c.skip.ensures)
    ∙ sym c.in-None.ensures)
    ∙ rw c.literal_argument.ensures refl

pub argument_at-returns-in_err-logical-in-Some : goal.argument_at-returns-in_err-logical-in-Some
argument_at-returns-in_err-logical-in-Some t c =
    let p = err_from_is_err_and c.from_residual-in_err-logical-in-Some.result
    c.from_residual-in_err-logical-in-Some.ensures.1 in
    let begins = sym c.begins_literal.ensures ∙ c.if-not-begins_literal.false in
    let compared = argument_compared c.args.left (chars c.args.text.now) begins
    (literal_of c.in_ok-literal.literal) (chars c.in_ok-literal.rest.now) (chars c.in-Some.after.now)
    c.in-Some.op c.in_ok-literal.ensures (ap operator_at (sym c.skip.ensures)
    ∙ sym c.in-Some.ensures) in
    rw (p.1, p.2) (still_fails c.in_err-logical-in-Some.field-0.0
    (compared_behind c.args.left (tree.literal (literal_of c.in_ok-literal.literal)) c.in-Some.op
    (chars c.in-Some.after.now)) (argument_at (logical_at c.args.left) (chars c.args.text.now))
    (λ none. compared ∙ rw none refl) (rw c.literal_side.ensures at c.in_err-logical-in-Some.ensures))

pub argument_at-returns-in_ok-logical-in-Some : goal.argument_at-returns-in_ok-logical-in-Some
argument_at-returns-in_ok-logical-in-Some t c =
    let begins = sym c.begins_literal.ensures ∙ c.if-not-begins_literal.false in
    argument_compared c.args.left (chars c.args.text.now) begins (literal_of c.in_ok-literal.literal)
    (chars c.in_ok-literal.rest.now) (chars c.in-Some.after.now) c.in-Some.op c.in_ok-literal.ensures
    (ap operator_at (sym c.skip.ensures) ∙ sym c.in-Some.ensures)
    ∙ rw (rw c.literal_side.ensures at c.in_ok-logical-in-Some.ensures, c.compared_argument.ensures) refl
