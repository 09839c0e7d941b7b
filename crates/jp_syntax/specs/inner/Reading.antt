-- A working file, which nobody has to believe: what each function of the reader reads, from left to right:
-- selectors, segments, queries, logical expressions, calls and their arguments, put together of what the
-- `Reading` of `jp_tokens` reads.
-- No clause of `read_query` names this file: `Spelling` says what a text spells, and that this is the same is
-- proved in `ReadSound` and `ReadWhole`.
use Rattle.std.specs.Prelude.{ℕ, zero, suc, Bool, true, false, ◌||◌, ◌&&◌, ◌==◌, if◌then◌else◌}
use Rattle.std.specs.Prelude.{List, [], ◌∷◌, length, Option, Some, None, is_none}
use Rattle.jp_tree.specs.declared.tree.Start.TheVariants.{Root, Current}
use Rattle.jp_tree.specs.declared.tree.Operator.{Operator}
use Rattle.jp_tree.specs.Tree.{Text}
use Rattle.jp_tree.specs.Tree as tree
use Rattle.jp_tree.specs.Characters.{is_quote}
use Rattle.jp_tree.specs.Singular.{is_singular}
use Rattle.jp_tree.specs.Spelling.{joined, begins_with}
use Rattle.jp_syntax.specs.declared.connective.Connective.{Connective}
use Rattle.jp_syntax.specs.declared.connective.Connective.TheVariants.{And, Or}
use Rattle.jp_tokens.specs.Reading.{Outcome, Reader, Turn, ◌>>=◌, skip, mark_at, all_of, function_name_at}
use Rattle.jp_tokens.specs.Reading.{string_at, literal_at, numbers_at, operator_at, calls, named_at}

-- ---- lists with commas

-- a comma and another item, or the character that closes the list
unfoldable pub next_item : {A : Type 0} → ℕ → Reader A → Text → Turn A
next_item close item [] = None
next_item close item (c ∷ t) =
    if c == 44 then (item (skip t) >>= λ r. Some (Some r.0, r.1))
    else if c == close then Some (None, t)
    else None

-- one item or more with commas between, and the character that closes the list
unfoldable pub items_at : {A : Type 0} → ℕ → Reader A → Reader (List A)
items_at close item t = item t >>= λ first. all_of (λ u. next_item close item (skip u)) (first.0 ∷ []) first.1

-- ---- parts that hold logical expressions

-- a literal that is no side of a comparison
unfoldable pub lone_literal_at : Reader tree.Literal
lone_literal_at t =
    if calls t then None
    else (literal_at t >>= λ r. if is_none (operator_at (skip r.1)) then Some r else None)

-- a side of a comparison, where a query may be any query
abbrev pub as_test : tree.Comparable → Option tree.Logical
as_test (tree.literal x) = None
as_test (tree.single q) = Some (tree.test q)
as_test (tree.value_call c) = Some (tree.test_call c)

-- whether a side may stand in a comparison
abbrev pub is_side : tree.Comparable → Bool
is_side (tree.literal x) = true
is_side (tree.single q) = is_singular q
is_side (tree.value_call c) = true

-- the two sides with the operator between them, and the rest, where both may stand in a comparison
abbrev pub sides_compared : tree.Comparable → Operator → tree.Comparable → Reader tree.Logical
sides_compared left o right t =
    if is_side left && is_side right then Some (tree.comparing (tree.comparison left o right), t) else None

-- the argument that a logical expression is, where `true` says that a parenthesis begins it
abbrev pub argument_of : Bool → tree.Logical → tree.Argument
argument_of true l = tree.logical_argument l
argument_of false (tree.any ls) = tree.logical_argument (tree.any ls)
argument_of false (tree.all ls) = tree.logical_argument (tree.all ls)
argument_of false (tree.negation l) = tree.logical_argument (tree.negation l)
argument_of false (tree.comparing c) = tree.logical_argument (tree.comparing c)
argument_of false (tree.test q) = tree.query_argument q
argument_of false (tree.test_call c) = tree.call_argument c

-- the mark twice and another part, or the end, before the blanks
unfoldable pub next_part : {A : Type 0} → ℕ → Reader A → Text → Text → Turn A
next_part mark part whole [] = Some (None, whole)
next_part mark part whole (c ∷ t) =
    if c == mark then (mark_at mark t >>= λ u. part (skip u) >>= λ r. Some (Some r.0, r.1))
    else Some (None, whole)

-- the character of which a connective is two, and what it makes of its parts
abbrev pub mark_of : Connective → ℕ
mark_of And = 38
mark_of Or = 124

abbrev pub whole_of : Connective → tree.Logicals → tree.Logical
whole_of And = tree.all
whole_of Or = tree.any

-- the parts behind those that are found
abbrev pub parts_behind : Connective → Reader tree.Logical → List tree.Logical → Reader (List tree.Logical)
parts_behind by part found t = all_of (λ u. next_part (mark_of by) part u (skip u)) found t

-- behind the first part
abbrev pub joined_behind : Connective → Reader tree.Logical → tree.Logical → Reader tree.Logical
joined_behind by part first t =
    parts_behind by part (first ∷ []) t >>= λ parts.
    Some (joined (whole_of by) parts.0, parts.1)

-- a side by itself
unfoldable pub tested_at : tree.Comparable → Reader tree.Logical
tested_at x t = as_test x >>= λ l. Some (l, t)

-- `inner` reads a logical expression one bracket deeper
module _ (inner : Reader tree.Logical) where
  unfoldable pub selector_at : Reader tree.Selector
  selector_at [] = None
  selector_at (c ∷ t) =
      if is_quote c then (string_at c t >>= λ r. Some (tree.name r.0, r.1))
      else if c == 42 then Some (tree.wildcard, t)
      else if c == 63 then (inner (skip t) >>= λ r. Some (tree.filter r.0, r.1))
      else numbers_at (c ∷ t)

  -- a comma and another selector, or `]`
  abbrev pub next_selector : Text → Turn tree.Selector
  next_selector t = next_item 93 selector_at t

  -- the selectors behind those that are found, up to `]`
  abbrev pub selectors_behind : List tree.Selector → Reader (List tree.Selector)
  selectors_behind found t = all_of (λ u. next_selector (skip u)) found t

  -- behind `[`
  abbrev pub bracketed_at : Reader (List tree.Selector)
  bracketed_at t = items_at 93 selector_at (skip t)

  -- behind `..`
  unfoldable pub descendant_at : Reader tree.Segment
  descendant_at [] = None
  descendant_at (c ∷ t) =
      if c == 91 then (bracketed_at t >>= λ r. Some (tree.descendant r.0, r.1))
      else named_at tree.descendant (c ∷ t)

  -- behind `.`
  unfoldable pub dotted_at : Reader tree.Segment
  dotted_at [] = None
  dotted_at (c ∷ t) = if c == 46 then descendant_at t else named_at tree.child (c ∷ t)

  -- another segment, or the end, before the blanks
  unfoldable pub segment_behind : Text → Text → Turn tree.Segment
  segment_behind whole [] = Some (None, whole)
  segment_behind whole (c ∷ t) =
      if c == 46 then (dotted_at t >>= λ r. Some (Some r.0, r.1))
      else if c == 91 then (bracketed_at t >>= λ r. Some (Some (tree.child r.0), r.1))
      else Some (None, whole)

  -- the segments behind those that are found
  abbrev pub segments_behind : List tree.Segment → Reader (List tree.Segment)
  segments_behind found t = all_of (λ u. segment_behind u (skip u)) found t

  abbrev pub segments_at : Reader (List tree.Segment)
  segments_at t = segments_behind [] t

  unfoldable pub query_at : Reader tree.Query
  query_at [] = None
  query_at (c ∷ t) =
      if c == 36 then (segments_at t >>= λ r. Some (tree.query_from Root r.0, r.1))
      else if c == 64 then (segments_at t >>= λ r. Some (tree.query_from Current r.0, r.1))
      else None

  unfoldable pub argument_at : Reader tree.Argument
  argument_at t =
      if is_none (lone_literal_at t) then (inner t >>= λ r. Some (argument_of (begins_with 40 t) r.0, r.1))
      else (lone_literal_at t >>= λ r. Some (tree.literal_argument r.0, r.1))

  -- a comma and another argument, or `)`
  abbrev pub next_argument : Text → Turn tree.Argument
  next_argument t = next_item 41 argument_at t

  -- the arguments behind those that are found, up to `)`
  abbrev pub arguments_behind : List tree.Argument → Reader (List tree.Argument)
  arguments_behind found t = all_of (λ u. next_argument (skip u)) found t

  -- behind `(` and blanks: arguments, and `)`
  unfoldable pub arguments_at : Reader (List tree.Argument)
  arguments_at [] = None
  arguments_at (c ∷ t) = if c == 41 then Some ([], t) else items_at 41 argument_at (c ∷ t)

  unfoldable pub call_at : Reader tree.Call
  call_at t =
      function_name_at t >>= λ name.
      mark_at 40 name.1 >>= λ u.
      arguments_at (skip u) >>= λ r.
      Some (tree.call name.0 (tree.arguments r.0), r.1)

  -- a literal, a query or a call
  unfoldable pub operand_at : Reader tree.Comparable
  operand_at [] = None
  operand_at (c ∷ t) =
      if c == 36 || c == 64 then (query_at (c ∷ t) >>= λ r. Some (tree.single r.0, r.1))
      else if calls (c ∷ t) then (call_at (c ∷ t) >>= λ r. Some (tree.value_call r.0, r.1))
      else (literal_at (c ∷ t) >>= λ r. Some (tree.literal r.0, r.1))

  -- behind `(`
  unfoldable pub grouped_at : Reader tree.Logical
  grouped_at t =
      inner (skip t) >>= λ inside.
      mark_at 41 (skip inside.1) >>= λ u.
      Some (inside.0, u)

  unfoldable pub plain_at : Reader tree.Logical
  plain_at [] = None
  plain_at (c ∷ t) =
      if c == 40 then grouped_at t
      else (operand_at (c ∷ t) >>= λ r. tested_at r.0 r.1)

  -- behind the operator
  unfoldable pub right_at : tree.Comparable → Operator → Reader tree.Logical
  right_at left o t =
      operand_at (skip t) >>= λ right. sides_compared left o right.0 right.1

  abbrev pub compared_at : tree.Comparable → Text → Outcome Operator → Outcome tree.Logical
  compared_at left t None = tested_at left t
  compared_at left t (Some found) = right_at left found.0 found.1

  unfoldable pub basic_at : Reader tree.Logical
  basic_at [] = None
  basic_at (c ∷ t) =
      if c == 33 then (plain_at (skip t) >>= λ r. Some (tree.negation r.0, r.1))
      else if c == 40 then grouped_at t
      else (operand_at (c ∷ t) >>= λ r. compared_at r.0 r.1 (operator_at (skip r.1)))

  -- behind the first part of `&&`
  abbrev pub and_behind : tree.Logical → Reader tree.Logical
  and_behind first t = joined_behind And basic_at first t

  unfoldable pub and_at : Reader tree.Logical
  and_at t = basic_at t >>= λ first. and_behind first.0 first.1

  -- behind the first part of `||`
  abbrev pub or_behind : tree.Logical → Reader tree.Logical
  or_behind first t = joined_behind Or and_at first t

  unfoldable pub or_at : Reader tree.Logical
  or_at t = and_at t >>= λ first. or_behind first.0 first.1

  -- what a connective stands between
  abbrev pub part_at : Connective → Reader tree.Logical
  part_at And = basic_at
  part_at Or = and_at

-- a logical expression in which logical expressions stand inside each other at most so many deep
unfoldable pub logical_at : ℕ → Reader tree.Logical
logical_at zero t = None
logical_at (suc n) t = or_at (logical_at n) t

-- behind the left side of a comparison, which begins such an expression, and its operator
unfoldable pub compared_behind : ℕ → tree.Comparable → Operator → Reader tree.Logical
compared_behind zero left o t = None
compared_behind (suc n) left o t =
    right_at (logical_at n) left o t >>= λ basic.
    and_behind (logical_at n) basic.0 basic.1 >>= λ part.
    or_behind (logical_at n) part.0 part.1

-- the whole text, in which logical expressions stand inside each other at most so many deep
unfoldable pub read : ℕ → Text → Option tree.Query
read n [] = None
read n (c ∷ t) =
    if c == 36 then
    (segments_at (logical_at n) t >>= λ r.
    if length r.1 == 0 then Some (tree.query_from Root r.0) else None)
    else None
