-- A working file, which nobody has to believe: a reader of patterns, by which a text has at most one
-- tree. Each function reads from the front, and gives what it read and the rest. The contracts of the
-- code that reads follow it; no public contract names it.
use Rattle.std.specs.Prelude.{ℕ, zero, suc, ◌+◌, ◌-◌, ◌*◌, true, false, not, ◌&&◌, Bool, ◌==◌, nat_le, List}
use Rattle.std.specs.Prelude.{[], ◌∷◌, ◌++◌, length, Option, Some, None, option_map, option_and_then}
use Rattle.std.specs.Str.{bytes_eq}
use Rattle.std.specs.Prelude.{if◌then◌else◌}
use Rattle.unicode.specs.declared.properties.GeneralCategory.{GeneralCategory}
use Rattle.jp_pattern.specs.Pattern.{Text, Element, CharSet, Pattern}
use Rattle.jp_pattern.specs.CategoryNames.{category_names}
use Rattle.jp_pattern.specs.Profile.{max_count, max_depth}
use Rattle.jp_pattern.specs.Quantity.{is_digit}
use Rattle.jp_pattern.specs.Tree.{before_last, node_of}
use Rattle.jp_pattern.specs.declared.tree.NextPart.{NextPart as HeldNextPart}
use Rattle.jp_pattern.specs.declared.tree.NextPart.TheVariants as turns
use Rattle.jp_pattern.specs.declared.tree.Quantity.{Quantity}
use Rattle.jp_pattern.specs.declared.tree.Quantity.TheVariants as quantities
use Rattle.jp_pattern.specs.CharSetShape.{is_normal, is_class_normal, is_escaped}

abbrev pub Parse : Type 0 → Type 0
Parse A = Text → Option (A × Text)

-- ---- escapes and categories

abbrev pub single_value : ℕ → Option ℕ
single_value c = if c == 110 then Some 10 else if c == 114 then Some 13 else if c == 116 then Some 9
    else if is_escaped c then Some c else None

-- behind a backslash
abbrev pub single_at : Parse ℕ
single_at [] = None
single_at (c ∷ t) = option_map (λ v. (v, t)) (single_value c)

-- what the first row of this name says
abbrev pub row_named : Text → List (Text × List GeneralCategory) → Option (List GeneralCategory)
row_named name [] = None
row_named name (row ∷ rows) = if bytes_eq row.0 name then Some row.1 else row_named name rows

-- the categories of a name
abbrev pub categories_named : Text → Option (List GeneralCategory)
categories_named name = row_named name category_names

abbrev pub named : Text → Parse (List GeneralCategory)
named name t = option_map (λ cs. (cs, t)) (categories_named name)

abbrev pub second_letter_at : ℕ → ℕ → Parse (List GeneralCategory)
second_letter_at c d [] = None
second_letter_at c d (e ∷ t) = if e == 125 then named (c ∷ d ∷ []) t else None

abbrev pub first_letter_at : ℕ → Parse (List GeneralCategory)
first_letter_at c [] = None
first_letter_at c (d ∷ t) = if d == 125 then named (c ∷ []) t else second_letter_at c d t

-- a name and the brace behind it
abbrev pub name_at : Parse (List GeneralCategory)
name_at [] = None
name_at (c ∷ t) = first_letter_at c t

-- behind `\p` or `\P`
abbrev pub category_at : Parse (List GeneralCategory)
category_at [] = None
category_at (c ∷ t) = if c == 123 then name_at t else None

-- ---- classes

abbrev pub inner_at : Parse ℕ
inner_at [] = None
inner_at (c ∷ t) = if c == 92 then single_at t else if is_class_normal c then Some (c, t) else None

abbrev pub range_from : ℕ → ℕ × Text → Option (Element × Text)
range_from low r = if nat_le low r.0 then Some (Element.range low r.0, r.1) else None

-- a range, or the character that was read
abbrev pub after_inner : ℕ → Parse Element
after_inner low [] = Some (Element.one low, [])
after_inner low (d ∷ []) = Some (Element.one low, d ∷ [])
after_inner low (d ∷ e ∷ t) =
    if d == 45 && not (e == 93) then option_and_then (range_from low) (inner_at (e ∷ t))
    else Some (Element.one low, d ∷ e ∷ t)

abbrev pub category_element_at : Bool → Parse Element
category_element_at negated t = option_map (λ r. (Element.of_category negated r.0, r.1)) (category_at t)

abbrev pub escape_element_at : Parse Element
escape_element_at [] = None
escape_element_at (d ∷ t) =
    if d == 112 then category_element_at false t
    else if d == 80 then category_element_at true t
    else option_and_then (λ r. after_inner r.0 r.1) (single_at (d ∷ t))

abbrev pub element_at : Parse Element
element_at [] = None
element_at (c ∷ t) = if c == 92 then escape_element_at t else if is_class_normal c then after_inner c t
    else None

abbrev pub close_at : Parse (List Element)
close_at [] = None
close_at (d ∷ t) = if d == 93 then Some (Element.one 45 ∷ [], t) else None

abbrev pub with_element : (Parse (List Element)) → Element × Text → Option (List Element × Text)
with_element rest r = option_map (λ q. (r.0 ∷ q.0, q.1)) (rest r.1)

-- up to the bracket that closes the class
abbrev pub elements_at : ℕ → Parse (List Element)
elements_at zero t = None
elements_at (suc n) [] = None
elements_at (suc n) (c ∷ t) =
    if c == 93 then Some ([], t)
    else if c == 45 then close_at t
    else option_and_then (with_element (elements_at n)) (element_at (c ∷ t))

-- the next element, if there is one, and whether others may follow
abbrev pub next_element_at : Text → Option (Option Element × Bool × Text)
next_element_at [] = None
next_element_at (c ∷ t) =
    if c == 93 then Some (None, false, t)
    else if c == 45 then option_map (λ q. (Some (Element.one 45), false, q.1)) (close_at t)
    else option_map (λ r. (Some r.0, true, r.1)) (element_at (c ∷ t))

-- behind the elements that were found
abbrev pub elements_behind : List Element → ℕ → Parse (List Element)
elements_behind found n t = option_map (λ q. (found ++ q.0, q.1)) (elements_at n t)

abbrev pub listing_at : ℕ → Parse (List Element)
listing_at n [] = None
listing_at n (c ∷ t) =
    if c == 45 then option_map (λ q. (Element.one 45 ∷ q.0, q.1)) (elements_at n t)
    else option_and_then (with_element (elements_at n)) (element_at (c ∷ t))

abbrev pub class_of : Bool → Parse CharSet
class_of negated t = option_map (λ q. (CharSet.class negated q.0, q.1)) (listing_at (suc (length t)) t)

abbrev pub class_at : Parse CharSet
class_at [] = None
class_at (c ∷ t) = if c == 94 then class_of true t else class_of false (c ∷ t)

abbrev pub category_set_at : Bool → Parse CharSet
category_set_at negated t = option_map (λ r. (CharSet.category negated r.0, r.1)) (category_at t)

abbrev pub escape_set_at : Parse CharSet
escape_set_at [] = None
escape_set_at (d ∷ t) =
    if d == 112 then category_set_at false t
    else if d == 80 then category_set_at true t
    else option_map (λ r. (CharSet.only r.0, r.1)) (single_at (d ∷ t))

abbrev pub set_at : Parse CharSet
set_at [] = None
set_at (c ∷ t) =
    if c == 46 then Some (CharSet.dot, t)
    else if c == 92 then escape_set_at t
    else if c == 91 then class_at t
    else if is_normal c then Some (CharSet.only c, t)
    else None

-- ---- quantities

abbrev pub digits_at : ℕ → Text → ℕ × Text
digits_at n [] = (n, [])
digits_at n (c ∷ t) = if is_digit c then digits_at (n * 10 + (c - 48)) t else (n, c ∷ t)

abbrev pub count_at : Parse ℕ
count_at [] = None
count_at (c ∷ t) = if is_digit c then Some (digits_at 0 (c ∷ t)) else None

-- what a quantity makes of its atom
abbrev pub Change : Type 0
Change = Pattern → Pattern

abbrev pub close_count_at : ℕ → ℕ → Parse Change
close_count_at n m [] = None
close_count_at n m (c ∷ t) = if c == 125 then Some (Pattern.repeat n (Some m), t) else None

abbrev pub after_comma_at : ℕ → Parse Change
after_comma_at n [] = None
after_comma_at n (c ∷ t) = if c == 125 then Some (Pattern.repeat n None, t)
    else option_and_then (λ r. close_count_at n r.0 r.1) (count_at (c ∷ t))

abbrev pub after_least_at : ℕ → Parse Change
after_least_at n [] = None
after_least_at n (c ∷ t) = if c == 125 then Some (Pattern.repeat n (Some n), t)
    else if c == 44 then after_comma_at n t else None

abbrev pub quantity_at : Parse Change
quantity_at [] = Some ((λ p. p), [])
quantity_at (c ∷ t) =
    if c == 42 then Some (Pattern.repeat 0 None, t)
    else if c == 63 then Some (Pattern.repeat 0 (Some 1), t)
    else if c == 43 then Some (Pattern.plus, t)
    else if c == 123 then option_and_then (λ r. after_least_at r.0 r.1) (count_at t)
    else Some ((λ p. p), c ∷ t)

-- ---- patterns

abbrev pub close_group_at : Pattern → Parse Pattern
close_group_at p [] = None
close_group_at p (c ∷ t) = if c == 41 then Some (Pattern.group p, t) else None

abbrev pub atom_at : Parse Pattern → Parse Pattern
atom_at inner [] = None
atom_at inner (c ∷ t) =
    if c == 40 then option_and_then (λ r. close_group_at r.0 r.1) (inner t)
    else option_map (λ r. (Pattern.letter r.0, r.1)) (set_at (c ∷ t))

abbrev pub with_quantity : Pattern × Text → Option (Pattern × Text)
with_quantity a = option_map (λ q. (q.0 a.0, q.1)) (quantity_at a.1)

abbrev pub piece_at : Parse Pattern → Parse Pattern
piece_at inner t = option_and_then with_quantity (atom_at inner t)

-- the piece in front of the first branch
abbrev pub prepend : Pattern → Pattern → Pattern
prepend p (Pattern.either b q) = Pattern.either (Pattern.seq p b) q
prepend p q = Pattern.seq p q

abbrev pub with_piece : Parse Pattern → Pattern × Text → Option (Pattern × Text)
with_piece rest a = option_map (λ r. (prepend a.0 r.0, r.1)) (rest a.1)

-- up to the end or a closing parenthesis; the number bounds the turns
abbrev pub pattern_at : ℕ → Parse Pattern
pattern_at zero t = None
pattern_at (suc n) [] = Some (Pattern.empty, [])
pattern_at (suc n) (c ∷ t) =
    if c == 41 then Some (Pattern.empty, c ∷ t)
    else if c == 124 then option_map (λ r. (Pattern.either Pattern.empty r.0, r.1)) (pattern_at n t)
    else option_and_then (with_piece (pattern_at n)) (piece_at (pattern_at n) (c ∷ t))

abbrev pub if_whole : Pattern × Text → Option Pattern
if_whole (p, []) = Some p
if_whole (p, c ∷ t) = None

abbrev pub read : Text → Option Pattern
read t = option_and_then if_whole (pattern_at (suc (length t)) t)

-- ---- the same within the limits, as the code reads

-- what a quantity makes of its atom
abbrev pub with_quantity_of : Quantity → Pattern → Pattern
with_quantity_of quantities.Once p = p
with_quantity_of quantities.Plus p = Pattern.plus p
with_quantity_of (quantities.Repeat least most) p = Pattern.repeat least most p

-- the number goes on with digits, up to the greatest count
abbrev pub digits_within : ℕ → Parse ℕ
digits_within n [] = Some (n, [])
digits_within n (c ∷ t) =
    if is_digit c then (if nat_le (n * 10 + (c - 48)) max_count then digits_within (n * 10 + (c - 48)) t
    else None)
    else Some (n, c ∷ t)

abbrev pub count_within : Parse ℕ
count_within [] = None
count_within (c ∷ t) = if is_digit c then digits_within 0 (c ∷ t) else None

abbrev pub close_count_within : ℕ → ℕ → Parse Quantity
close_count_within n m [] = None
close_count_within n m (c ∷ t) = if c == 125 && nat_le n m then Some (quantities.Repeat n (Some m), t)
    else None

abbrev pub after_comma_within : ℕ → Parse Quantity
after_comma_within n [] = None
after_comma_within n (c ∷ t) =
    if c == 125 then Some (quantities.Repeat n None, t)
    else option_and_then (λ r. close_count_within n r.0 r.1) (count_within (c ∷ t))

abbrev pub after_least_within : ℕ → Parse Quantity
after_least_within n [] = None
after_least_within n (c ∷ t) =
    if c == 125 then Some (quantities.Repeat n (Some n), t)
    else if c == 44 then after_comma_within n t
    else None

abbrev pub quantity_within : Parse Quantity
quantity_within [] = Some (quantities.Once, [])
quantity_within (c ∷ t) =
    if c == 42 then Some (quantities.Repeat 0 None, t)
    else if c == 63 then Some (quantities.Repeat 0 (Some 1), t)
    else if c == 43 then Some (quantities.Plus, t)
    else if c == 123 then option_and_then (λ r. after_least_within r.0 r.1) (count_within t)
    else Some (quantities.Once, c ∷ t)

-- inner reads with so many parentheses left
unfoldable pub group_within : (ℕ → Parse Pattern) → ℕ → Parse Pattern
group_within inner left t = if left == 0 then None
    else option_and_then (λ r. close_group_at r.0 r.1) (inner (left - 1) t)

unfoldable pub atom_within : (ℕ → Parse Pattern) → ℕ → Parse Pattern
atom_within inner left [] = None
atom_within inner left (c ∷ t) =
    if c == 40 then group_within inner left t
    else option_map (λ r. (Pattern.letter r.0, r.1)) (set_at (c ∷ t))

abbrev pub quantified_within : Pattern × Text → Option (Pattern × Text)
quantified_within a = option_map (λ q. (with_quantity_of q.0 a.0, q.1)) (quantity_within a.1)

unfoldable pub piece_within : (ℕ → Parse Pattern) → ℕ → Parse Pattern
piece_within inner left t = option_and_then quantified_within (atom_within inner left t)

-- what comes next in a pattern
pub data NextPart : Type 0 where
  end : NextPart
  bar : NextPart
  piece : Pattern → NextPart

unfoldable pub next_part : (ℕ → Parse Pattern) → ℕ → Parse NextPart
next_part inner left [] = Some (end, [])
next_part inner left (c ∷ t) =
    if c == 41 then Some (end, c ∷ t)
    else if c == 124 then Some (bar, t)
    else option_map (λ r. (piece r.0, r.1)) (piece_within inner left (c ∷ t))

abbrev pub after_part : Parse Pattern → NextPart × Text → Option (Pattern × Text)
after_part rest (end, t) = Some (Pattern.empty, t)
after_part rest (bar, t) = option_map (λ r. (Pattern.either Pattern.empty r.0, r.1)) (rest t)
after_part rest (piece p, t) = with_piece rest (p, t)

-- up to the end or a closing parenthesis, with so many parentheses left; the second number bounds the turns
unfoldable pub pattern_within : ℕ → ℕ → Parse Pattern
pattern_within left zero t = None
pattern_within left (suc n) t =
    option_and_then (after_part (pattern_within left n)) (next_part (λ l. pattern_within l n) left t)

unfoldable pub read_within : Text → Option Pattern
read_within t = option_and_then if_whole (pattern_within max_depth (length t + 1) t)

-- these branches and pieces stand before what follows
abbrev pub behind_pieces : List Pattern → Pattern → Pattern
behind_pieces [] q = q
behind_pieces (p ∷ ps) q = prepend p (behind_pieces ps q)

abbrev pub behind_all : List Pattern → List Pattern → Pattern → Pattern
behind_all branches pieces q = before_last branches (behind_pieces pieces q)

-- those that were read stand before what follows
abbrev pub pattern_behind : List Pattern → List Pattern → Option (Pattern × Text) → Option (Pattern × Text)
pattern_behind branches pieces = option_map (λ r. (behind_all branches pieces r.0, r.1))

abbrev pub next_part_of : HeldNextPart → NextPart
next_part_of turns.End = end
next_part_of turns.Bar = bar
next_part_of (turns.Piece n) = piece (node_of n)
