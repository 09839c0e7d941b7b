-- Each number literal of a query that some text spells is a number of the grammar.
use Rattle.std.proofs.Common.{◌≡◌, ℕ, zero, suc, Bool, true, false, ◌||◌, Option, List, [], ◌∷◌}
use Rattle.std.proofs.Common.{◌++◌, ◌≤◌, Some, None, refl}
use Rattle.std.specs.Prelude.{codes, ◌&&◌}
use Rattle.std.proofs.Props.{props}
use Rattle.std.proofs.Math.Logic.{∥∥₁_elim}
use Rattle.std.specs.List.{AllByRecursion, list_all, list_any}
use Rattle.jp_tree.specs.Tree.{Text}
use Rattle.jp_tree.specs.Tree as tree
use Rattle.jp_tree.specs.Parts.{Star, none, more, Behind, behind, After, after, Separated, separated}
use Rattle.jp_tree.specs.Spelling as is
use Rattle.jp_tokens.specs.Depth.{bracket_depth, max_depth}
use Rattle.jp_types.specs.Numbers as numbers
use Rattle.jp_types.specs.Numbers.{Written, is_fraction, is_in_range, is_in_range_in, are_whole}
use Rattle.jp_number.specs.declared.numbers.Numbers.{Numbers}
use Rattle.jp_number.specs.declared.numbers.Numbers.TheVariants.{Whole, Decimals}
use Rattle.jp_check.specs.inner.Making.{is_readable}
use Rattle.jp_check.proofs.Sound.{both}
use Rattle.jp_check.proofs.LiteralDigits.{IsPlain, number_plain, plain_readable, short_readable}

abbrev ArePlain : List Written → Type 0
ArePlain ns = AllByRecursion IsPlain ns

joined : (ns ms : List Written) → ArePlain ns → ArePlain ms → ArePlain (ns ++ ms)
joined [] ms h k = k
joined (n ∷ ns) ms h k = (h.0, joined ns ms h.1 k)

-- those of a list are those of its parts
module _ {A : Type 0} (all : List A → List Written) (one : A → List Written) (nothing : all [] ≡ [])
    (next : (x : A) (xs : List A) → all (x ∷ xs) ≡ one x ++ all xs) where
  of_parts : (xs : List A) → AllByRecursion (λ x. ArePlain (one x)) xs → ArePlain (all xs)
  of_parts [] h = rw nothing tt
  of_parts (x ∷ xs) h = rw (next x xs) (joined (one x) (all xs) h.0 (of_parts xs h.1))

-- what holds of each part by its text holds of all parts
module _ {A : Type 0} (Part : Text → A → Type 0) (P : A → Type 0) (of : (t : Text) (x : A) → Part t x → P x)
  where
    star_each : (t : Text) (xs : List A) → Star Part t xs → AllByRecursion P xs
    star_each w ys none = tt
    star_each w ys (more s t x xs h k) = (of s x h, star_each t xs k)

    behind_each : (t : Text) (x : A) → Behind Part t x → P x
    behind_each w y (behind s t x b h) = of t x h

    after_each : (mark : Text) (t : Text) (x : A) → After mark Part t x → P x
    after_each mark w y (after r s t x b d h) = of t x h

module _ {A : Type 0} (mark : Text) (Part : Text → A → Type 0) (P : A → Type 0)
    (of : (t : Text) (x : A) → Part t x → P x) where
  separated_each : (t : Text) (xs : List A) → Separated mark Part t xs → AllByRecursion P xs
  separated_each w ys (separated s t x xs h k) =
      (of s x h, star_each (After mark Part) P (after_each Part P of mark) t xs k)

literal_plain : (t : Text) (x : tree.Literal) → is.LiteralIs t x → ArePlain (numbers.literal_numbers x)
literal_plain w y (is.number_literal t h) = (number_plain t h, tt)
literal_plain w y (is.text_literal t v h) = tt
literal_plain w y is.true_literal = tt
literal_plain w y is.false_literal = tt
literal_plain w y is.null_literal = tt

-- a part of a slice is no literal
part_plain : (o : Option Text) → ArePlain (numbers.part_of_slice o)
part_plain None = tt
part_plain (Some t) = (tt, tt)

logicals_plain : (ls : List tree.Logical) → AllByRecursion (λ l. ArePlain (numbers.logical_numbers l)) ls
    → ArePlain (numbers.logicals_numbers (tree.logicals ls))
logicals_plain = of_parts (λ ls. numbers.logicals_numbers (tree.logicals ls)) numbers.logical_numbers refl
    (λ l ls. refl)

all_plain : (ls : List tree.Logical) → AllByRecursion (λ l. ArePlain (numbers.logical_numbers l)) ls
    → ArePlain (numbers.logical_numbers (is.joined tree.all ls))
all_plain [] h = tt
all_plain (l ∷ []) h = h.0
all_plain (l ∷ k ∷ ls) h = logicals_plain (l ∷ k ∷ ls) h

any_plain : (ls : List tree.Logical) → AllByRecursion (λ l. ArePlain (numbers.logical_numbers l)) ls
    → ArePlain (numbers.logical_numbers (is.joined tree.any ls))
any_plain [] h = tt
any_plain (l ∷ []) h = h.0
any_plain (l ∷ k ∷ ls) h = logicals_plain (l ∷ k ∷ ls) h

-- the parts of a query, where those one bracket deeper are so
module _ (Inner : Text → tree.Logical → Type 0)
    (inner : (t : Text) (l : tree.Logical) → Inner t l → ArePlain (numbers.logical_numbers l)) where
  selector_plain : (t : Text) (x : tree.Selector) → is.SelectorIs Inner t x
      → ArePlain (numbers.selector_numbers x)
  selector_plain w y (is.name t v h) = tt
  selector_plain w y is.wildcard = tt
  selector_plain w y (is.index t h) = (tt, tt)
  selector_plain w y (is.slice r s t u first past last a b c d) =
      joined (numbers.part_of_slice first) _ (part_plain first)
      (joined (numbers.part_of_slice past) _ (part_plain past) (part_plain last))
  selector_plain w y (is.filter s t l b h) = inner t l h

  selectors_plain : (xs : List tree.Selector) → AllByRecursion (λ x. ArePlain (numbers.selector_numbers x)) xs
      → ArePlain (numbers.selectors_numbers (tree.selectors xs))
  selectors_plain = of_parts (λ xs. numbers.selectors_numbers (tree.selectors xs)) numbers.selector_numbers
      refl (λ x xs. refl)

  bracketed_plain : (t : Text) (xs : List tree.Selector) → is.BracketedIs Inner t xs
      → ArePlain (numbers.selectors_numbers (tree.selectors xs))
  bracketed_plain w ys (is.bracketed r s t xs b h d) =
      selectors_plain xs (separated_each (codes ",") (is.SelectorIs Inner)
      (λ x. ArePlain (numbers.selector_numbers x)) selector_plain s xs h)

  segment_plain : (t : Text) (s : tree.Segment) → is.SegmentIs Inner t s
      → ArePlain (numbers.segment_numbers s)
  segment_plain w y (is.child_bracketed t xs h) = bracketed_plain t xs h
  segment_plain w y is.child_wildcard = tt
  segment_plain w y (is.child_name t h) = tt
  segment_plain w y (is.descendant_bracketed t xs h) = bracketed_plain t xs h
  segment_plain w y is.descendant_wildcard = tt
  segment_plain w y (is.descendant_name t h) = tt

  segments_plain : (t : Text) (ss : List tree.Segment) → Star (Behind (is.SegmentIs Inner)) t ss
      → ArePlain (numbers.segments_numbers (tree.segments ss))
  segments_plain t ss h =
      of_parts (λ xs. numbers.segments_numbers (tree.segments xs)) numbers.segment_numbers refl (λ x xs. refl)
      ss (star_each (Behind (is.SegmentIs Inner)) (λ s. ArePlain (numbers.segment_numbers s))
      (behind_each (is.SegmentIs Inner) (λ s. ArePlain (numbers.segment_numbers s)) segment_plain) t ss h)

  query_plain : (t : Text) (q : tree.Query) → is.QueryIs Inner t q → ArePlain (numbers.query_numbers q)
  query_plain w y (is.query s t start ss a h) = segments_plain t ss h

  argument_plain : (t : Text) (a : tree.Argument) → is.ArgumentIs Inner t a
      → ArePlain (numbers.argument_numbers a)
  argument_plain w y (is.literal_argument t x h) = literal_plain t x h
  argument_plain w y (is.query_argument t q h k) = inner t (tree.test q) h
  argument_plain w y (is.call_argument t c h k) = inner t (tree.test_call c) h
  argument_plain w y (is.logical_argument t l h k) = inner t l h

  call_plain : (t : Text) (c : tree.Call) → is.CallIs Inner t c → ArePlain (numbers.call_numbers c)
  call_plain w y (is.call_of_none f s h b) = tt
  call_plain w y (is.call f r s t xs h b k d) =
      of_parts (λ ys. numbers.arguments_numbers (tree.arguments ys)) numbers.argument_numbers refl
      (λ y ys. refl) xs (separated_each (codes ",") (is.ArgumentIs Inner)
      (λ x. ArePlain (numbers.argument_numbers x)) argument_plain s xs k)

  comparable_plain : (t : Text) (c : tree.Comparable) → is.ComparableIs Inner t c
      → ArePlain (numbers.comparable_numbers c)
  comparable_plain w y (is.literal_side t x h) = literal_plain t x h
  comparable_plain w y (is.single_side t q h k) = query_plain t q h
  comparable_plain w y (is.call_side t c h) = call_plain t c h

  plain_plain : (t : Text) (l : tree.Logical) → is.PlainIs Inner t l → ArePlain (numbers.logical_numbers l)
  plain_plain w y (is.grouped s t u l b h d) = inner t l h
  plain_plain w y (is.tested t q h) = query_plain t q h
  plain_plain w y (is.called t c h) = call_plain t c h

  basic_plain : (t : Text) (l : tree.Logical) → is.BasicIs Inner t l → ArePlain (numbers.logical_numbers l)
  basic_plain w y (is.plain t l h) = plain_plain t l h
  basic_plain w y (is.negated s t l b h) = plain_plain t l h
  basic_plain w y (is.compared s t left right o h k) =
      joined (numbers.comparable_numbers left) _ (comparable_plain s left h)
      (after_each (is.ComparableIs Inner) (λ c. ArePlain (numbers.comparable_numbers c)) comparable_plain
      (is.operator_text o) t right k)

  and_plain : (t : Text) (l : tree.Logical) → is.AndIs Inner t l → ArePlain (numbers.logical_numbers l)
  and_plain w y (is.and t ls h) = all_plain ls (separated_each (codes "&&") (is.BasicIs Inner)
      (λ l. ArePlain (numbers.logical_numbers l)) basic_plain t ls h)

  or_plain : (t : Text) (l : tree.Logical) → is.OrIs Inner t l → ArePlain (numbers.logical_numbers l)
  or_plain w y (is.or t ls h) = any_plain ls (separated_each (codes "||") (is.AndIs Inner)
      (λ l. ArePlain (numbers.logical_numbers l)) and_plain t ls h)

logical_plain : (levels : ℕ) (t : Text) (l : tree.Logical) → is.LogicalIs levels t l
    → ArePlain (numbers.logical_numbers l)
logical_plain zero t l h = absurd h
logical_plain (suc n) t l h = or_plain (is.LogicalIs n) (logical_plain n) t l h

spelled_plain : (t : Text) (q : tree.Query) → is.Spells t q → ArePlain (numbers.query_numbers q)
spelled_plain w y (is.spells levels t ss h) =
    segments_plain (is.LogicalIs levels) (logical_plain levels) t ss h

-- whole numbers that are written so, with no fraction and in range, can be read
pub neither : (a b : Bool) → (a || b) ≡ false → (a ≡ false) × (b ≡ false)
neither false false h = (refl, refl)
neither false true h = absurd cc
neither true b h = absurd cc

whole_readable : (ns : List Written) → ArePlain ns → list_any is_fraction ns ≡ false
    → list_all is_in_range ns ≡ true → list_all is_readable ns ≡ true
whole_readable [] h f r = refl
whole_readable (n ∷ ns) h f r =
    let g = neither (is_fraction n) _ f in
    let s = both (is_in_range n) _ r in
    rw (plain_readable n h.0 g.0 s.0) (whole_readable ns h.1 g.1 s.1)

-- so can any within the limits
decimal_readable : (ns : List Written) → ArePlain ns → list_all (is_in_range_in Decimals) ns ≡ true
    → list_all is_readable ns ≡ true
decimal_readable [] h r = refl
decimal_readable (n ∷ ns) h r =
    let s = both (is_in_range_in Decimals n) _ r in
    rw (short_readable n h.0 s.0) (decimal_readable ns h.1 s.1)

all_readable : (which : Numbers) (ns : List Written) → ArePlain ns
    → (are_whole which && list_any is_fraction ns) ≡ false → list_all (is_in_range_in which) ns ≡ true
    → list_all is_readable ns ≡ true
all_readable Whole ns h f r = whole_readable ns h f r
all_readable Decimals ns h f r = decimal_readable ns h r

readable_set : (ns : List Written) → IsProp (list_all is_readable ns ≡ true)
readable_set ns = hlevel props

-- the numbers of a query that is spelled by some text, has no fraction that is refused and is in range
pub spelled_readable : (which : Numbers) (q : tree.Query)
    → ∥ ((t : Text) × (bracket_depth t ≤ max_depth) × is.Spells t q) ∥₁
    → (are_whole which && numbers.has_fraction q) ≡ false → numbers.in_range_in which q ≡ true
    → list_all is_readable (numbers.query_numbers q) ≡ true
spelled_readable which q spelled f r = ∥∥₁_elim spelled (readable_set (numbers.query_numbers q))
    (λ s. all_readable which (numbers.query_numbers q) (spelled_plain s.0 q s.2) f r)
