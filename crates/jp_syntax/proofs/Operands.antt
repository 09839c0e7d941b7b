-- Sides by themselves, and what begins each part.
use Rattle.std.proofs.Common.{◌≡◌, ℕ, zero, suc, Bool, true, false, ◌||◌, ◌==◌, List, [], ◌∷◌, ◌++◌, Some}
use Rattle.std.proofs.Common.{refl, subst}
use Rattle.std.proofs.lemmas.Option.{same_Some}
use Rattle.jp_tree.specs.Tree.{Text}
use Rattle.jp_tree.specs.Tree as tree
use Rattle.jp_tree.specs.Characters.{is_lower, is_positive_digit, is_quote}
use Rattle.jp_tree.specs.Parts.{run, Separated, separated}
use Rattle.jp_tree.specs.Strings.{quoted}
use Rattle.jp_tree.specs.Numbers.{zero_int, positive_int, negative_int, IsWhole, whole_int, minus_zero}
use Rattle.jp_tree.specs.Numbers.{number}
use Rattle.jp_tree.specs.Spelling as is
use Rattle.jp_tree.specs.Spelling.{IsFunctionName, LiteralIs, QueryIs, CallIs, ComparableIs}
use Rattle.jp_tree.specs.Spelling.{PlainIs, BasicIs, AndIs, OrIs, LogicalIs, begins_with}
use Rattle.jp_syntax.specs.inner.Reading.{as_test, is_side}
use Rattle.jp_tokens.proofs.Following.{firm, differs}

-- what a literal, a side by itself and a logical expression begin with
abbrev pub is_literal_lead : ℕ → Bool
is_literal_lead c = c == 45 || is_positive_digit c || c == 48 || is_quote c || is_lower c

abbrev pub is_operand_lead : ℕ → Bool
is_operand_lead c = c == 36 || c == 64 || is_literal_lead c

abbrev pub is_lead : ℕ → Bool
is_lead c = c == 40 || c == 33 || is_operand_lead c

-- there is a first character, which is of this class
abbrev pub leads_in : (ℕ → Bool) → Text → Bool
leads_in p [] = false
leads_in p (c ∷ s) = p c

abbrev pub leads : Text → Bool
leads s = leads_in is_lead s

in_append : (p : ℕ → Bool) (s t : Text) → leads_in p s ≡ true → leads_in p (s ++ t) ≡ true
in_append p [] t h = absurd cc
in_append p (c ∷ s) t h = h

in_wider : (p q : ℕ → Bool) → ((c : ℕ) → p c ≡ true → q c ≡ true) → (s : Text) → leads_in p s ≡ true
    → leads_in q s ≡ true
in_wider p q wider [] h = absurd cc
in_wider p q wider (c ∷ s) h = wider c h

pub leads_append : (s t : Text) → leads s ≡ true → leads (s ++ t) ≡ true
leads_append s t h = in_append is_lead s t h

pub leads_firm : (s : Text) → leads s ≡ true → firm s ≡ true
leads_firm [] h = absurd cc
leads_firm (c ∷ s) h = rw (
  differs is_lead 32 refl c h,
  differs is_lead 9 refl c h,
  differs is_lead 10 refl c
      h,
  differs is_lead 13 refl c h,
) refl

or_right : (x y : Bool) → y ≡ true → (x || y) ≡ true
or_right true y h = refl
or_right false y h = h

or_left : (x y : Bool) → x ≡ true → (x || y) ≡ true
or_left x y h = rw h refl

lower_leads : (c : ℕ) → is_lower c ≡ true → is_literal_lead c ≡ true
lower_leads c h = or_right _ (is_lower c) h

quote_leads : (c : ℕ) → is_quote c ≡ true → is_literal_lead c ≡ true
quote_leads c h = or_left _ (is_lower c) (or_right _ (is_quote c) h)

digit_leads : (c : ℕ) → is_positive_digit c ≡ true → is_literal_lead c ≡ true
digit_leads c h = or_left _ (is_lower c)
    (or_left _ (is_quote c) (or_left _ (c == 48) (or_right _ (is_positive_digit c) h)))

operand_wider : (c : ℕ) → is_literal_lead c ≡ true → is_operand_lead c ≡ true
operand_wider c h = or_right (c == 36 || c == 64) (is_literal_lead c) h

lead_wider : (c : ℕ) → is_operand_lead c ≡ true → is_lead c ≡ true
lead_wider c h = or_right (c == 40 || c == 33) (is_operand_lead c) h

begins_none : (p : ℕ → Bool) (d : ℕ) (s : Text) → p d ≡ false → leads_in p s ≡ true → begins_with d s ≡ false
begins_none p d [] n h = absurd cc
begins_none p d (c ∷ s) n h = differs p d n c h

pub begins_front : (c : ℕ) (s t : Text) → firm s ≡ true → begins_with c (s ++ t) ≡ begins_with c s
begins_front c [] t h = absurd cc
begins_front c (d ∷ s) t h = refl

name_leads : (f t : Text) → IsFunctionName f → leads_in is_operand_lead (f ++ t) ≡ true
name_leads f t (run c u h k) = operand_wider c (lower_leads c h)

whole_leads : (s : Text) → IsWhole s → leads_in is_literal_lead s ≡ true
whole_leads s (whole_int t zero_int) = refl
whole_leads s (whole_int t (positive_int c u d h)) = digit_leads c d
whole_leads s (whole_int t (negative_int c u d h)) = refl
whole_leads s minus_zero = refl

literal_lead : (s : Text) (x : tree.Literal) → LiteralIs s x → leads_in is_literal_lead s ≡ true
literal_lead s x (is.number_literal t (number r u v w f e)) = in_append is_literal_lead r (u ++ v)
    (whole_leads r w)
literal_lead s x (is.text_literal t value (quoted quote u v q ps)) = quote_leads quote q
literal_lead s x is.true_literal = refl
literal_lead s x is.false_literal = refl
literal_lead s x is.null_literal = refl

pub literal_leads : (s : Text) (x : tree.Literal) → LiteralIs s x → leads s ≡ true
literal_leads s x p = in_wider is_operand_lead is_lead lead_wider s (in_wider is_literal_lead is_operand_lead
    operand_wider s (literal_lead s x p))

-- a literal begins with none of these
pub literal_begins : (d : ℕ) (s : Text) (x : tree.Literal) → LiteralIs s x → is_literal_lead d ≡ false
    → begins_with d s ≡ false
literal_begins d s x p n = begins_none is_literal_lead d s n (literal_lead s x p)

module _ (Inner : Text → tree.Logical → Type 0) where
  -- a literal, a query or a call
  pub data OperandIs : Text → tree.Comparable → Type 0 where
    literal_operand : (t : Text) (x : tree.Literal) → LiteralIs t x → OperandIs t (tree.literal x)
    query_operand : (t : Text) (q : tree.Query) → QueryIs Inner t q → OperandIs t (tree.single q)
    call_operand : (t : Text) (c : tree.Call) → CallIs Inner t c → OperandIs t (tree.value_call c)

  pub side_of : (s : Text) (x : tree.Comparable) → OperandIs s x → is_side x ≡ true → ComparableIs Inner s x
  side_of s x (literal_operand t y p) h = is.literal_side t y p
  side_of s x (query_operand t q p) h = is.single_side t q p h
  side_of s x (call_operand t c p) h = is.call_side t c p

  pub operand_of : (s : Text) (x : tree.Comparable) → ComparableIs Inner s x → OperandIs s x
  operand_of s x (is.literal_side t y p) = literal_operand t y p
  operand_of s x (is.single_side t q p h) = query_operand t q p
  operand_of s x (is.call_side t c p) = call_operand t c p

  pub side_fits : (s : Text) (x : tree.Comparable) → ComparableIs Inner s x → is_side x ≡ true
  side_fits s x (is.literal_side t y p) = refl
  side_fits s x (is.single_side t q p h) = h
  side_fits s x (is.call_side t c p) = refl

  pub test_of : (s : Text) (x : tree.Comparable) (l : tree.Logical) → OperandIs s x → as_test x ≡ Some l
      → PlainIs Inner s l
  test_of s x l (literal_operand t y p) h = absurd cc
  test_of s x l (query_operand t q p) h = let e : tree.test q ≡ l = same_Some (tree.test q) l h in subst
      (λ (k : tree.Logical). PlainIs Inner s k) e (is.tested t q p)
  test_of s x l (call_operand t c p) h = let e : tree.test_call c ≡ l = same_Some (tree.test_call c) l h in
      subst (λ (k : tree.Logical). PlainIs Inner s k) e (is.called t c p)

  -- each part begins, and not with a blank

  query_leads : (s : Text) (q : tree.Query) → QueryIs Inner s q → leads_in is_operand_lead s ≡ true
  query_leads s q (is.query u t start ss is.root ps) = refl
  query_leads s q (is.query u t start ss is.current ps) = refl

  call_leads : (s : Text) (c : tree.Call) → CallIs Inner s c → leads_in is_operand_lead s ≡ true
  call_leads s c (is.call_of_none f t n b) = name_leads f _ n
  call_leads s c (is.call f r t u xs n a p b) = name_leads f _ n

  operand_lead : (s : Text) (x : tree.Comparable) → OperandIs s x → leads_in is_operand_lead s ≡ true
  operand_lead s x (literal_operand t y p) = in_wider is_literal_lead is_operand_lead operand_wider t
      (literal_lead t y p)
  operand_lead s x (query_operand t q p) = query_leads t q p
  operand_lead s x (call_operand t c p) = call_leads t c p

  pub operand_leads : (s : Text) (x : tree.Comparable) → OperandIs s x → leads s ≡ true
  operand_leads s x p = in_wider is_operand_lead is_lead lead_wider s (operand_lead s x p)

  -- a side begins with none of these
  pub operand_begins : (d : ℕ) (s : Text) (x : tree.Comparable) → OperandIs s x → is_operand_lead d ≡ false
      → begins_with d s ≡ false
  operand_begins d s x p n = begins_none is_operand_lead d s n (operand_lead s x p)

  pub plain_leads : (s : Text) (x : tree.Logical) → PlainIs Inner s x → leads s ≡ true
  plain_leads s x (is.grouped a t b l ha p hb) = refl
  plain_leads s x (is.tested t q p) = in_wider is_operand_lead is_lead lead_wider t (query_leads t q p)
  plain_leads s x (is.called t c p) = in_wider is_operand_lead is_lead lead_wider t (call_leads t c p)

  pub basic_leads : (s : Text) (x : tree.Logical) → BasicIs Inner s x → leads s ≡ true
  basic_leads s x (is.plain t l p) = plain_leads t l p
  basic_leads s x (is.negated a t l h p) = refl
  basic_leads s x (is.compared t u left right o p r) =
      leads_append t u (operand_leads t left (operand_of t left p))

  separated_leads : (mark : Text) (Part : Text → tree.Logical → Type 0)
      → ((s : Text) (x : tree.Logical) → Part s x → leads s ≡ true) → (s : Text) (xs : List tree.Logical)
      → Separated mark Part s xs → leads s ≡ true
  separated_leads mark Part h w ys (separated s t x xs p ps) = leads_append s t (h s x p)

  pub and_leads : (s : Text) (x : tree.Logical) → AndIs Inner s x → leads s ≡ true
  and_leads s x (is.and t xs p) = separated_leads (38 ∷ 38 ∷ []) (BasicIs Inner) basic_leads t xs p

  pub or_leads : (s : Text) (x : tree.Logical) → OrIs Inner s x → leads s ≡ true
  or_leads s x (is.or t xs p) = separated_leads (124 ∷ 124 ∷ []) (AndIs Inner) and_leads t xs p

pub logical_leads : (n : ℕ) (s : Text) (x : tree.Logical) → LogicalIs n s x → leads s ≡ true
logical_leads zero s x p = absurd p
logical_leads (suc n) s x p = or_leads (LogicalIs n) s x p

pub logical_firm : (n : ℕ) (s : Text) (x : tree.Logical) → LogicalIs n s x → firm s ≡ true
logical_firm n s x p = leads_firm s (logical_leads n s x p)
