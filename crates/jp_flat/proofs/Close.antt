-- Numbers that are read in one pass with decimals are within the limits.
use Rattle.std.proofs.Common.{◌≡◌, ℕ, zero, suc, ◌+◌, ◌-◌, ◌<◌, ◌≤◌, ◌⊎◌, inl, inr, Bool, true, false, not}
use Rattle.std.proofs.Common.{◌||◌, ◌==◌, List, [], ◌∷◌, length, take, drop, get_or, refl, sym, ap, ◌∙◌}
use Rattle.std.proofs.Common.{arith, if◌then◌else◌, true≢false, le-leb, length-drop}
use Rattle.std.proofs.lemmas.Bool.{and_parts, leb-true, cases_lt}
use Rattle.std.proofs.lemmas.List.{length-take, get_or-take}
use Rattle.std.specs.Float.Numeral.{has_exponent, exponent_start, digits_end}
use Rattle.std.specs.List.{list_all, slice_range}
use Rattle.std.specs.Prelude.{nat_le, slice_index}
use Rattle.fast_float.specs.Text.{scan}
use Rattle.json.specs.Json as text
use Rattle.json.specs.Print.{IsNumber}
use Rattle.json.specs.Tree.{HasNumbers, ItemsHaveNumbers, MembersHaveNumbers}
use Rattle.jp_doc.specs.ReadingIn.{has_long_number, items_have_long_number, members_have_long_number}
use Rattle.jp_doc.specs.Tree.{text_number}
use Rattle.jp_flat.specs.inner.Plain.{is_whole_text}
use Rattle.jp_flat.proofs.Numbers.{both_back}
use Rattle.jp_flat.proofs.WholeTexts.{number_is, other_is}
use Rattle.jp_flat_nodes.specs.Digits.{is_no_e, is_close}
use Rattle.jp_flat_nodes.specs.Nodes.{are_taken, items_are_taken, members_are_taken}
use Rattle.jp_number.specs.Number.{is_negative, are_few, is_short}

slice_few : (ds : List ℕ) (a b : ℕ) → length (slice_range ds a b) ≤ length ds - a
slice_few ds a b = omega (arith, length-take (b - a) (drop a ds), length-drop a ds)

fraction_few : (point : Bool) (ds : List ℕ) (a b : ℕ)
    → length (if point then slice_range ds (a + 1) b else []) ≤ length ds
fraction_few true ds a b = omega (arith, slice_few ds (a + 1) b)
fraction_few false ds a b = omega arith

all_at : (xs : List ℕ) (i : ℕ) → list_all is_no_e xs ≡ true → i < length xs → is_no_e (get_or xs i 0) ≡ true
all_at [] i h lt = absurd (omega arith)
all_at (x ∷ xs) zero h lt = (and_parts (is_no_e x) (list_all is_no_e xs) h).0
all_at (x ∷ xs) (suc i) h lt = all_at xs i (and_parts (is_no_e x) (list_all is_no_e xs) h).1 (omega arith)

-- an `e` stands among the last ten bytes
e_is_last : (ds : List ℕ) (at : ℕ) → list_all is_no_e (take (length ds - 10) ds) ≡ true
    → ((slice_index ds at == 101) || (slice_index ds at == 69)) ≡ true → length ds - 10 ≤ at
e_is_last ds at plain letter = go (cases_lt at (length ds - 10))
  where
    go : (at < length ds - 10) ⊎ (length ds - 10 ≤ at) → length ds - 10 ≤ at
    go (inl lt) =
        let inside : at < length (take (length ds - 10) ds) = omega (
          arith,
          length-take
              (length ds - 10) ds,
        ) in
        let none = all_at (take (length ds - 10) ds) at plain inside in
        absurd (true≢false (sym none ∙ ap is_no_e (get_or-take (length ds - 10) ds at 0 lt) ∙ ap not letter))
    go (inr ge) = ge

start_later : (sign : Bool) (at : ℕ) → at + 1 ≤ (if sign then at + 2 else at + 1)
start_later true at = omega arith
start_later false at = omega arith

exponent_few : (t : Bool) (ds : List ℕ) (at : ℕ) → list_all is_no_e (take (length ds - 10) ds) ≡ true
    → has_exponent ds at ≡ t
    → length (if t then slice_range ds (exponent_start ds at) (digits_end ds
    (exponent_start ds at)) else []) ≤ 9
exponent_few true ds at plain is =
    let letter = (and_parts ((slice_index ds at == 101) || (slice_index ds at == 69)) _ is).0 in
    let last = e_is_last ds at plain letter in
    let start = exponent_start ds at in
    omega (
      arith,
      slice_few ds start (digits_end ds start),
      last,
      start_later ((slice_index ds (at + 1) == 45) || (slice_index ds (at + 1) == 43)) at,
    )
exponent_few false ds at plain is = omega arith

few_parts : (ds : List ℕ) → length ds ≤ 300 → list_all is_no_e (take (length ds - 10) ds) ≡ true
    → are_few (scan ds) ≡ true
unfolding scan
few_parts ds short plain =
    let a = digits_end ds 0 in
    let point = slice_index ds a == 46 in
    let b = if point then digits_end ds (a + 1) else a in
    let whole = slice_few ds 0 a in
    let fraction = fraction_few point ds a b in
    let exponent = exponent_few (has_exponent ds b) ds b plain refl in
    both_back _ _ (le-leb _ 1000 (omega (arith, whole, fraction, exponent))) (le-leb _ 9 exponent)

-- ---- with its sign

behind_sign : (c : ℕ) (ds : List ℕ) → list_all is_no_e (take (suc (length ds) - 10) (c ∷ ds)) ≡ true
    → list_all is_no_e (take (length ds - 10) ds) ≡ true
behind_sign c ds h = go (cases_lt (length ds) 10)
  where
    go : (length ds < 10) ⊎ (10 ≤ length ds) → list_all is_no_e (take (length ds - 10) ds) ≡ true
    go (inl lt) =
        let none : length ds - 10 ≡ 0 = omega arith in
        ap (λ k. list_all is_no_e (take k ds)) none
    go (inr le) =
        let more : suc (length ds) - 10 ≡ suc (length ds - 10) = omega arith in
        (and_parts (is_no_e c) _ (ap (λ k. list_all is_no_e (take k (c ∷ ds))) (sym more) ∙ h)).1

signed : (b : Bool) (s : List ℕ) → length s ≤ 300 → list_all is_no_e (take (length s - 10) s) ≡ true
    → are_few (scan (if b then drop 1 s else s)) ≡ true
signed false s short plain = few_parts s short plain
signed true [] short plain = few_parts [] short plain
signed true (c ∷ ds) short plain = few_parts ds (omega arith) (behind_sign c ds plain)

close_if : (b : Bool) (s : List ℕ) → is_whole_text s ≡ b → IsNumber s → is_close s ≡ true
    → is_short (text_number s) ≡ true
close_if true s e grammar h = ap is_short (number_is s e)
close_if false s e grammar h =
    let both = and_parts (nat_le (length s) 300) _ h in
    ap is_short (other_is s grammar e) ∙ signed (is_negative s) s (leb-true (length s) 300 both.0) both.1

close_is_short : (s : List ℕ) → IsNumber s → is_close s ≡ true → is_short (text_number s) ≡ true
close_is_short s grammar h = close_if (is_whole_text s) s refl grammar h

neither : (a b : Bool) → a ≡ false → b ≡ false → (a || b) ≡ false
neither a b h k = rw (h, k) refl

-- so no number of a value is long
mutual
  pub none_is_long : (j : text.Json) → HasNumbers j → are_taken true j ≡ true → has_long_number j ≡ false
  none_is_long text.null h t = refl
  none_is_long (text.boolean b) h t = refl
  none_is_long (text.number s) h t = ap not (close_is_short s h t)
  none_is_long (text.string s) h t = refl
  none_is_long (text.array js) h t = no_item_is_long js h t
  none_is_long (text.object ms) h t = no_member_is_long ms h t

  no_item_is_long : (js : text.Items) → ItemsHaveNumbers js → items_are_taken true js ≡ true
      → items_have_long_number js ≡ false
  no_item_is_long text.no_items h t = refl
  no_item_is_long (text.item j js) h t =
      let b = and_parts (are_taken true j) _ t in
      neither _ _ (none_is_long j h.0 b.0) (no_item_is_long js h.1 b.1)

  no_member_is_long : (ms : text.Members) → MembersHaveNumbers ms → members_are_taken true ms ≡ true
      → members_have_long_number ms ≡ false
  no_member_is_long text.no_members h t = refl
  no_member_is_long (text.member k j ms) h t =
      let b = and_parts (are_taken true j) _ t in
      neither _ _ (none_is_long j h.0 b.0) (no_member_is_long ms h.1 b.1)
