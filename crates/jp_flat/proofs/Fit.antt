-- Trees whose numbers are within the limits, and whose names are texts.
use Rattle.std.proofs.Common.{◌≡◌, ℕ, Bool, true, false, not, ◌||◌, List, [], ◌∷◌, Option, Some, None, refl}
use Rattle.std.proofs.Common.{sym, ap, ◌∙◌}
use Rattle.std.proofs.lemmas.Str.{is_utf8-from_IsUtf8}
use Rattle.std.specs.Str.{is_utf8}
use Rattle.json.specs.Json as text
use Rattle.json.specs.Print.{IsNumber}
use Rattle.json.specs.Tree.{HasNumbers, ItemsHaveNumbers, MembersHaveNumbers}
use Rattle.json.specs.Word.{after_number}
use Rattle.jp_doc.specs.ReadingIn.{has_long_number, items_have_long_number, members_have_long_number}
use Rattle.jp_doc.specs.Tree.{text_number}
use Rattle.jp_doc.proofs.Found.{first_false, second_false}
use Rattle.jp_doc.proofs.TreeNames.{NamesAreTexts, ItemNamesAreTexts, MemberNamesAreTexts}
use Rattle.jp_number.specs.Number.{written, IsShort, is_short, number_text}
use Rattle.jp_number.proofs.Limits.{short_by_test}
use Rattle.jp_flat.specs.inner.Plain.{is_empty_rest, is_fit_number, is_fit, items_are_fit, members_are_fit}
use Rattle.jp_flat.specs.inner.Plain.{is_whole_text, is_plain, items_are_plain, members_are_plain}
use Rattle.jp_flat.proofs.Numbers as numbers
use Rattle.jp_flat.proofs.Numbers.{both, both_back}
use Rattle.jp_flat.proofs.WholeTexts.{number_is, other_is}

turned : (b : Bool) → not b ≡ false → b ≡ true
turned true h = refl
turned false h = absurd (cc)

mutual
  pub fit : (j : text.Json) → NamesAreTexts j → HasNumbers j → has_long_number j ≡ false → is_fit j ≡ true
  fit text.null n h s = refl
  fit (text.boolean b) n h s = refl
  fit (text.number t) n h s = both_back _ _ (ap is_empty_rest h) (turned _ s)
  fit (text.string t) n h s = refl
  fit (text.array js) n h s = items_fit js n h s
  fit (text.object ms) n h s = members_fit ms n h s

  items_fit : (js : text.Items) → ItemNamesAreTexts js → ItemsHaveNumbers js
      → items_have_long_number js ≡ false → items_are_fit js ≡ true
  items_fit text.no_items n h s = refl
  items_fit (text.item j js) n h s =
      both_back _ _ (fit j n.0 h.0 (first_false _ _ s)) (items_fit js n.1 h.1 (second_false _ _ s))

  members_fit : (ms : text.Members) → MemberNamesAreTexts ms → MembersHaveNumbers ms
      → members_have_long_number ms ≡ false → members_are_fit ms ≡ true
  members_fit text.no_members n h s = refl
  members_fit (text.member k j ms) n h s =
      both_back _ _ (is_utf8-from_IsUtf8 k n.0)
      (both_back _ _ (fit j n.1 h.0 (first_false _ _ s)) (members_fit ms n.2 h.1 (second_false _ _ s)))

neither : (a b : Bool) → a ≡ false → b ≡ false → (a || b) ≡ false
neither a b h k = rw (h, k) refl

-- whole numbers of 64 bits are within the limits
mutual
  pub plain_is_short : (j : text.Json) → is_plain j ≡ true → has_long_number j ≡ false
  plain_is_short text.null h = refl
  plain_is_short (text.boolean b) h = refl
  plain_is_short (text.number s) h = ap (λ n. not (is_short n)) (number_is s h)
  plain_is_short (text.string s) h = refl
  plain_is_short (text.array js) h = items_are_short js h
  plain_is_short (text.object ms) h = members_are_short ms h

  items_are_short : (js : text.Items) → items_are_plain js ≡ true → items_have_long_number js ≡ false
  items_are_short text.no_items h = refl
  items_are_short (text.item j js) h =
      let b = both (is_plain j) _ h in
      neither _ _ (plain_is_short j b.0) (items_are_short js b.1)

  members_are_short : (ms : text.Members) → members_are_plain ms ≡ true
      → members_have_long_number ms ≡ false
  members_are_short text.no_members h = refl
  members_are_short (text.member k j ms) h =
      let a = both (is_utf8 k) _ h in
      let b = both (is_plain j) _ a.1 in
      neither _ _ (plain_is_short j b.0) (members_are_short ms b.1)

-- ---- one number

read_whole : (o : Option (List ℕ)) → is_empty_rest o ≡ true → o ≡ Some []
read_whole None h = absurd (cc)
read_whole (Some []) h = refl
read_whole (Some (c ∷ cs)) h = absurd (cc)

pub fit_number : (s : List ℕ) → is_fit_number s ≡ true → IsNumber s × (is_short (text_number s) ≡ true)
fit_number s h =
    let b = both (is_empty_rest (after_number s)) _ h in
    (read_whole (after_number s) b.0, b.1)

-- the number of such a text, by the test of its digits
pub written_number : (s : List ℕ) → is_fit_number s ≡ true → is_whole_text s ≡ false
    → text_number s ≡ written s
written_number s h e = other_is s (fit_number s h).0 e

pub written_short : (s : List ℕ) → is_fit_number s ≡ true → is_whole_text s ≡ false → IsShort (written s)
written_short s h e =
    (short_by_test (written s)).0 (ap is_short (sym (written_number s h e)) ∙ (fit_number s h).1)

own_if : (b : Bool) (s : List ℕ) → is_fit_number s ≡ true → is_whole_text s ≡ b
    → number_text (text_number s) ≡ s
own_if true s h e = ap number_text (number_is s e) ∙ numbers.written s e
own_if false s h e = ap number_text (written_number s h e)

-- it is written as it stands
pub own_text : (s : List ℕ) → is_fit_number s ≡ true → number_text (text_number s) ≡ s
own_text s h = own_if (is_whole_text s) s h refl
