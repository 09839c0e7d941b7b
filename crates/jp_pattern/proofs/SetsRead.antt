-- The reader reads each set of characters that the grammar spells.
use Rattle.std.proofs.Common.{◌≡◌, ℕ, zero, suc, ◌<◌, ◌≤◌, Bool, true, false, ◌||◌, ◌==◌, List, [], ◌∷◌, ◌++◌}
use Rattle.std.proofs.Common.{length, Some, refl, sym, ap, ◌∙◌, arith, append_assoc, length-append, le-leb}
use Rattle.std.proofs.lemmas.Bool.{eqb-true}
use Rattle.unicode.specs.declared.properties.GeneralCategory.{GeneralCategory}
use Rattle.jp_pattern.specs.Pattern.{Text, Element, CharSet, Pattern}
use Rattle.jp_pattern.specs.CategoryNames.{category_names, IsCategoryName}
use Rattle.jp_pattern.specs.CharSetShape.{is_normal, is_class_normal, is_escaped, IsSingle, line_feed}
use Rattle.jp_pattern.specs.CharSetShape.{carriage_return, tab, itself, IsCategory, inside, outside, IsInner}
use Rattle.jp_pattern.specs.CharSetShape.{bare, escaped, IsElement, single, span, categorical, AreElements}
use Rattle.jp_pattern.specs.CharSetShape.{none, last_hyphen, more, IsListing, first_hyphen, first_element}
use Rattle.jp_pattern.specs.CharSetShape.{IsClass, listed, negated, IsCharSet, normal, escape, any, property}
use Rattle.jp_pattern.specs.CharSetShape.{brackets}
use Rattle.jp_pattern.proofs.NamesSound.{picked}
use Rattle.jp_pattern.specs.inner.Reading.{single_at, name_at, category_at, inner_at, after_inner}
use Rattle.jp_pattern.specs.inner.Reading.{escape_element_at}
use Rattle.jp_pattern.specs.inner.Reading.{element_at, elements_at, listing_at, class_at, escape_set_at}
use Rattle.jp_pattern.specs.inner.Reading.{set_at}
use Rattle.jp_pattern.specs.inner.Reading.{atom_at, Parse}

false_of : (b : Bool) → (b ≡ true → ⊥) → b ≡ false
false_of true h = absurd (h refl)
false_of false h = refl

-- a character that passes a test is not one that fails it
pub differs : (p : ℕ → Bool) (c x : ℕ) → p c ≡ true → p x ≡ false → (c == x) ≡ false
differs p c x h k =
    false_of (c == x) (λ e.
    let same = eqb-true c x e in
    let f : false ≡ true = sym k ∙ ap p (sym same) ∙ h in
    absurd (cc))

single_whole : {s : Text} {c : ℕ} → IsSingle s c → (u : Text) → (d : ℕ) × (s ≡ 92 ∷ d ∷ [])
    × (single_at (d ∷ u) ≡ Some (c, u)) × ((d == 112) ≡ false) × ((d == 80) ≡ false)
single_whole line_feed u = (110, refl, refl, refl, refl)
single_whole carriage_return u = (114, refl, refl, refl, refl)
single_whole tab u = (116, refl, refl, refl, refl)
single_whole (itself c h) u = (
  c,
  refl,
  rw (
    differs is_escaped c 110 h refl,
    differs is_escaped c 114 h refl,
    differs is_escaped c 116 h
        refl,
    h,
  ),
  differs is_escaped c 112 h refl,
  differs is_escaped c 80 h refl,
)

name_whole : {s : Text} {cs : List GeneralCategory} → IsCategoryName s cs → (u : Text)
    → name_at (s ++ (125 ∷ u)) ≡ Some (cs, u)
name_whole {s} {cs} named u = picked (λ row. name_at (row.0 ++ (125 ∷ u))) (λ row. Some (row.1, u))
    category_names (s, cs) refl named

category_whole : {s : Text} {flag : Bool} {cs : List GeneralCategory} → IsCategory s flag cs → (u : Text) →
    (d : ℕ) × (t : Text) × (s ≡ 92 ∷ d ∷ t) × (category_at (t ++ u) ≡ Some (cs, u))
    × (escape_element_at (d ∷ (t ++ u)) ≡ Some (Element.of_category flag cs, u))
    × (escape_set_at (d ∷ (t ++ u)) ≡ Some (CharSet.category flag cs, u))
category_whole (inside {t = t} {cs = cs} h) u =
    let read : name_at ((t ++ (125 ∷ [])) ++ u) ≡ Some (cs, u) =
    rw (append_assoc t (125 ∷ []) u) (name_whole h u) in
    (112, 123 ∷ (t ++ (125 ∷ [])), refl, read, rw read, rw read)
category_whole (outside {t = t} {cs = cs} h) u =
    let read : name_at ((t ++ (125 ∷ [])) ++ u) ≡ Some (cs, u) =
    rw (append_assoc t (125 ∷ []) u) (name_whole h u) in
    (80, 123 ∷ (t ++ (125 ∷ [])), refl, read, rw read, rw read)

-- ---- classes

-- where an element may begin: no hyphen and no closing bracket
abbrev pub begins_element : ℕ → Bool
begins_element c = c == 92 || is_class_normal c

abbrev pub BeginsElement : Text → Type 0
BeginsElement [] = ⊥
BeginsElement (c ∷ t) = begins_element c ≡ true

inner_begins : {s : Text} {c : ℕ} → IsInner s c → BeginsElement s
inner_begins (bare c h) = rw (differs is_class_normal c 92 h refl, h)
inner_begins (escaped line_feed) = refl
inner_begins (escaped carriage_return) = refl
inner_begins (escaped tab) = refl
inner_begins (escaped (itself c h)) = refl

begins_before : (s t : Text) → BeginsElement s → BeginsElement (s ++ t)
begins_before [] t h = absurd h
begins_before (c ∷ s) t h = h

pub element_begins : {s : Text} {x : Element} → IsElement s x → BeginsElement s
element_begins (single h) = inner_begins h
element_begins (span {s = s} h k low) = begins_before s _ (inner_begins h)
element_begins (categorical (inside h)) = refl
element_begins (categorical (outside h)) = refl

-- what follows does not make a range of the character that was read
Stops : Text → Type 0
Stops u = (low : ℕ) → after_inner low u ≡ Some (Element.one low, u)

stops_before : (t : Text) → BeginsElement t → Stops t
unfolding Stops
stops_before [] h low = absurd h
stops_before (c ∷ []) h low = refl
stops_before (c ∷ d ∷ t) h low = rw (differs begins_element c 45 h refl)

elements_stop : {s : Text} {xs : List Element} → AreElements s xs → (u : Text) → Stops (s ++ (93 ∷ u))
unfolding Stops
elements_stop none [] low = refl
elements_stop none (c ∷ u) low = refl
elements_stop last_hyphen u low = refl
elements_stop (more {s = s} {t = t} h k) u low =
    let v = t ++ (93 ∷ u) in
    rw (append_assoc s t (93 ∷ u)) (stops_before (s ++ v) (begins_before s v (element_begins h)) low)

inner_whole : {s : Text} {c : ℕ} → IsInner s c → (u : Text) → (inner_at (s ++ u) ≡ Some (c, u))
    × (element_at (s ++ u) ≡ after_inner c u)
inner_whole (bare c h) u =
    (rw (differs is_class_normal c 92 h refl, h), rw (differs is_class_normal c 92 h refl, h))
inner_whole (escaped h) u =
    let (d, e, read, k, l) = single_whole h u in (rw (e, read), rw (e, k, l, read))

span_whole : (low high : ℕ) (t u : Text) → IsInner t high → low ≤ high → after_inner low (45 ∷ (t ++ u))
    ≡ Some (Element.range low high, u)
span_whole low high [] u h k = absurd (inner_begins h)
span_whole low high (e ∷ t) u h k =
    rw (differs begins_element e 93 (inner_begins h) refl, (inner_whole h u).0, le-leb low high k)

element_whole : {s : Text} {x : Element} → IsElement s x → (u : Text) → Stops u
    → element_at (s ++ u) ≡ Some (x, u)
unfolding Stops
element_whole (single {c = c} h) u stops = (inner_whole h u).1 ∙ stops c
element_whole (span {s = s} {t = t} {low = low} {high = high} h k le) u stops =
    rw (append_assoc s (45 ∷ t) u) ((inner_whole h (45 ∷ (t ++ u))).1 ∙ span_whole low high t u k le)
element_whole (categorical h) u stops = let (d, t, e, _, read, _) = category_whole h u in rw (e, read)

has_length : (s : Text) → BeginsElement s → 0 < length s
has_length [] h = absurd h
has_length (c ∷ s) h = omega arith

first_of_all : (n : ℕ) (s v u : Text) (x : Element) (xs : List Element) → BeginsElement s
    → element_at (s ++ v) ≡ Some (x, v) → elements_at n v ≡ Some (xs, u)
    → listing_at n (s ++ v) ≡ Some (x ∷ xs, u)
first_of_all n [] v u x xs h e f = absurd h
first_of_all n (c ∷ s) v u x xs h e f = rw (differs begins_element c 45 h refl, e, f)

-- one turn of the loop over elements
one_more : (n : ℕ) (s v u : Text) (x : Element) (xs : List Element) → BeginsElement s
    → element_at (s ++ v) ≡ Some (x, v) → elements_at n v ≡ Some (xs, u) → elements_at (suc n) (s ++ v)
    ≡ Some (x ∷ xs, u)
one_more n [] v u x xs h e f = absurd h
one_more n (c ∷ s) v u x xs h e f =
    rw (differs begins_element c 93 h refl, differs begins_element c 45 h refl, e, f)

elements_whole : {s : Text} {xs : List Element} → AreElements s xs → (n : ℕ) (u : Text) → length s < n
    → elements_at n (s ++ (93 ∷ u)) ≡ Some (xs, u)
elements_whole none zero u h = absurd (omega arith)
elements_whole none (suc n) u h = refl
elements_whole last_hyphen zero u h = absurd (omega arith)
elements_whole last_hyphen (suc n) u h = refl
elements_whole (more h k) zero u room = absurd (omega arith)
elements_whole (more {s = s} {t = t} {x = x} {xs = xs} h k) (suc n) u room =
    let v = t ++ (93 ∷ u) in
    let begins = element_begins h in
    let short : 0 < length s = has_length s begins in
    let rest = elements_whole k n u (omega (arith, length-append s t)) in
    rw (append_assoc s t (93 ∷ u)) (one_more n s v u x xs begins (element_whole h v (elements_stop k u)) rest)

listing_whole : {s : Text} {xs : List Element} → IsListing s xs → (n : ℕ) (u : Text) → length s ≤ n
    → listing_at n (s ++ (93 ∷ u)) ≡ Some (xs, u)
listing_whole (first_hyphen h) n u room = rw (elements_whole h n u (omega arith))
listing_whole (first_element {s = s} {t = t} {x = x} {xs = xs} h k) n u room =
    let v = t ++ (93 ∷ u) in
    let begins = element_begins h in
    let short : 0 < length s = has_length s begins in
    rw (append_assoc s t (93 ∷ u)) (first_of_all n s v u x xs begins (element_whole h v (elements_stop k u))
    (elements_whole k n u (omega (arith, length-append s t))))

-- ---- sets

class_whole : {s : Text} {flag : Bool} {xs : List Element} → IsClass s flag xs → (u : Text) → (t : Text)
    × (s ≡ 91 ∷ t) × (class_at (t ++ u) ≡ Some (CharSet.class flag xs, u))
class_whole (listed {c = c} {t = t} {xs = xs} h k) u =
    let differ : (c == 94) ≡ false = false_of (c == 94) (λ e. h (eqb-true c 94 e)) in
    let room : length (c ∷ t) ≤ suc (length (c ∷ (t ++ (93 ∷ u)))) =
    omega (arith, length-append t (93 ∷ u)) in (
      c ∷ (t ++ (93 ∷ [])),
      refl,
      rw (
        append_assoc t (93 ∷ []) u,
        differ,
        listing_whole k
            (suc (length (c ∷ (t ++ (93 ∷ u))))) u room,
      ),
    )
class_whole (negated {t = t} {xs = xs} k) u =
    let room : length t ≤ suc (length (t ++ (93 ∷ u))) = omega (arith, length-append t (93 ∷ u)) in (
      94 ∷ (t ++ (93 ∷ [])),
      refl,
      rw (
        append_assoc t (93 ∷ []) u,
        listing_whole k
            (suc (length (t ++ (93 ∷ u)))) u room,
      ),
    )

pub set_whole : {s : Text} {set : CharSet} → IsCharSet s set → (u : Text) → set_at (s ++ u) ≡ Some (set, u)
set_whole (normal c h) u = rw (
  differs is_normal c 46 h refl,
  differs is_normal c 92 h refl,
  differs is_normal
      c 91 h refl,
  h,
)
set_whole (escape h) u = let (d, e, read, k, l) = single_whole h u in rw (e, k, l, read)
set_whole any u = refl
set_whole (property h) u = let (d, t, e, _, _, read) = category_whole h u in rw (e, read)
set_whole (brackets h) u = let (t, e, read) = class_whole h u in rw (e, read)

-- a set begins with no parenthesis
abbrev pub begins_set : ℕ → Bool
begins_set c = c == 46 || c == 91 || c == 92 || is_normal c

abbrev BeginsSet : Text → Type 0
BeginsSet [] = ⊥
BeginsSet (c ∷ t) = begins_set c ≡ true

-- where an atom, and so a piece, may begin
abbrev pub begins_piece : ℕ → Bool
begins_piece c = c == 40 || begins_set c

abbrev pub BeginsPiece : Text → Type 0
BeginsPiece [] = ⊥
BeginsPiece (c ∷ t) = begins_piece c ≡ true

set_begins : {s : Text} {set : CharSet} → IsCharSet s set → BeginsSet s
set_begins (normal c h) = rw (
  differs is_normal c 46 h refl,
  differs is_normal c 91 h refl,
  differs is_normal
      c 92 h refl,
  h,
)
set_begins (escape line_feed) = refl
set_begins (escape carriage_return) = refl
set_begins (escape tab) = refl
set_begins (escape (itself c h)) = refl
set_begins any = refl
set_begins (property (inside h)) = refl
set_begins (property (outside h)) = refl
set_begins (brackets (listed h k)) = refl
set_begins (brackets (negated k)) = refl

or_true : (a b : Bool) → b ≡ true → (a || b) ≡ true
or_true true b h = refl
or_true false b h = h

piece_of_set : (s : Text) → BeginsSet s → BeginsPiece s
piece_of_set [] h = absurd h
piece_of_set (c ∷ s) h = or_true (c == 40) (begins_set c) h

pub set_begins_piece : {s : Text} {set : CharSet} → IsCharSet s set → BeginsPiece s
set_begins_piece {s} h = piece_of_set s (set_begins h)

-- an atom that is a set
atom_of_set : (inner : Parse Pattern) (s u : Text) (set : CharSet) → BeginsSet s
    → set_at (s ++ u) ≡ Some (set, u) → atom_at inner (s ++ u) ≡ Some (Pattern.letter set, u)
atom_of_set inner [] u set h e = absurd h
atom_of_set inner (c ∷ s) u set h e = rw (differs begins_set c 40 h refl, e)

pub atom_set_whole : (inner : Parse Pattern) {s : Text} {set : CharSet} → IsCharSet s set → (u : Text)
    → atom_at inner (s ++ u) ≡ Some (Pattern.letter set, u)
atom_set_whole inner {s} {set} h u = atom_of_set inner s u set (set_begins h) (set_whole h u)
