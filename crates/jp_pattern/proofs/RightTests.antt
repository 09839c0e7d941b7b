-- Tests that are right: the reader reads the pattern, and derivatives decide membership.
use Rattle.std.proofs.Common.{◌≡◌, ℕ, Bool, true, false, ◌&&◌, ◌||◌, nat_le, [], ◌∷◌, ◌++◌, Option, Some}
use Rattle.std.proofs.Common.{None, refl, sym, ap, subst, ⊎_elim, true≢false, append_assoc, append-nil}
use Rattle.std.proofs.lemmas.Bool.{and_parts, and_from, or_cases, or_left, or_right, leb-true, le-leb}
use Rattle.jp_pattern.specs.Pattern.{Text, Pattern, empty, letter, group, seq, either, repeat, plus}
use Rattle.jp_pattern.specs.Profile.{max_count, max_depth, max_size, depth, size, AreCounts, HasCounts}
use Rattle.jp_pattern.specs.Profile.{InProfile}
use Rattle.jp_pattern.specs.Language.{Matches, Found}
use Rattle.jp_pattern.specs.Tests.{Tests, AreRight}
use Rattle.jp_pattern.specs.inner.Reading.{read}
use Rattle.jp_pattern.proofs.PatternsRead.{read_whole}
use Rattle.jp_pattern.proofs.PatternsSound.{read_sound}
use Rattle.jp_pattern.proofs.Derivatives.{decide, decided}

-- ---- the limits

abbrev pub are_counts : ℕ → Option ℕ → Bool
are_counts least None = nat_le least max_count
are_counts least (Some most) = nat_le least most && nat_le most max_count

abbrev pub has_counts : Pattern → Bool
has_counts empty = true
has_counts (letter set) = true
has_counts (group p) = has_counts p
has_counts (seq p q) = has_counts p && has_counts q
has_counts (either p q) = has_counts p && has_counts q
has_counts (repeat least most p) = are_counts least most && has_counts p
has_counts (plus p) = has_counts p

are_counts_sound : (least : ℕ) (most : Option ℕ) → are_counts least most ≡ true → AreCounts least most
are_counts_sound least None e = leb-true least max_count e
are_counts_sound least (Some most) e =
    let both = and_parts (nat_le least most) (nat_le most max_count) e in
    (leb-true least most both.0, leb-true most max_count both.1)

are_counts_whole : (least : ℕ) (most : Option ℕ) → AreCounts least most → are_counts least most ≡ true
are_counts_whole least None h = le-leb least max_count h
are_counts_whole least (Some most) h = and_from _ _ (le-leb least most h.0) (le-leb most max_count h.1)

pub has_counts_sound : (p : Pattern) → has_counts p ≡ true → HasCounts p
has_counts_sound empty e = tt
has_counts_sound (letter set) e = tt
has_counts_sound (group p) e = has_counts_sound p e
has_counts_sound (seq p q) e =
    let both = and_parts (has_counts p) (has_counts q) e in (
      has_counts_sound p both.0,
      has_counts_sound q
          both.1,
    )
has_counts_sound (either p q) e =
    let both = and_parts (has_counts p) (has_counts q) e in (
      has_counts_sound p both.0,
      has_counts_sound q
          both.1,
    )
has_counts_sound (repeat least most p) e =
    let both = and_parts (are_counts least most) (has_counts p) e in
    (are_counts_sound least most both.0, has_counts_sound p both.1)
has_counts_sound (plus p) e = has_counts_sound p e

pub has_counts_whole : (p : Pattern) → HasCounts p → has_counts p ≡ true
has_counts_whole empty h = refl
has_counts_whole (letter set) h = refl
has_counts_whole (group p) h = has_counts_whole p h
has_counts_whole (seq p q) h = and_from _ _ (has_counts_whole p h.0) (has_counts_whole q h.1)
has_counts_whole (either p q) h = and_from _ _ (has_counts_whole p h.0) (has_counts_whole q h.1)
has_counts_whole (repeat least most p) h = and_from _ _ (are_counts_whole least most h.0)
    (has_counts_whole p h.1)
has_counts_whole (plus p) h = has_counts_whole p h

abbrev in_profile : Pattern → Bool
in_profile p = has_counts p && (nat_le (depth p) max_depth && nat_le (size p) max_size)

in_profile_sound : (p : Pattern) → in_profile p ≡ true → InProfile p
in_profile_sound p e =
    let all = and_parts (has_counts p) _ e in
    let both = and_parts (nat_le (depth p) max_depth) (nat_le (size p) max_size) all.1 in
    record {
      counts = has_counts_sound p all.0;
      depth_fits = leb-true (depth p) max_depth both.0;
      size_fits =
          leb-true (size p) max_size both.1;
    }

in_profile_whole : (p : Pattern) → InProfile p → in_profile p ≡ true
in_profile_whole p h =
    and_from _ _ (has_counts_whole p h.counts) (and_from _ _ (le-leb (depth p) max_depth h.depth_fits)
    (le-leb (size p) max_size h.size_fits))

-- ---- the whole text

abbrev matches_read : Option Pattern → Text → Bool
matches_read None s = false
matches_read (Some p) s = in_profile p && decide p s

abbrev is_match : Text → Text → Bool
is_match s t = matches_read (read t) s

match_sound : (r : Option Pattern) (s t : Text) → read t ≡ r → matches_read r s ≡ true → Matches s t
match_sound None s t e h = absurd (true≢false (sym h))
match_sound (Some p) s t e h =
    let both = and_parts (in_profile p) (decide p s) h in
    (p, record { shapes = read_sound t p e; in_profile = in_profile_sound p both.0 }, (decided p s).0 both.1)

match_whole : (s t : Text) → Matches s t → is_match s t ≡ true
match_whole s t (p, of, m) =
    rw (read_whole t p of.shapes) (and_from _ _ (in_profile_whole p of.in_profile) ((decided p s).1 m))

-- ---- some part of the text

-- a front of the text
abbrev front_matches : Text → Text → Text → Bool
front_matches t done [] = is_match done t
front_matches t done (c ∷ s) = is_match done t || front_matches t (done ++ (c ∷ [])) s

abbrev is_found : Text → Text → Bool
is_found [] t = front_matches t [] []
is_found (c ∷ s) t = front_matches t [] (c ∷ s) || is_found s t

match_is : (s t : Text) → is_match s t ≡ true → Matches s t
match_is s t h = match_sound (read t) s t refl h

-- some front of the text goes on from what is done
GoesOn : Text → Text → Text → Type 0
GoesOn t done s = (part : Text) × (after : Text) × (s ≡ part ++ after) × Matches (done ++ part) t

front_sound : (t done s : Text) → front_matches t done s ≡ true → GoesOn t done s
unfolding GoesOn
front_sound t done [] h = (
  [],
  [],
  refl,
  let P : Text
      → Type 0 = λ u. Matches u t in subst P (sym (append-nil done)) (match_is done t h),
)
front_sound t done (c ∷ s) h =
    ⊎_elim
    (λ k. (
      [],
      c ∷ s,
      refl,
      let P : Text → Type 0 = λ u. Matches u t in subst P (sym (append-nil done))
          (match_is done t k),
    ))
    (λ k.
    let r = front_sound t (done ++ (c ∷ [])) s k in
    let P : Text → Type 0 = λ u. Matches u t in
    (c ∷ r.0, r.1, ap (λ u. c ∷ u) r.2, subst P (append_assoc done (c ∷ []) r.0) r.3))
    (or_cases (is_match done t) _ h)

front_whole : (t done s part after : Text) → s ≡ part ++ after → Matches (done ++ part) t
    → front_matches t done s ≡ true
front_whole t done [] [] after e m = match_whole done t (let P : Text
    → Type 0 = λ u. Matches u t in subst P (append-nil done) m)
front_whole t done [] (d ∷ part) after e m = absurd cc
front_whole t done (c ∷ s) [] after e m =
    or_left _ _ (match_whole done t (let P : Text → Type 0 = λ u. Matches u t in subst P (append-nil done) m))
front_whole t done (c ∷ s) (d ∷ part) after e m =
    let head : d ≡ c = cc in
    let tail : s ≡ part ++ after = cc in
    let P : Text → Type 0 = λ u. Matches u t in
    let Q : ℕ → Type 0 = λ k. Matches (done ++ (k ∷ part)) t in
    or_right _ _ (front_whole t (done ++ (c ∷ [])) s part after tail
    (subst P (sym (append_assoc done (c ∷ []) part)) (subst Q head m)))

found_sound : (s t : Text) → is_found s t ≡ true → Found s t
unfolding GoesOn
found_sound [] t h = let r = front_sound t [] [] h in ([], r.0, r.1, r.2, r.3)
found_sound (c ∷ s) t h =
    ⊎_elim
    (λ k. let r = front_sound t [] (c ∷ s) k in ([], r.0, r.1, r.2, r.3))
    (λ k. let r = found_sound s t k in (c ∷ r.0, r.1, r.2, ap (λ u. c ∷ u) r.3, r.4))
    (or_cases (front_matches t [] (c ∷ s)) (is_found s t) h)

found_whole : (s t before part after : Text) → s ≡ before ++ (part ++ after) → Matches part t
    → is_found s t ≡ true
found_whole [] t [] part after e m = front_whole t [] [] part after e m
found_whole [] t (d ∷ before) part after e m = absurd cc
found_whole (c ∷ s) t [] part after e m = or_left _ _ (front_whole t [] (c ∷ s) part after e m)
found_whole (c ∷ s) t (d ∷ before) part after e m =
    let tail : s ≡ before ++ (part ++ after) = cc in
    or_right _ _ (found_whole s t before part after tail m)

abbrev pub tests : Tests
tests = record { is_match = is_match; is_found = is_found }

pub right_tests : (t : Tests) × AreRight t
right_tests = (
  tests,
  record {
    matching = λ s t. (match_is s t, match_whole s t);
    finding = λ s t. (found_sound s t, λ (before, part, after, e, m). found_whole s t before part after e m);
  },
)
