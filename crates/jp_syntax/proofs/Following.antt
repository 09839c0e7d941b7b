-- What may follow a selector, an argument, a logical expression and its parts, and a segment.
use Rattle.std.proofs.Common.{◌≡◌, ℕ, Bool, true, false, not, eqb, [], ◌∷◌, refl}
use Rattle.jp_tree.specs.Tree.{Text}
use Rattle.jp_tree.specs.Characters.{is_digit, is_name_character}
use Rattle.jp_tokens.specs.Reading.{skip}
use Rattle.jp_tokens.proofs.Following.{Meets, Leaves, stops, among, among_all, blank_all, starts_wider}
use Rattle.jp_tokens.proofs.Following.{after_side, side_leaves}

-- a selector: `,` or `]`
abbrev pub after_selector : ℕ → Bool
after_selector = among (44 ∷ 93 ∷ [])

-- an argument: `,` or `)`
abbrev pub after_argument : ℕ → Bool
after_argument = among (44 ∷ 41 ∷ [])

abbrev pub after_logical : ℕ → Bool
after_logical = among (41 ∷ 44 ∷ 93 ∷ [])

abbrev pub after_and : ℕ → Bool
after_and = among (124 ∷ 41 ∷ 44 ∷ 93 ∷ [])

abbrev pub after_basic : ℕ → Bool
after_basic = among (38 ∷ 124 ∷ 41 ∷ 44 ∷ 93 ∷ [])

-- what a segment begins with
abbrev pub begins_segment : ℕ → Bool
begins_segment = among (46 ∷ 91 ∷ [])

-- a number in a slice: `:` too
abbrev pub after_bound : ℕ → Bool
after_bound = among (58 ∷ 44 ∷ 93 ∷ [])

pub side_before_name : (u : Text) → Meets after_side u → Leaves is_name_character u
side_before_name u m = side_leaves is_name_character refl refl refl refl
    (refl, (refl, (refl, (refl, (refl, (refl, (refl, (refl, (refl, tt))))))))) u m

pub side_before_opening : (u : Text) → Meets after_side u → Leaves (λ c. eqb c 40) u
side_before_opening u m = side_leaves (λ c. eqb c 40) refl refl refl refl
    (refl, (refl, (refl, (refl, (refl, (refl, (refl, (refl, (refl, tt))))))))) u m

pub side_before_segment : (u : Text) → Meets after_side u → Leaves begins_segment (skip u)
side_before_segment u m = starts_wider after_side (λ c. not (begins_segment c))
    (among_all (λ c. not (begins_segment c) ≡ true) (61 ∷ 33 ∷ 60 ∷ 62 ∷ 38 ∷ 124 ∷ 41 ∷ 44 ∷ 93 ∷ [])
    (refl, (refl, (refl, (refl, (refl, (refl, (refl, (refl, (refl, tt)))))))))) (skip u) m

pub segment_before_name : (u : Text) → Meets begins_segment u → Leaves is_name_character u
segment_before_name u m = stops begins_segment is_name_character (blank_all (λ c. is_name_character c ≡ false)
    refl refl refl refl) (among_all (λ c. is_name_character c ≡ false) (46 ∷ 91 ∷ []) (refl, (refl, tt))) u m

pub bound_before_digit : (u : Text) → Meets after_bound u → Leaves is_digit u
bound_before_digit u m = stops after_bound is_digit (blank_all (λ c. is_digit c ≡ false) refl refl refl refl)
    (among_all (λ c. is_digit c ≡ false) (58 ∷ 44 ∷ 93 ∷ []) (refl, (refl, (refl, tt)))) u m

pub basic_in_side : (u : Text) → Meets after_basic u → Meets after_side u
basic_in_side u m = starts_wider after_basic after_side
    (among_all (λ c. after_side c ≡ true) (38 ∷ 124 ∷ 41 ∷ 44 ∷ 93 ∷ [])
    (refl, (refl, (refl, (refl, (refl, tt)))))) (skip u) m

pub argument_in_side : (u : Text) → Meets after_argument u → Meets after_side u
argument_in_side u m = starts_wider after_argument after_side
    (among_all (λ c. after_side c ≡ true) (44 ∷ 41 ∷ []) (refl, (refl, tt))) (skip u) m

pub argument_in_basic : (u : Text) → Meets after_argument u → Meets after_basic u
argument_in_basic u m = starts_wider after_argument after_basic
    (among_all (λ c. after_basic c ≡ true) (44 ∷ 41 ∷ []) (refl, (refl, tt))) (skip u) m

pub argument_in_logical : (u : Text) → Meets after_argument u → Meets after_logical u
argument_in_logical u m = starts_wider after_argument after_logical (among_all (λ c. after_logical c ≡ true)
    (44 ∷ 41 ∷ []) (refl, (refl, tt))) (skip u) m

pub selector_in_logical : (u : Text) → Meets after_selector u → Meets after_logical u
selector_in_logical u m = starts_wider after_selector after_logical (among_all (λ c. after_logical c ≡ true)
    (44 ∷ 93 ∷ []) (refl, (refl, tt))) (skip u) m

pub selector_in_bound : (u : Text) → Meets after_selector u → Meets after_bound u
selector_in_bound u m = starts_wider after_selector after_bound
    (among_all (λ c. after_bound c ≡ true) (44 ∷ 93 ∷ []) (refl, (refl, tt))) (skip u) m
