-- The bracket depth of a front of a text.
use Rattle.std.proofs.Common.{◌≡◌, ℕ, ◌+◌, ◌≤◌, max, arith, refl, ap, List, [], ◌∷◌, ◌++◌, map, length, ◌-◌}
use Rattle.std.proofs.Common.{◌==◌, true, false, if◌then◌else◌}
use Rattle.jp_tree.specs.Tree.{Text}
use Rattle.jp_tree.specs.Characters.{is_quote}
use Rattle.jp_tokens.specs.Depth.{Place, outside, inside, passing, is_opening, is_closing, step, scan}
use Rattle.jp_tokens.specs.Depth.{count_of, open_brackets, prefixes, greatest, bracket_depth}

-- the greatest count over the fronts of a text that is scanned from here
abbrev pub depth_from : Place → Text → ℕ
depth_from place t = greatest (map (λ (s : Text). count_of (scan place s)) (prefixes t))

pub map_behind : (place : Place) (c : ℕ) (ts : List Text)
    → map (λ (s : Text). count_of (scan place s)) (map (λ (s : Text). c ∷ s) ts)
    ≡ map (λ (s : Text). count_of (scan (step place c) s)) ts
map_behind place c [] = refl
map_behind place c (t ∷ ts) = ap (λ (ns : List ℕ). count_of (scan (step place c) t) ∷ ns)
    (map_behind place c ts)

-- one character is passed
pub depth_from_cons : (place : Place) (c : ℕ) (t : Text) → depth_from place (c ∷ t)
    ≡ max (count_of place) (depth_from (step place c) t)
depth_from_cons place c t = ap (λ (ns : List ℕ). max (count_of place) (greatest ns))
    (map_behind place c (prefixes t))

pub count_within : (place : Place) (t : Text) → count_of place ≤ depth_from place t
count_within place [] = omega arith
count_within place (c ∷ t) = omega arith

-- a front is no deeper
pub front_within : (place : Place) (s t : Text) → depth_from place s ≤ depth_from place (s ++ t)
front_within place [] t = let h = count_within place t in omega arith
front_within place (c ∷ s) t =
    let h = front_within (step place c) s t in
    let e = depth_from_cons place c s in
    let k = depth_from_cons place c (s ++ t) in
    omega arith

pub front_no_deeper : (s t : Text) → bracket_depth s ≤ bracket_depth (s ++ t)
front_no_deeper s t = front_within (outside 0) s t

-- the brackets that are open at the end count
pub open_within : (place : Place) (t : Text) → count_of (scan place t) ≤ depth_from place t
open_within place [] = omega arith
open_within place (c ∷ t) =
    let h = open_within (step place c) t in
    let e = depth_from_cons place c t in
    omega arith

pub open_no_deeper : (t : Text) → open_brackets t ≤ bracket_depth t
open_no_deeper t = open_within (outside 0) t

-- one character opens one bracket at most
pub step_within : (place : Place) (c : ℕ) → count_of (step place c) ≤ count_of place + 1
step_within (outside count) c =
    elim (is_quote c) as (λ b. count_of (if b then inside c count else if is_opening c then outside
    (count + 1) else if is_closing c then outside (count - 1) else outside count) ≤ count + 1) [
      | true ↦ omega arith
      | false ↦ elim (is_opening c) as
          (λ b. count_of (if b then outside (count + 1) else if is_closing c then outside (count - 1) else
          outside count) ≤ count + 1) [
            | true ↦ omega arith
            | false ↦ elim (is_closing c) as (λ b. count_of (if b then outside (count - 1) else outside count)
                ≤ count + 1) [
                  | true ↦ omega arith
                  | false ↦ omega arith
                ]
          ]
    ]
step_within (inside quote count) c =
    elim (c == 92) as (λ b. count_of (if b then passing quote count else if c == quote then outside count else
    inside quote count) ≤ count + 1) [
      | true ↦ omega arith
      | false ↦ elim (c == quote) as (λ b. count_of (if b then outside count else inside quote count) ≤ count
          + 1) [
            | true ↦ omega arith
            | false ↦ omega arith
          ]
    ]
step_within (passing quote count) c = omega arith

pub length_within : (place : Place) (t : Text) → depth_from place t ≤ count_of place + length t
length_within place [] = omega arith
length_within place (c ∷ t) =
    let h = length_within (step place c) t in
    let k = step_within place c in
    let e = depth_from_cons place c t in
    omega arith

pub depth_within_length : (t : Text) → bracket_depth t ≤ length t
depth_within_length t = let h : bracket_depth t ≤ 0 + length t = length_within (outside 0) t in omega arith
