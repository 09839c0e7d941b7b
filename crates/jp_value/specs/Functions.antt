-- What the functions give: those of RFC 9535 (2.4.4 to 2.4.8), and this project's own, `xor` and `distinct`.
use Rattle.std.specs.Prelude.{ℕ, suc, Bool, true, false, not, ◌&&◌, ◌||◌, ◌==◌, pos, List, [], ◌∷◌}
use Rattle.std.specs.Prelude.{length, Option, Some, None, option_map, option_and_then}
use Rattle.std.specs.List.{filter}
use Rattle.jp_doc.specs.Json.{Text, Json, number, text, text_eq, array, object, Members, no_members}
use Rattle.jp_doc.specs.Json.{add_member}
use Rattle.jp_doc.specs.Json.{item_list}
use Rattle.jp_doc.specs.Location.{Step, name, index, Location, Node}
use Rattle.jp_number.specs.Number.{whole}
use Rattle.jp_types.specs.Functions.{Function, length_function, count_function, match_function}
use Rattle.jp_types.specs.Functions.{search_function, value_function, xor_function, distinct_function}
use Rattle.jp_pattern.specs.Tests.{Tests}

-- what an argument hands over and a call gives: a value or nothing, true or false, or a list of nodes
pub data Handed : Type 0 where
  handed_value : Option Json → Handed
  handed_truth : Bool → Handed
  handed_nodes : List Node → Handed

abbrev pub is_empty : List Node → Bool
is_empty [] = true
is_empty (n ∷ ns) = false

-- the value of the first node, if there is one
abbrev pub first_value : List Node → Option Json
first_value [] = None
first_value (n ∷ ns) = Some n.value

-- the value of the node where there is exactly one
abbrev pub only_value : List Node → Option Json
only_value (n ∷ []) = Some n.value
only_value _ = None

-- What is handed over, in a place for a value, for true or false, and for nodes: a singular query stands for
-- the value of
-- its node, and a list of nodes is true where it is not empty.
abbrev pub as_value : Handed → Option Json
as_value (handed_value v) = v
as_value (handed_truth b) = None
as_value (handed_nodes ns) = first_value ns

abbrev pub as_truth : Handed → Bool
as_truth (handed_value v) = false
as_truth (handed_truth b) = b
as_truth (handed_nodes ns) = not (is_empty ns)

abbrev pub as_nodes : Handed → List Node
as_nodes (handed_value v) = []
as_nodes (handed_truth b) = []
as_nodes (handed_nodes ns) = ns

abbrev pub member_count : Members → ℕ
member_count no_members = 0
member_count (add_member k v ms) = suc (member_count ms)

-- of a text its number of scalar values, of an array its items, of an object its members
abbrev pub size_of : Json → Option ℕ
size_of (text s) = Some (length s)
size_of (array vs) = Some (length (item_list vs))
size_of (object ms) = Some (member_count ms)
size_of _ = None

abbrev pub number_value : ℕ → Json
number_value n = number (whole (pos n))

abbrev pub length_value : Option Json → Option Json
length_value v = option_map number_value (option_and_then size_of v)

-- a test of two texts; of anything else it is false
abbrev pub tested : (Text → Text → Bool) → Option Json → Option Json → Bool
tested test (Some (text s)) (Some (text pattern)) = test s pattern
tested test _ _ = false

-- whether one of two is true and the other is not
abbrev pub exactly_one : Bool → Bool → Bool
exactly_one a b = (a && not b) || (not a && b)

-- whether two locations are the same, step by step
abbrev pub same_step : Step → Step → Bool
same_step (name k) (name l) = text_eq k l
same_step (index i) (index j) = i == j
same_step _ _ = false

abbrev pub same_location : Location → Location → Bool
same_location [] [] = true
same_location (s ∷ ss) (t ∷ ts) = same_step s t && same_location ss ts
same_location _ _ = false

abbrev pub same_place : Node → Node → Bool
same_place m n = same_location m.location n.location

-- the list without each element that stands earlier in it, where these are the same
abbrev pub first_ones : {X : Type 0} → (X → X → Bool) → List X → List X
first_ones same [] = []
first_ones same (x ∷ xs) = x ∷ filter (λ y. not (same x y)) (first_ones same xs)

-- the list without each node whose location stands earlier in it
abbrev pub distinct : List Node → List Node
distinct ns = first_ones same_place ns

-- What a call gives. The tests say whether a text, or some part of it, is in the language of a pattern.
abbrev pub called : Tests → Function → List Handed → Handed
called tests length_function (a ∷ []) = handed_value (length_value (as_value a))
called tests count_function (a ∷ []) = handed_value (Some (number_value (length (as_nodes a))))
called tests match_function (a ∷ b ∷ []) = handed_truth (tested tests.is_match (as_value a) (as_value b))
called tests search_function (a ∷ b ∷ []) = handed_truth (tested tests.is_found (as_value a) (as_value b))
called tests value_function (a ∷ []) = handed_value (only_value (as_nodes a))
called tests xor_function (a ∷ b ∷ []) = handed_truth (exactly_one (as_truth a) (as_truth b))
called tests distinct_function (a ∷ []) = handed_nodes (distinct (as_nodes a))
called tests _ _ = handed_value None

-- the same by name; an unknown function gives nothing
abbrev pub called_if_known : Tests → Option Function → List Handed → Handed
called_if_known tests None given = handed_value None
called_if_known tests (Some function) given = called tests function given
