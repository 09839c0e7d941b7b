-- The names of the functions.
use Rattle.std.proofs.Common.{◌≡◌, Bool, true, false, codes, Option, Some, None, sym, ap}
use Rattle.std.specs.Prelude.{if◌then◌else◌}
use Rattle.std.specs.Str.{bytes_eq}
use Rattle.std.proofs.lemmas.Slice.Eq.{bytes_eq-Decides}
use Rattle.jp_tree.specs.Tree.{Text}
use Rattle.jp_types.specs.Functions.{Function, length_function, count_function, match_function}
use Rattle.jp_types.specs.Functions.{search_function, value_function, xor_function, distinct_function}
use Rattle.jp_types.specs.Functions.{function_named}

abbrev pub name_of : Function → Text
name_of length_function = codes "length"
name_of count_function = codes "count"
name_of match_function = codes "match"
name_of search_function = codes "search"
name_of value_function = codes "value"
name_of xor_function = codes "xor"
name_of distinct_function = codes "distinct"

-- the first of these that is true
abbrev told : Bool → Bool → Bool → Bool → Bool → Bool → Bool → Option Function
told l c m s v x d =
    if l then Some length_function
    else if c then Some count_function
    else if m then Some match_function
    else if s then Some search_function
    else if v then Some value_function
    else if x then Some xor_function
    else if d then Some distinct_function
    else None

abbrev truth_of : Bool → Bool → Bool → Bool → Bool → Bool → Bool → Function → Bool
truth_of l c m s v x d length_function = l
truth_of l c m s v x d count_function = c
truth_of l c m s v x d match_function = m
truth_of l c m s v x d search_function = s
truth_of l c m s v x d value_function = v
truth_of l c m s v x d xor_function = x
truth_of l c m s v x d distinct_function = d

same : (g f : Function) → Some g ≡ Some f → g ≡ f
same g f e = cc

is_told : (l c m s v x d : Bool) (f : Function) → told l c m s v x d ≡ Some f
    → truth_of l c m s v x d f ≡ true
is_told true c m s v x d f e =
    sym (ap (truth_of true c m s v x d) (same length_function f e))
is_told false true m s v x d f e =
    sym (ap (truth_of false true m s v x d) (same count_function f e))
is_told false false true s v x d f e =
    sym (ap (truth_of false false true s v x d) (same match_function f e))
is_told false false false true v x d f e =
    sym (ap (truth_of false false false true v x d) (same search_function f e))
is_told false false false false true x d f e =
    sym (ap (truth_of false false false false true x d) (same value_function f e))
is_told false false false false false true d f e =
    sym (ap (truth_of false false false false false true d) (same xor_function f e))
is_told false false false false false false true f e =
    sym (ap (truth_of false false false false false false true) (same distinct_function f e))
is_told false false false false false false false f e = absurd cc

tested : (t : Text) (f : Function) → function_named t ≡ Some f
    → truth_of (bytes_eq t (codes "length")) (bytes_eq t (codes "count")) (bytes_eq t (codes "match"))
    (bytes_eq t (codes "search")) (bytes_eq t (codes "value")) (bytes_eq t (codes "xor"))
    (bytes_eq t (codes "distinct")) f ≡ true
tested t f e =
    is_told (bytes_eq t (codes "length")) (bytes_eq t (codes "count")) (bytes_eq t (codes "match"))
    (bytes_eq t (codes "search")) (bytes_eq t (codes "value")) (bytes_eq t (codes "xor"))
    (bytes_eq t (codes "distinct")) f e

-- a function has one name
pub named : (t : Text) (f : Function) → function_named t ≡ Some f → t ≡ name_of f
named t length_function e = (bytes_eq-Decides t (codes "length")).0 (tested t length_function e)
named t count_function e = (bytes_eq-Decides t (codes "count")).0 (tested t count_function e)
named t match_function e = (bytes_eq-Decides t (codes "match")).0 (tested t match_function e)
named t search_function e = (bytes_eq-Decides t (codes "search")).0 (tested t search_function e)
named t value_function e = (bytes_eq-Decides t (codes "value")).0 (tested t value_function e)
named t xor_function e = (bytes_eq-Decides t (codes "xor")).0 (tested t xor_function e)
named t distinct_function e = (bytes_eq-Decides t (codes "distinct")).0 (tested t distinct_function e)
