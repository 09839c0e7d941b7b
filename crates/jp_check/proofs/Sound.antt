-- Parts of a query that is in range and well-typed are so too, and its calls have the arguments that fit.
use Rattle.std.proofs.Common.{◌≡◌, ℕ, suc, zero, ◌<◌, Bool, true, false, ◌&&◌, List, [], ◌∷◌, ◌++◌}
use Rattle.std.proofs.Common.{length, get_or, Option, Some, None, option_map, refl, sym, ap, ◌∙◌}
use Rattle.std.proofs.Common.{subst, arith}
use Rattle.std.specs.List.{list_all}
use Rattle.std.proofs.lemmas.List.Folds.{list_all-append}
use Rattle.jp_types.specs.Numbers.{Written, arguments_numbers}
use Rattle.jp_types.specs.Functions.{FunctionType, value_type, nodes_type, Function, result_type}
use Rattle.jp_types.specs.Functions.{length_function, count_function, match_function, search_function}
use Rattle.jp_types.specs.Functions.{value_function, xor_function, distinct_function, parameters}
use Rattle.jp_types.specs.Typing.{serves_as, fits, all_fit, fits_parameters, arguments_typed}
use Rattle.jp_tree.specs.Tree.{Arguments, arguments}
use Rattle.jp_tree.specs.PartViews.{argument_of, arguments_of}
use Rattle.jp_tree.specs.declared.tree.Argument.{Argument}
use Rattle.jp_tree.specs.declared.tree.Call.{Call, out-Call}
use Rattle.jp_tree.specs.PartViews.{call_of}
use Rattle.jp_tree.specs.Tree as tree
use Rattle.jp_tree.specs.View.{text_of}
use Rattle.jp_types.specs.Typing.{call_typed, type_of_call}
use Rattle.jp_types.specs.Functions.{function_named}
use Rattle.jp_types.proofs.Levels.{call_level}
use Rattle.jp_types.specs.Numbers.{argument_numbers, call_numbers}
use Rattle.jp_types.specs.Typing.{argument_typed}
use Rattle.jp_check.specs.inner.Making.{IsSound, is_readable}

pub both : (a b : Bool) → (a && b) ≡ true → (a ≡ true) × (b ≡ true)
both true true e = (refl, refl)
both true false e = absurd cc
both false b e = absurd cc

pub sound_parts : (ns ms : List Written) (s t : Bool) → IsSound (ns ++ ms) (s && t)
    → IsSound ns s × IsSound ms t
sound_parts ns ms s t h =
    let n = both _ _ (sym (list_all-append is_readable ns ms) ∙ h.0) in
    let u = both s t h.1 in ((n.0, u.0), (n.1, u.1))

module _ {X : Type 0} (numbers : List X → List Written) (typed : List X → Bool)
    (numbers_of : X → List Written)
    (typed_of : X → Bool) (more : (x : X) (xs : List X) → numbers (x ∷ xs) ≡ numbers_of x ++ numbers xs)
    (more_typed : (x : X) (xs : List X) → typed (x ∷ xs) ≡ (typed_of x && typed xs)) where
  sound_more : (x : X) (xs : List X) → IsSound (numbers (x ∷ xs)) (typed (x ∷ xs))
      → IsSound (numbers_of x) (typed_of x) × IsSound (numbers xs) (typed xs)
  sound_more x xs h = sound_parts (numbers_of x) (numbers xs) (typed_of x) (typed xs)
      (ap (λ ns. list_all is_readable ns) (sym (more x xs)) ∙ h.0, sym (more_typed x xs) ∙ h.1)

  -- each part of a list is as the list
  pub sound_at : (xs : List X) (i : ℕ) (x : X) → i < length xs → x ≡ get_or xs i x
      → IsSound (numbers xs) (typed xs) → IsSound (numbers_of x) (typed_of x)
  sound_at [] i x within is h = absurd (omega arith)
  sound_at (y ∷ ys) zero x within is h =
      subst (λ z. IsSound (numbers_of z) (typed_of z)) (sym is) (sound_more y ys h).0
  sound_at (y ∷ ys) (suc i) x within is h = sound_at ys i x (omega arith) is (sound_more y ys h).1

-- an argument of a list that is in range and well-typed
pub argument_sound : (xs : List Argument) (i : ℕ) (a : Argument) → i < length xs → a ≡ get_or xs i a
    → IsSound (arguments_numbers (arguments (arguments_of xs)))
    (arguments_typed (arguments (arguments_of xs)))
    → IsSound (argument_numbers (argument_of a)) (argument_typed (argument_of a))
argument_sound xs i a within is h =
    sound_at (λ ys. arguments_numbers (arguments (arguments_of ys)))
    (λ ys. arguments_typed (arguments (arguments_of ys))) (λ y. argument_numbers (argument_of y))
    (λ y. argument_typed (argument_of y)) (λ y ys. refl) (λ y ys. refl) xs i a within is h

-- as many arguments as parameters, and each fits
pub one_fits : (k : FunctionType) (xs : List Argument) → all_fit (k ∷ []) (arguments (arguments_of xs)) ≡ true
    → length xs ≡ 1
one_fits k [] h = absurd cc
one_fits k (x ∷ []) h = refl
one_fits k (x ∷ y ∷ xs) h = absurd (false_true (both (fits k (argument_of x)) false h).1)
  where
    false_true : false ≡ true → ⊥
    false_true e = cc

pub two_fit : (j k : FunctionType) (xs : List Argument)
    → all_fit (j ∷ k ∷ []) (arguments (arguments_of xs)) ≡ true
    → length xs ≡ 2
two_fit j k [] h = absurd cc
two_fit j k (x ∷ xs) h = ap suc (one_fits k xs (both (fits j (argument_of x)) _ h).1)

pub first_fits : (k : FunctionType) (ks : List FunctionType) (xs : List Argument) (a : Argument)
    → 0 < length xs
    → a ≡ get_or xs 0 a → all_fit (k ∷ ks) (arguments (arguments_of xs)) ≡ true
    → fits k (argument_of a) ≡ true
first_fits k ks [] a within is h = absurd (omega arith)
first_fits k ks (x ∷ xs) a within is h =
    ap (λ y. fits k (argument_of y)) is ∙ (both (fits k (argument_of x)) _ h).0

pub second_fits : (j k : FunctionType) (ks : List FunctionType) (xs : List Argument) (a : Argument)
    → 1 < length xs
    → a ≡ get_or xs 1 a → all_fit (j ∷ k ∷ ks) (arguments (arguments_of xs)) ≡ true
    → fits k (argument_of a) ≡ true
second_fits j k ks [] a within is h = absurd (omega arith)
second_fits j k ks (x ∷ xs) a within is h =
    first_fits k ks xs a (omega arith) is (both (fits j (argument_of x)) _ h).1

-- a call that gives a value, or nodes, has one argument
one_for_value : (o : Option Function) (xs : List Argument)
    → serves_as value_type (option_map result_type o) ≡ true
    → fits_parameters o (arguments (arguments_of xs)) ≡ true → length xs ≡ 1
one_for_value None xs s h = absurd cc
one_for_value (Some length_function) xs s h = one_fits value_type xs h
one_for_value (Some count_function) xs s h = one_fits nodes_type xs h
one_for_value (Some value_function) xs s h = one_fits nodes_type xs h
one_for_value (Some match_function) xs s h = absurd cc
one_for_value (Some search_function) xs s h = absurd cc
one_for_value (Some xor_function) xs s h = absurd cc
one_for_value (Some distinct_function) xs s h = absurd cc

one_for_nodes : (o : Option Function) (xs : List Argument)
    → serves_as nodes_type (option_map result_type o) ≡ true
    → fits_parameters o (arguments (arguments_of xs)) ≡ true → length xs ≡ 1
one_for_nodes None xs s h = absurd cc
one_for_nodes (Some length_function) xs s h = absurd cc
one_for_nodes (Some count_function) xs s h = absurd cc
one_for_nodes (Some value_function) xs s h = absurd cc
one_for_nodes (Some match_function) xs s h = absurd cc
one_for_nodes (Some search_function) xs s h = absurd cc
one_for_nodes (Some xor_function) xs s h = absurd cc
one_for_nodes (Some distinct_function) xs s h = one_fits nodes_type xs h

abbrev of_call : Call → tree.Call
of_call x = tree.call (text_of (out-Call x).name) (tree.arguments (arguments_of (out-Call x).arguments.items))

pub value_of_one : (x : Call) → call_typed (call_of x) ≡ true
    → serves_as value_type (type_of_call (call_of x)) ≡ true → length (out-Call x).arguments.items ≡ 1
value_of_one x h s =
    let e : call_of x ≡ of_call x = call_level x in
    one_for_value (function_named (text_of (out-Call x).name)) (out-Call x).arguments.items
    (ap (λ y. serves_as value_type (type_of_call y)) (sym e) ∙ s) (both _ _ (ap call_typed (sym e) ∙ h)).0

pub nodes_of_one : (x : Call) → call_typed (call_of x) ≡ true
    → serves_as nodes_type (type_of_call (call_of x)) ≡ true → length (out-Call x).arguments.items ≡ 1
nodes_of_one x h s =
    let e : call_of x ≡ of_call x = call_level x in
    one_for_nodes (function_named (text_of (out-Call x).name)) (out-Call x).arguments.items
    (ap (λ y. serves_as nodes_type (type_of_call y)) (sym e) ∙ s) (both _ _ (ap call_typed (sym e) ∙ h)).0

-- the arguments of a call of a known function are sound, and fit its parameters
pub fitting : (name : tree.Text) (xs : List Argument) (f : Function) → function_named name ≡ Some f
    → IsSound (call_numbers (tree.call name (arguments (arguments_of xs))))
    (call_typed (tree.call name (arguments (arguments_of xs))))
    → IsSound (arguments_numbers (arguments (arguments_of xs)))
    (arguments_typed (arguments (arguments_of xs)))
    × (all_fit (parameters f) (arguments (arguments_of xs)) ≡ true)
fitting name xs f known h =
    let given = arguments (arguments_of xs) in
    let b = both (fits_parameters (function_named name) given) (arguments_typed given) h.1 in
    ((h.0, b.1), ap (λ o. fits_parameters o given) (sym known) ∙ b.0)
