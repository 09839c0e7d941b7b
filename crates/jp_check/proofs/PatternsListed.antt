-- The literal patterns that are listed on the way, part by part.
use Rattle.std.proofs.Common.{◌≡◌, ℕ, ◌<◌, ◌≤◌, List, [], ◌∷◌, ◌++◌, length, get_or, Option, sym, ap, ◌∙◌}
use Rattle.std.proofs.Common.{append_assoc, append-nil}
use Rattle.std.specs.Prelude.{string_bytes}
use Rattle.std.specs.Str.{chars}
use Rattle.jp_tree.specs.Tree as tree
use Rattle.jp_tree.specs.Tree.{Text, arguments}
use Rattle.jp_tree.specs.PartViews.{argument_of, arguments_of, call_of}
use Rattle.jp_tree.specs.declared.tree.Argument.{Argument}
use Rattle.jp_tree.specs.declared.tree.Call.{Call, out-Call}
use Rattle.jp_types.specs.Functions.{Function, function_named}
use Rattle.jp_check.specs.LiteralPatterns.{literal_text, second_text, given_pattern, argument_patterns}
use Rattle.jp_check.specs.LiteralPatterns.{arguments_patterns, call_patterns}
use Rattle.jp_check.proofs.CallsMade.{called, called_one, two_are, text_is}

-- texts that were listed behind others
pub listed_same : (a b xs ys : List Text) → b ≡ a ++ xs → xs ≡ ys → b ≡ a ++ ys
listed_same a b xs ys h e = h ∙ ap (λ ts. a ++ ts) e

pub listed_on : (a b c xs ys : List Text) → b ≡ a ++ xs → c ≡ b ++ ys → c ≡ a ++ (xs ++ ys)
listed_on a b c xs ys h g = g ∙ ap (λ ts. ts ++ ys) h ∙ append_assoc a xs ys

-- the patterns of a call, by its function
pub called_patterns : (x : Call) (bytes : List ℕ) (name : Text) (xs : List Argument) (f : Option Function)
    → function_named name ≡ f → bytes ≡ string_bytes (out-Call x).name → chars bytes ≡ name
    → xs ≡ (out-Call x).arguments.items
    → given_pattern f (arguments (arguments_of xs)) ++ arguments_patterns (arguments (arguments_of xs))
    ≡ call_patterns (call_of x)
called_patterns x bytes name xs f known same is items =
    let given = arguments (arguments_of xs) in
    sym (ap call_patterns (called x bytes name xs same is items)
    ∙ ap (λ o. given_pattern o given ++ arguments_patterns given) known)

-- the patterns of a call with one argument
pub one_patterns : (x : Call) (bytes : List ℕ) (name : Text) (xs : List Argument) (a : Argument)
    → given_pattern (function_named name) (arguments (argument_of a ∷ [])) ≡ []
    → bytes ≡ string_bytes (out-Call x).name → chars bytes ≡ name → xs ≡ (out-Call x).arguments.items
    → 1 ≤ length xs → length xs < 2 → a ≡ get_or xs 0 a
    → argument_patterns (argument_of a) ≡ call_patterns (call_of x)
one_patterns x bytes name xs a none same is items low high first =
    sym (append-nil (argument_patterns (argument_of a)))
    ∙ ap (λ ts. ts ++ (argument_patterns (argument_of a) ++ [])) (sym none)
    ∙ sym (ap call_patterns (called_one x bytes name xs a same is items low high first))

-- the patterns of two arguments, and of the arguments of `match` and `search`
abbrev pub given_patterns : tree.Arguments → List Text
given_patterns given = second_text given ++ arguments_patterns given

module _ (xs : List Argument) (a b : Argument) (low : 2 ≤ length xs) (high : length xs < 3)
    (first : a ≡ get_or xs 0 a) (second : b ≡ get_or xs 1 b) where
  pub two_patterns : argument_patterns (argument_of a) ++ argument_patterns (argument_of b)
      ≡ arguments_patterns (arguments (arguments_of xs))
  two_patterns =
      ap (λ ts. argument_patterns (argument_of a) ++ ts)
      (sym (append-nil (argument_patterns (argument_of b))))
      ∙ ap (λ ys. arguments_patterns (arguments (arguments_of ys)))
      (sym (two_are xs a b low high first second))

  -- where the second argument is this text as a literal
  pub read_patterns : (t : Text) → t ∷ [] ≡ literal_text (argument_of b)
      → (t ∷ []) ++ argument_patterns (argument_of a) ≡ given_patterns (arguments (arguments_of xs))
  read_patterns t e =
      ap (λ ts. t ∷ ts) (sym (append-nil (argument_patterns (argument_of a))))
      ∙ ap (λ y. literal_text y ++ (argument_patterns (argument_of a) ++ (argument_patterns y ++ [])))
      (sym (text_is (argument_of b) t e))
      ∙ ap (λ ys. given_patterns (arguments (arguments_of ys)))
      (sym (two_are xs a b low high first second))

  -- where it is no text as a literal
  pub other_patterns : [] ≡ literal_text (argument_of b)
      → argument_patterns (argument_of a) ++ argument_patterns (argument_of b)
      ≡ given_patterns (arguments (arguments_of xs))
  other_patterns e =
      two_patterns ∙ ap (λ ts. ts ++ arguments_patterns (arguments (arguments_of xs)))
      (e ∙ ap (λ ys. second_text (arguments (arguments_of ys))) (sym (two_are xs a b low high first second)))
