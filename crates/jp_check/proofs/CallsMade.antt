-- Calls with one argument, and with two.
use Rattle.std.proofs.Common.{◌≡◌, ℕ, ◌<◌, ◌≤◌, List, [], ◌∷◌, length, get_or, refl, sym, ap, ap₂, ◌∙◌}
use Rattle.std.proofs.Common.{arith}
use Rattle.std.specs.Prelude.{string_bytes, codes}
use Rattle.std.specs.Str.{chars}
use Rattle.jp_tree.specs.Tree as tree
use Rattle.jp_tree.specs.PartViews.{argument_of, arguments_of, call_of}
use Rattle.jp_tree.specs.declared.tree.Argument.{Argument}
use Rattle.jp_tree.specs.declared.tree.Call.{Call, out-Call}
use Rattle.jp_compiled.specs.Parts.{call_of_one, call_of_two, text_argument, form_of, truth_argument}
use Rattle.jp_compiled.specs.Parts.{Source, queried, different, source_argument, source_test}
use Rattle.jp_check.specs.LiteralPatterns.{literal_text}
use Rattle.jp_types.proofs.Levels.{call_level}

one_is : (xs : List Argument) (a : Argument) → 1 ≤ length xs → length xs < 2 → a ≡ get_or xs 0 a
    → xs ≡ a ∷ []
one_is [] a low high is = absurd (omega arith)
one_is (x ∷ []) a low high is = ap (λ y. y ∷ []) (sym is)
one_is (x ∷ y ∷ xs) a low high is = absurd (omega arith)

pub two_are : (xs : List Argument) (a b : Argument) → 2 ≤ length xs → length xs < 3 → a ≡ get_or xs 0 a
    → b ≡ get_or xs 1 b → xs ≡ a ∷ b ∷ []
two_are [] a b low high is is2 = absurd (omega arith)
two_are (x ∷ []) a b low high is is2 = absurd (omega arith)
two_are (x ∷ y ∷ []) a b low high is is2 = ap₂ (λ u v. u ∷ v ∷ []) (sym is) (sym is2)
two_are (x ∷ y ∷ z ∷ xs) a b low high is is2 = absurd (omega arith)

call_made_of : (x : Call) (bytes : List ℕ) (name : tree.Text) (xs all : List Argument)
    → bytes ≡ string_bytes (out-Call x).name → chars bytes ≡ name → xs ≡ (out-Call x).arguments.items
    → xs ≡ all
    → call_of x ≡ tree.call name (tree.arguments (arguments_of all))
call_made_of x bytes name xs all same is same_items are =
    call_level x
    ∙ ap₂ (λ t ys. tree.call t (tree.arguments (arguments_of ys))) (ap chars (sym same) ∙ is)
    (sym same_items ∙ are)

pub called_one : (x : Call) (bytes : List ℕ) (name : tree.Text) (xs : List Argument) (a : Argument)
    → bytes ≡ string_bytes (out-Call x).name → chars bytes ≡ name → xs ≡ (out-Call x).arguments.items
    → 1 ≤ length xs → length xs < 2 → a ≡ get_or xs 0 a → call_of x ≡ call_of_one name (argument_of a)
called_one x bytes name xs a same is same_items low high first = call_made_of x bytes name xs (a ∷ [])
    same is same_items (one_is xs a low high first)

-- a call whose arguments are these
pub called : (x : Call) (bytes : List ℕ) (name : tree.Text) (xs : List Argument)
    → bytes ≡ string_bytes (out-Call x).name → chars bytes ≡ name → xs ≡ (out-Call x).arguments.items
    → call_of x ≡ tree.call name (tree.arguments (arguments_of xs))
called x bytes name xs same is same_items = call_made_of x bytes name xs xs same is same_items refl

pub given_two : (name : tree.Text) (xs : List Argument) (a b : Argument) → 2 ≤ length xs
    → length xs < 3 → a ≡ get_or xs 0 a → b ≡ get_or xs 1 b
    → tree.call name (tree.arguments (arguments_of xs)) ≡ call_of_two name (argument_of a) (argument_of b)
given_two name xs a b low high first second =
    ap (λ ys. tree.call name (tree.arguments (arguments_of ys))) (two_are xs a b low high first second)

-- an argument as it is written, where it is a query, a call or a logical expression
pub query_written : (a : tree.Argument) (q : tree.Query) → a ≡ tree.query_argument q
    → truth_argument (form_of a) (tree.test q) ≡ a
query_written a q e = ap (λ x. truth_argument (form_of x) (tree.test q)) e ∙ sym e

pub call_written : (a : tree.Argument) (x : tree.Call) → a ≡ tree.call_argument x
    → truth_argument (form_of a) (tree.test_call x) ≡ a
call_written a x e = ap (λ y. truth_argument (form_of y) (tree.test_call x)) e ∙ sym e

pub logical_written : (a : tree.Argument) (l : tree.Logical) → a ≡ tree.logical_argument l
    → truth_argument (form_of a) l ≡ a
logical_written a l e = ap (λ x. truth_argument (form_of x) l) e ∙ sym e

-- a source that is a call as an argument is the same call as a test
same_call : (x y : tree.Call) → tree.call_argument x ≡ tree.call_argument y → x ≡ y
same_call x y e = cc

pub called_test : (s : Source) (x : tree.Call) → source_argument s ≡ tree.call_argument x
    → source_test s ≡ tree.test_call x
called_test (queried q) x e = absurd cc
called_test (different s) x e =
    ap tree.test_call (same_call (call_of_one (codes "distinct") (source_argument s)) x e)

-- an argument that is this text as a literal
pub text_is : (a : tree.Argument) (t : tree.Text) → t ∷ [] ≡ literal_text a → a ≡ text_argument t
text_is (tree.literal_argument (tree.text u)) t e = let same : u ≡ t = cc in ap text_argument same
text_is (tree.literal_argument (tree.number u)) t e = absurd cc
text_is (tree.literal_argument (tree.truth b)) t e = absurd cc
text_is (tree.literal_argument tree.null) t e = absurd cc
text_is (tree.query_argument q) t e = absurd cc
text_is (tree.logical_argument l) t e = absurd cc
text_is (tree.call_argument x) t e = absurd cc
