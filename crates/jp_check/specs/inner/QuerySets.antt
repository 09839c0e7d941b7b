-- A step of a proof, which nobody has to believe: the trees of queries are a set, as each is a retract of a
-- copy that is one.
use ghost.Sets.{retract_set}
use Rattle.std.proofs.Props.{props}
use Rattle.std.proofs.Common.{◌≡◌, ℕ, ◌==◌, Bool, true, false, List, [], Option, Some, None, refl, ap}
use Rattle.std.proofs.Common.{ap₂, ◌∙◌}
use Rattle.std.specs.Prelude.{if◌then◌else◌}
use Rattle.jp_tree.specs.Tree as tree
use Rattle.jp_tree.specs.declared.tree.Start.{Start}
use Rattle.jp_tree.specs.declared.tree.Start.TheVariants as start
use Rattle.jp_tree.specs.declared.tree.Operator.{Operator}
use Rattle.jp_tree.specs.declared.tree.Operator.TheVariants as op

-- a copy of any part of a tree
data Copy : Type 0 where
  end : Copy
  word : List ℕ → Copy
  mark : ℕ → Copy → Copy → Copy
  deriving IsSet as copy_set

abbrev copy_start : Start → Copy
copy_start start.Root = end
copy_start start.Current = word []

abbrev original_start : Copy → Start
original_start (word t) = start.Current
original_start _ = start.Root

original-start : (s : Start) → original_start (copy_start s) ≡ s
original-start start.Root = refl
original-start start.Current = refl

abbrev copy_truth : Bool → Copy
copy_truth true = end
copy_truth false = word []

abbrev original_truth : Copy → Bool
original_truth (word t) = false
original_truth _ = true

original-truth : (b : Bool) → original_truth (copy_truth b) ≡ b
original-truth true = refl
original-truth false = refl

abbrev number_of : Operator → ℕ
number_of op.Eq = 0
number_of op.Ne = 1
number_of op.Le = 2
number_of op.Ge = 3
number_of op.Lt = 4
number_of op.Gt = 5

abbrev operator_of : ℕ → Operator
operator_of k = if k == 0 then op.Eq else if k == 1 then op.Ne else if k == 2 then op.Le else if k == 3
    then op.Ge else if k == 4 then op.Lt else op.Gt

operator-number : (o : Operator) → operator_of (number_of o) ≡ o
operator-number op.Eq = refl
operator-number op.Ne = refl
operator-number op.Le = refl
operator-number op.Ge = refl
operator-number op.Lt = refl
operator-number op.Gt = refl

abbrev original_word : Copy → tree.Text
original_word (word t) = t
original_word _ = []

abbrev copy_part : Option tree.Text → Copy
copy_part None = end
copy_part (Some t) = word t

abbrev original_part : Copy → Option tree.Text
original_part (word t) = Some t
original_part _ = None

original-part : (o : Option tree.Text) → original_part (copy_part o) ≡ o
original-part None = refl
original-part (Some t) = refl

abbrev copy_literal : tree.Literal → Copy
copy_literal (tree.number t) = mark 0 (word t) end
copy_literal (tree.text t) = mark 1 (word t) end
copy_literal (tree.truth b) = mark 2 (copy_truth b) end
copy_literal tree.null = end

abbrev original_literal : Copy → tree.Literal
original_literal (mark k a b) =
    if k == 0 then tree.number (original_word a) else if k == 1 then tree.text (original_word a) else
    tree.truth (original_truth a)
original_literal _ = tree.null

original-literal : (x : tree.Literal) → original_literal (copy_literal x) ≡ x
original-literal (tree.number t) = refl
original-literal (tree.text t) = refl
original-literal (tree.truth b) = ap tree.truth (original-truth b)
original-literal tree.null = refl

abbrev mutual
  copy_query : tree.Query → Copy
  copy_query (tree.query s ss) = mark 0 (copy_start s) (copy_segments ss)

  copy_segment : tree.Segment → Copy
  copy_segment (tree.segment b xs) = mark 0 (copy_truth b) (copy_selectors xs)

  copy_selector : tree.Selector → Copy
  copy_selector (tree.name t) = mark 0 (word t) end
  copy_selector (tree.index t) = mark 1 (word t) end
  copy_selector (tree.filter l) = mark 2 (copy_logical l) end
  copy_selector (tree.slice p q r) = mark 3 (copy_part p) (mark 0 (copy_part q) (copy_part r))
  copy_selector tree.wildcard = end

  copy_logical : tree.Logical → Copy
  copy_logical (tree.any ls) = mark 0 (copy_logicals ls) end
  copy_logical (tree.all ls) = mark 1 (copy_logicals ls) end
  copy_logical (tree.negation l) = mark 2 (copy_logical l) end
  copy_logical (tree.comparing c) = mark 3 (copy_comparison c) end
  copy_logical (tree.test q) = mark 4 (copy_query q) end
  copy_logical (tree.test_call c) = mark 5 (copy_call c) end

  copy_comparison : tree.Comparison → Copy
  copy_comparison (tree.comparison l o r) = mark (number_of o) (copy_comparable l) (copy_comparable r)

  copy_comparable : tree.Comparable → Copy
  copy_comparable (tree.literal x) = mark 0 (copy_literal x) end
  copy_comparable (tree.single q) = mark 1 (copy_query q) end
  copy_comparable (tree.value_call c) = mark 2 (copy_call c) end

  copy_call : tree.Call → Copy
  copy_call (tree.call t xs) = mark 0 (word t) (copy_arguments xs)

  copy_argument : tree.Argument → Copy
  copy_argument (tree.literal_argument x) = mark 0 (copy_literal x) end
  copy_argument (tree.query_argument q) = mark 1 (copy_query q) end
  copy_argument (tree.logical_argument l) = mark 2 (copy_logical l) end
  copy_argument (tree.call_argument c) = mark 3 (copy_call c) end

  copy_segments : tree.Segments → Copy
  copy_segments tree.no_segments = end
  copy_segments (tree.add_segment x xs) = mark 0 (copy_segment x) (copy_segments xs)

  copy_selectors : tree.Selectors → Copy
  copy_selectors tree.no_selectors = end
  copy_selectors (tree.add_selector x xs) = mark 0 (copy_selector x) (copy_selectors xs)

  copy_logicals : tree.Logicals → Copy
  copy_logicals tree.no_logicals = end
  copy_logicals (tree.add_logical x xs) = mark 0 (copy_logical x) (copy_logicals xs)

  copy_arguments : tree.Arguments → Copy
  copy_arguments tree.no_arguments = end
  copy_arguments (tree.add_argument x xs) = mark 0 (copy_argument x) (copy_arguments xs)

abbrev left : Copy → Copy
left (mark k a b) = a
left _ = end

abbrev right : Copy → Copy
right (mark k a b) = b
right _ = end

abbrev mutual
  original_query : Copy → tree.Query
  original_query (mark k a b) = tree.query (original_start a) (original_segments b)
  original_query _ = tree.query start.Root tree.no_segments

  original_segment : Copy → tree.Segment
  original_segment (mark k a b) = tree.segment (original_truth a) (original_selectors b)
  original_segment _ = tree.segment true tree.no_selectors

  original_selector : Copy → tree.Selector
  original_selector (mark k a b) = if k == 0 then tree.name (original_word a) else if k == 1 then
      tree.index (original_word a) else if k == 2 then tree.filter (original_logical a) else tree.slice
      (original_part a) (original_part (left b)) (original_part (right b))
  original_selector _ = tree.wildcard

  original_logical : Copy → tree.Logical
  original_logical (mark k a b) = if k == 0 then tree.any (original_logicals a) else if k == 1 then
      tree.all (original_logicals a) else if k == 2 then tree.negation (original_logical a) else if k == 3
      then tree.comparing (original_comparison a) else if k == 4 then tree.test (original_query a) else
      tree.test_call (original_call a)
  original_logical _ = tree.any tree.no_logicals

  original_comparison : Copy → tree.Comparison
  original_comparison (mark k a b) = tree.comparison (original_comparable a) (operator_of k)
      (original_comparable b)
  original_comparison _ = tree.comparison (tree.literal tree.null) op.Eq (tree.literal tree.null)

  original_comparable : Copy → tree.Comparable
  original_comparable (mark k a b) = if k == 0 then tree.literal (original_literal a) else if k == 1 then
      tree.single (original_query a) else tree.value_call (original_call a)
  original_comparable _ = tree.literal tree.null

  original_call : Copy → tree.Call
  original_call (mark k a b) = tree.call (original_word a) (original_arguments b)
  original_call _ = tree.call [] tree.no_arguments

  original_argument : Copy → tree.Argument
  original_argument (mark k a b) = if k == 0 then tree.literal_argument (original_literal a) else if k ==
      1 then tree.query_argument (original_query a) else if k == 2 then tree.logical_argument
      (original_logical a) else tree.call_argument (original_call a)
  original_argument _ = tree.literal_argument tree.null

  original_segments : Copy → tree.Segments
  original_segments (mark k a b) = tree.add_segment (original_segment a) (original_segments b)
  original_segments _ = tree.no_segments

  original_selectors : Copy → tree.Selectors
  original_selectors (mark k a b) = tree.add_selector (original_selector a) (original_selectors b)
  original_selectors _ = tree.no_selectors

  original_logicals : Copy → tree.Logicals
  original_logicals (mark k a b) = tree.add_logical (original_logical a) (original_logicals b)
  original_logicals _ = tree.no_logicals

  original_arguments : Copy → tree.Arguments
  original_arguments (mark k a b) = tree.add_argument (original_argument a) (original_arguments b)
  original_arguments _ = tree.no_arguments

mutual
  original-query : (x : tree.Query) → original_query (copy_query x) ≡ x
  original-query (tree.query s ss) = ap₂ (λ u v. tree.query u v) (original-start s) (original-segments ss)

  original-segment : (x : tree.Segment) → original_segment (copy_segment x) ≡ x
  original-segment (tree.segment b xs) = ap₂ (λ u v. tree.segment u v) (original-truth b)
      (original-selectors xs)

  original-selector : (x : tree.Selector) → original_selector (copy_selector x) ≡ x
  original-selector (tree.name t) = refl
  original-selector (tree.index t) = refl
  original-selector (tree.filter l) = ap (λ u. tree.filter u) (original-logical l)
  original-selector (tree.slice p q r) =
      ap (λ u. tree.slice u (original_part (copy_part q)) (original_part (copy_part r))) (original-part p)
      ∙ ap₂ (λ u v. tree.slice p u v) (original-part q) (original-part r)
  original-selector tree.wildcard = refl

  original-logical : (x : tree.Logical) → original_logical (copy_logical x) ≡ x
  original-logical (tree.any ls) = ap (λ u. tree.any u) (original-logicals ls)
  original-logical (tree.all ls) = ap (λ u. tree.all u) (original-logicals ls)
  original-logical (tree.negation l) = ap (λ u. tree.negation u) (original-logical l)
  original-logical (tree.comparing c) = ap (λ u. tree.comparing u) (original-comparison c)
  original-logical (tree.test q) = ap (λ u. tree.test u) (original-query q)
  original-logical (tree.test_call c) = ap (λ u. tree.test_call u) (original-call c)

  original-comparison : (x : tree.Comparison) → original_comparison (copy_comparison x) ≡ x
  original-comparison (tree.comparison l o r) =
      ap (λ u. tree.comparison u (operator_of (number_of o)) (original_comparable (copy_comparable r)))
      (original-comparable l) ∙ ap₂ (λ u v. tree.comparison l u v) (operator-number o)
      (original-comparable r)

  original-comparable : (x : tree.Comparable) → original_comparable (copy_comparable x) ≡ x
  original-comparable (tree.literal x) = ap (λ u. tree.literal u) (original-literal x)
  original-comparable (tree.single q) = ap (λ u. tree.single u) (original-query q)
  original-comparable (tree.value_call c) = ap (λ u. tree.value_call u) (original-call c)

  original-call : (x : tree.Call) → original_call (copy_call x) ≡ x
  original-call (tree.call t xs) = ap (λ u. tree.call t u) (original-arguments xs)

  original-argument : (x : tree.Argument) → original_argument (copy_argument x) ≡ x
  original-argument (tree.literal_argument x) = ap (λ u. tree.literal_argument u) (original-literal x)
  original-argument (tree.query_argument q) = ap (λ u. tree.query_argument u) (original-query q)
  original-argument (tree.logical_argument l) = ap (λ u. tree.logical_argument u) (original-logical l)
  original-argument (tree.call_argument c) = ap (λ u. tree.call_argument u) (original-call c)

  original-segments : (x : tree.Segments) → original_segments (copy_segments x) ≡ x
  original-segments tree.no_segments = refl
  original-segments (tree.add_segment x xs) = ap₂ (λ u v. tree.add_segment u v) (original-segment x)
      (original-segments xs)

  original-selectors : (x : tree.Selectors) → original_selectors (copy_selectors x) ≡ x
  original-selectors tree.no_selectors = refl
  original-selectors (tree.add_selector x xs) = ap₂ (λ u v. tree.add_selector u v) (original-selector x)
      (original-selectors xs)

  original-logicals : (x : tree.Logicals) → original_logicals (copy_logicals x) ≡ x
  original-logicals tree.no_logicals = refl
  original-logicals (tree.add_logical x xs) = ap₂ (λ u v. tree.add_logical u v) (original-logical x)
      (original-logicals xs)

  original-arguments : (x : tree.Arguments) → original_arguments (copy_arguments x) ≡ x
  original-arguments tree.no_arguments = refl
  original-arguments (tree.add_argument x xs) = ap₂ (λ u v. tree.add_argument u v) (original-argument x)
      (original-arguments xs)

pub query_set : IsSet tree.Query
query_set = retract_set copy_query original_query original-query (copy_set (hlevel props) (hlevel props))
