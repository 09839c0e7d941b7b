-- The answers to what filters ask of the document alone.
use Rattle.std.proofs.Common.{◌≡◌, ◌⊎◌, inl, inr, ℕ, zero, suc, ◌<◌, ◌≤◌, true, false, ◌&&◌, List, []}
use Rattle.std.proofs.Common.{◌∷◌, ◌++◌, length, get_or, Bool, refl, ap, ◌∙◌, arith}
use Rattle.std.specs.Bool.{beq}
use Rattle.std.proofs.lemmas.Bool.{and_parts, and_from}
use Rattle.jp_doc.specs.Json.{Json}
use Rattle.jp_doc.specs.Location.{Node, node}
use Rattle.jp_tree.specs.Tree as tree
use Rattle.jp_compiled.specs.Parts.{Wanted, first_of, count_of, only_of, distinct_of, truth_of, wanted}
use Rattle.jp_compiled.specs.Parts.{where_wanted, tested_in}
use Rattle.jp_compiled.specs.Uniform.{is_uniform}
use Rattle.jp_compiled.specs.declared.query.Want.{Want}
use Rattle.jp_compiled.specs.declared.query.Want.TheVariants as want
use Rattle.jp_found.specs.Aggregates.{tells, is_of}
use Rattle.jp_value.specs.RightTests.{tests}
use Rattle.jp_eval.specs.Nodelist.{holds}
use Rattle.jp_eval.specs.inner.Rooted.{is_truth, is_answer, are_answers, root_nodes}
use Rattle.jp_eval.proofs.Uniformity.{alike}
use Rattle.jp_found.specs.declared.aggregates.Aggregate.{Aggregate}
use Rattle.jp_found.specs.declared.aggregates.Aggregate.TheVariants as answer
use Rattle.jp_found.specs.declared.root_answer.RootAnswer.{RootAnswer}

same : (a b : Bool) → beq a b ≡ true → a ≡ b
same true true h = refl
same false false h = refl
same true false h = absurd cc
same false true h = absurd cc

beq_itself : (b : Bool) → beq b b ≡ true
beq_itself true = refl
beq_itself false = refl

pub where_none : (v : Want) → where_wanted v (wanted v tree.no_segments) ≡ tree.no_segments
where_none want.First = refl
where_none want.Count = refl
where_none want.Only = refl
where_none want.Distinct = refl

module _ (root : Json) where
  pub one_more : (ws : List Wanted) (rs : List RootAnswer) (bs : List Bool) (w : Wanted) (r : RootAnswer)
      (b : Bool) → are_answers root ws rs bs ≡ true → is_answer root w r.answer b ≡ true
      → are_answers root (ws ++ w ∷ []) (rs ++ r ∷ []) (bs ++ b ∷ []) ≡ true
  one_more [] [] [] w r b h is = ap (λ c. c && true) is
  one_more [] [] (c ∷ bs) w r b h is = absurd cc
  one_more [] (q ∷ rs) bs w r b h is = absurd cc
  one_more (v ∷ ws) [] bs w r b h is = absurd cc
  one_more (v ∷ ws) (q ∷ rs) [] w r b h is = absurd cc
  one_more (v ∷ ws) (q ∷ rs) (c ∷ bs) w r b h is =
      let parts = and_parts (is_answer root v q.answer c) (are_answers root ws rs bs) h in
      ap (λ d. d && are_answers root (ws ++ w ∷ []) (rs ++ r ∷ []) (bs ++ b ∷ [])) parts.0
      ∙ one_more ws rs bs w r b parts.1 is

  pub answer_at : (ws : List Wanted) (rs : List RootAnswer) (bs : List Bool) (i : ℕ) (d : Wanted)
      (r : RootAnswer) → are_answers root ws rs bs ≡ true → i < length rs → r ≡ get_or rs i r
      → is_answer root (get_or ws i d) r.answer (get_or bs i true) ≡ true
  answer_at [] [] bs i d r h within is = absurd (omega arith)
  answer_at [] (q ∷ rs) bs i d r h within is = absurd cc
  answer_at (w ∷ ws) [] bs i d r h within is = absurd cc
  answer_at (w ∷ ws) (q ∷ rs) [] i d r h within is = absurd cc
  answer_at (w ∷ ws) (q ∷ rs) (b ∷ bs) zero d r h within is = ap (λ x. is_answer root w x.answer b) is
      ∙ (and_parts (is_answer root w q.answer b) (are_answers root ws rs bs) h).0
  answer_at (w ∷ ws) (q ∷ rs) (b ∷ bs) (suc i) d r h within is =
      answer_at ws rs bs i d r (and_parts (is_answer root w q.answer b) (are_answers root ws rs bs) h).1
      (omega arith) is

  pub none_at : (ws : List Wanted) (rs : List RootAnswer) (bs : List Bool) (i : ℕ) (d : Wanted)
      → are_answers root ws rs bs ≡ true → length rs ≤ i → get_or ws i d ≡ d
  none_at [] rs bs i d h past = refl
  none_at (w ∷ ws) [] bs i d h past = absurd cc
  none_at (w ∷ ws) (q ∷ rs) [] i d h past = absurd cc
  none_at (w ∷ ws) (q ∷ rs) (b ∷ bs) zero d h past = absurd (omega arith)
  none_at (w ∷ ws) (q ∷ rs) (b ∷ bs) (suc i) d h past =
      none_at ws rs bs i d (and_parts (is_answer root w q.answer b) (are_answers root ws rs bs) h).1
      (omega arith)

  pub as_many : (ws : List Wanted) (rs : List RootAnswer) (bs : List Bool) → are_answers root ws rs bs ≡ true
      → length rs ≡ length bs
  as_many [] [] [] h = refl
  as_many [] [] (b ∷ bs) h = absurd cc
  as_many [] (q ∷ rs) bs h = absurd cc
  as_many (w ∷ ws) [] bs h = absurd cc
  as_many (w ∷ ws) (q ∷ rs) [] h = absurd cc
  as_many (w ∷ ws) (q ∷ rs) (b ∷ bs) h = ap (λ n. suc n)
      (as_many ws rs bs (and_parts (is_answer root w q.answer b) (are_answers root ws rs bs) h).1)

  -- an answer to a query tells what is wanted of it
  pub answers_it : (w : Want) (ss : tree.Segments) (a : Aggregate) → tells w (root_nodes root ss) a ≡ true
      → is_answer root (wanted w ss) a true ≡ true
  answers_it want.First ss a h = and_from (tells want.First (root_nodes root ss) a) true h refl
  answers_it want.Count ss a h = and_from (tells want.Count (root_nodes root ss) a) true h refl
  answers_it want.Only ss a h = and_from (tells want.Only (root_nodes root ss) a) true h refl
  answers_it want.Distinct ss a h = and_from (tells want.Distinct (root_nodes root ss) a) true h refl

  -- and one to an expression tells whether it is true
  pub answers_truth : (l : tree.Logical) (a : Aggregate) (b : Bool) → is_uniform l ≡ true
      → tells want.First (root_nodes root tree.no_segments) a ≡ true
      → b ≡ holds tests root l (node [] root) → is_answer root (truth_of l) a b ≡ true
  answers_truth l a b h of_root is =
      let now = holds tests root l (node [] root) in
      and_from (tells want.First (root_nodes root tree.no_segments) a) (is_truth root l b) of_root
      (and_from (is_uniform l) (beq b now) h (ap (λ c. beq c now) is ∙ beq_itself now))

  -- An answer to a query tells what is wanted of it, or the query stands for `$` where this is wanted.
  abbrev ResultOf : Want → Wanted → Aggregate → Type 0
  ResultOf v w a = ((is_of v a ≡ true) × (tells v (root_nodes root (where_wanted v w)) a ≡ true))
      ⊎ ((is_of v a ≡ false) × (where_wanted v w ≡ tree.no_segments))

  of_first : (v : Want) (ss : tree.Segments) (a : Aggregate) → tells want.First (root_nodes root ss) a ≡ true
      → ResultOf v (first_of ss) a
  of_first want.First ss (answer.First x) h = inl (refl, h)
  of_first want.Count ss (answer.First x) h = inr (refl, refl)
  of_first want.Only ss (answer.First x) h = inr (refl, refl)
  of_first want.Distinct ss (answer.First x) h = inr (refl, refl)
  of_first v ss (answer.Count x) h = absurd cc
  of_first v ss (answer.Only x) h = absurd cc
  of_first v ss (answer.Distinct x) h = absurd cc

  of_count : (v : Want) (ss : tree.Segments) (a : Aggregate) → tells want.Count (root_nodes root ss) a ≡ true
      → ResultOf v (count_of ss) a
  of_count v ss (answer.First x) h = absurd cc
  of_count want.First ss (answer.Count x) h = inr (refl, refl)
  of_count want.Count ss (answer.Count x) h = inl (refl, h)
  of_count want.Only ss (answer.Count x) h = inr (refl, refl)
  of_count want.Distinct ss (answer.Count x) h = inr (refl, refl)
  of_count v ss (answer.Only x) h = absurd cc
  of_count v ss (answer.Distinct x) h = absurd cc

  of_only : (v : Want) (ss : tree.Segments) (a : Aggregate) → tells want.Only (root_nodes root ss) a ≡ true
      → ResultOf v (only_of ss) a
  of_only v ss (answer.First x) h = absurd cc
  of_only v ss (answer.Count x) h = absurd cc
  of_only want.First ss (answer.Only x) h = inr (refl, refl)
  of_only want.Count ss (answer.Only x) h = inr (refl, refl)
  of_only want.Only ss (answer.Only x) h = inl (refl, h)
  of_only want.Distinct ss (answer.Only x) h = inr (refl, refl)
  of_only v ss (answer.Distinct x) h = absurd cc

  of_distinct : (v : Want) (ss : tree.Segments) (a : Aggregate)
      → tells want.Distinct (root_nodes root ss) a ≡ true → ResultOf v (distinct_of ss) a
  of_distinct v ss (answer.First x) h = absurd cc
  of_distinct v ss (answer.Count x) h = absurd cc
  of_distinct v ss (answer.Only x) h = absurd cc
  of_distinct want.First ss (answer.Distinct x) h = inr (refl, refl)
  of_distinct want.Count ss (answer.Distinct x) h = inr (refl, refl)
  of_distinct want.Only ss (answer.Distinct x) h = inr (refl, refl)
  of_distinct want.Distinct ss (answer.Distinct x) h = inl (refl, h)

  -- where an expression stands, `$` is what there is
  of_truth : (v : Want) (l : tree.Logical) (a : Aggregate) → ResultOf v (first_of tree.no_segments) a
      → ResultOf v (truth_of l) a
  of_truth want.First l a r = r
  of_truth want.Count l a r = r
  of_truth want.Only l a r = r
  of_truth want.Distinct l a r = r

  result_of : (v : Want) (w : Wanted) (a : Aggregate) (b : Bool) → is_answer root w a b ≡ true
      → ResultOf v w a
  result_of v (first_of ss) a b h =
      of_first v ss a (and_parts (tells want.First (root_nodes root ss) a) b h).0
  result_of v (count_of ss) a b h =
      of_count v ss a (and_parts (tells want.Count (root_nodes root ss) a) b h).0
  result_of v (only_of ss) a b h =
      of_only v ss a (and_parts (tells want.Only (root_nodes root ss) a) b h).0
  result_of v (distinct_of ss) a b h =
      of_distinct v ss a (and_parts (tells want.Distinct (root_nodes root ss) a) b h).0
  result_of v (truth_of l) a b h = of_truth v l a
      (of_first v tree.no_segments a
      (and_parts (tells want.First (root_nodes root tree.no_segments) a) (is_truth root l b) h).0)

  pub result_where : (v : Want) (w : Wanted) (a : Aggregate) (b : Bool) → is_answer root w a b ≡ true
      → is_of v a ≡ true → tells v (root_nodes root (where_wanted v w)) a ≡ true
  result_where v w a b h is =
      elim (result_of v w a b h) as (λ t. tells v (root_nodes root (where_wanted v w)) a ≡ true) [
        | inl t ↦ t.1
        | inr n ↦ let clash = n.0 in absurd cc
      ]

  pub none_where : (v : Want) (w : Wanted) (a : Aggregate) (b : Bool) → is_answer root w a b ≡ true
      → is_of v a ≡ false → where_wanted v w ≡ tree.no_segments
  none_where v w a b h is =
      elim (result_of v w a b h) as (λ t. where_wanted v w ≡ tree.no_segments) [
        | inl t ↦ let clash = t.0 in absurd cc
        | inr n ↦ n.1
      ]

  -- whether the expression is true, at any node; of a query nothing is false
  truth_of_one : (w : Wanted) (a : Aggregate) (b : Bool) (n : Node) → is_answer root w a b ≡ true
      → b ≡ holds tests root (tested_in w) n
  truth_of_one (first_of ss) a b n h = (and_parts (tells want.First (root_nodes root ss) a) b h).1
  truth_of_one (count_of ss) a b n h = (and_parts (tells want.Count (root_nodes root ss) a) b h).1
  truth_of_one (only_of ss) a b n h = (and_parts (tells want.Only (root_nodes root ss) a) b h).1
  truth_of_one (distinct_of ss) a b n h = (and_parts (tells want.Distinct (root_nodes root ss) a) b h).1
  truth_of_one (truth_of l) a b n h =
      let now = holds tests root l (node [] root) in
      let truth = and_parts (tells want.First (root_nodes root tree.no_segments) a) (is_truth root l b) h in
      let parts = and_parts (is_uniform l) (beq b now) truth.1 in
      same b now parts.1 ∙ alike tests root (node [] root) n l parts.0

  pub truth_at : (ws : List Wanted) (rs : List RootAnswer) (bs : List Bool) (i : ℕ) (d : Wanted) (b : Bool)
      (n : Node) → are_answers root ws rs bs ≡ true → i < length bs → b ≡ get_or bs i b
      → b ≡ holds tests root (tested_in (get_or ws i d)) n
  truth_at [] [] [] i d b n h within is = absurd (omega arith)
  truth_at [] [] (c ∷ bs) i d b n h within is = absurd cc
  truth_at [] (q ∷ rs) bs i d b n h within is = absurd cc
  truth_at (w ∷ ws) [] bs i d b n h within is = absurd cc
  truth_at (w ∷ ws) (q ∷ rs) [] i d b n h within is = absurd cc
  truth_at (w ∷ ws) (q ∷ rs) (c ∷ bs) zero d b n h within is = is
      ∙ truth_of_one w q.answer c n (and_parts (is_answer root w q.answer c) (are_answers root ws rs bs) h).0
  truth_at (w ∷ ws) (q ∷ rs) (c ∷ bs) (suc i) d b n h within is =
      truth_at ws rs bs i d b n (and_parts (is_answer root w q.answer c) (are_answers root ws rs bs) h).1
      (omega arith) is
