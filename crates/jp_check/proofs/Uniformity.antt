-- An expression in which no query begins with `@` asks nothing of the current node.
use Rattle.std.proofs.Common.{◌≡◌, ◌<◌, ◌+◌, ℕ, List, [], ◌∷◌, ◌++◌, Bool, true, ◌&&◌}
use Rattle.std.proofs.Common.{map, length, take, get_or, Vec, Box, Global, zero, suc}
use Rattle.std.proofs.Common.{refl, sym, ap, ◌∙◌}
use Rattle.std.proofs.lemmas.Bool.{and_parts, and_from}
use Rattle.std.proofs.lemmas.List.{map_more}
use Rattle.jp_tree.specs.Tree as tree
use Rattle.jp_tree.specs.declared.tree.Operator.{Operator}
use Rattle.jp_compiled.specs.Parts.{Wanted, as_argument, truth_argument, Source, queried, different}
use Rattle.jp_compiled.specs.Parts.{source_argument, source_test, source_side, wanted_inside, logical_in}
use Rattle.jp_compiled.specs.Parts.{value_in, nodes_in, first_of, count_of, only_of, distinct_of, truth_of}
use Rattle.jp_compiled.specs.Parts.{tested_in}
use Rattle.jp_compiled.specs.Uniform.{is_uniform, all_uniform, side_uniform, argument_uniform}
use Rattle.jp_compiled.specs.Uniform.{wanted_uniform, are_uniform}
use Rattle.jp_compiled.specs.declared.known.KnownPattern.{KnownPattern}
use Rattle.jp_compiled.specs.declared.query.Constant.{Constant}
use Rattle.jp_compiled.specs.declared.query.ArgumentForm.{ArgumentForm}
use Rattle.jp_compiled.specs.declared.query.ArgumentForm.TheVariants.{Bare, Expression}
use Rattle.jp_compiled.specs.declared.query.CompiledLogical.{CompiledLogical}
use Rattle.jp_compiled.specs.declared.query.CompiledLogical.TheVariants as log
use Rattle.jp_compiled.specs.declared.query.Nodes.{Nodes}
use Rattle.jp_compiled.specs.declared.query.Nodes.TheVariants as nod
use Rattle.jp_compiled.specs.declared.query.Giver.{Giver}
use Rattle.jp_compiled.specs.declared.query.Giver.TheVariants as val
use Rattle.jp_compiled.specs.declared.query.Want.TheVariants.{First, Count, Only}
use Rattle.jp_compiled.proofs.CompiledViews.{any_read, all_read, not_read, compare_read, test_read}
use Rattle.jp_compiled.proofs.CompiledViews.{match_read, match_known, search_read, search_known, xor_read}
use Rattle.jp_compiled.proofs.CompiledViews.{once_read}
use Rattle.jp_compiled.proofs.CompiledViews.{constant_read, single_read, length_read, count_read, only_read}
use Rattle.jp_compiled.proofs.CompiledViews.{root_read, distinct_read}
use Rattle.jp_check.specs.inner.Uniform.{IsUniform, AreUniform, IsUniformValue, IsUniformQuery}

-- ---- arguments

of_one : (a : Bool) → a ≡ true → (a && true) ≡ true
of_one a x = and_from a true x refl

of_two : (a b : Bool) → a ≡ true → b ≡ true → (a && (b && true)) ≡ true
of_two a b x y = and_from a (b && true) x (of_one b y)

-- a side of a comparison and an expression ask what they ask as arguments
as_side : (c : tree.Comparable) → argument_uniform (as_argument c) ≡ true → side_uniform c ≡ true
as_side (tree.literal x) h = h
as_side (tree.single q) h = h
as_side (tree.value_call c) h = h

as_truth : (f : ArgumentForm) (l : tree.Logical) → is_uniform l ≡ true
    → argument_uniform (truth_argument f l) ≡ true
as_truth Bare (tree.any ls) h = h
as_truth Bare (tree.all ls) h = h
as_truth Bare (tree.negation l) h = h
as_truth Bare (tree.comparing c) h = h
as_truth Bare (tree.test q) h = h
as_truth Bare (tree.test_call c) h = h
as_truth Expression l h = h

as_test : (s : Source) → argument_uniform (source_argument s) ≡ true → is_uniform (source_test s) ≡ true
as_test (queried q) h = h
as_test (different s) h = h

as_single : (s : Source) → argument_uniform (source_argument s) ≡ true
    → argument_uniform (as_argument (source_side s)) ≡ true
as_single (queried q) h = h
as_single (different s) h = h

-- ---- several expressions

one_behind : (ls : List tree.Logical) (l : tree.Logical) → all_uniform (tree.logicals ls) ≡ true
    → is_uniform l ≡ true → all_uniform (tree.logicals (ls ++ l ∷ [])) ≡ true
one_behind [] l h is = of_one (is_uniform l) is
one_behind (k ∷ ls) l h is =
    let parts = and_parts (is_uniform k) (all_uniform (tree.logicals ls)) h in
    and_from (is_uniform k) (all_uniform (tree.logicals (ls ++ l ∷ []))) parts.0
    (one_behind ls l parts.1 is)

pub none_uniform : AreUniform []
none_uniform = record { ask = λ all h. refl }

pub one_more_uniform : (ls : List CompiledLogical) (i : ℕ) (l : CompiledLogical) → i < length ls
    → l ≡ get_or ls i l
    → AreUniform (take i ls) → IsUniform l → AreUniform (take (i + 1) ls)
one_more_uniform ls i l h is before one = record {
  ask = λ all on.
      ap (λ ts. all_uniform (tree.logicals ts)) (map_more (logical_in all) ls i l h)
      ∙ one_behind (map (logical_in all) (take i ls)) (logical_in all (get_or ls i l)) (before.ask all on)
      (ap (λ k. is_uniform (logical_in all k)) (sym is) ∙ one.asks all on);
}

-- ---- expressions

pub any_uniform : (v : Vec CompiledLogical Global) → AreUniform v.items → IsUniform (log.Any v)
any_uniform v parts = record { asks = λ all on. ap is_uniform (any_read all v) ∙ parts.ask all on }

pub every_uniform : (v : Vec CompiledLogical Global) → AreUniform v.items → IsUniform (log.All v)
every_uniform v parts = record { asks = λ all on. ap is_uniform (all_read all v) ∙ parts.ask all on }

pub not_uniform : (b : Box CompiledLogical Global) → IsUniform b.value → IsUniform (log.Not b)
not_uniform b part = record { asks = λ all on. ap is_uniform (not_read all b) ∙ part.asks all on }

pub compare_uniform : (v : Giver) (o : Operator) (w : Giver) → IsUniformValue v → IsUniformValue w
    → IsUniform (log.Compare v o w)
compare_uniform v o w left right = record {
  asks = λ all on. ap is_uniform (compare_read all v o w)
      ∙ and_from (side_uniform (value_in all v)) (side_uniform (value_in all w))
      (as_side (value_in all v) (left.asks all)) (as_side (value_in all w) (right.asks all));
}

pub test_uniform : (q : Nodes) → IsUniformQuery q → IsUniform (log.Test q)
test_uniform q nodes = record {
  asks = λ all on. ap is_uniform (test_read all q)
      ∙ as_test (nodes_in all q First) (nodes.asks all First);
}

pub match_uniform : (v w : Giver) → IsUniformValue v → IsUniformValue w → IsUniform (log.Match v w)
match_uniform v w left right = record {
  asks = λ all on. ap is_uniform (match_read all v w) ∙ of_two _ _ (left.asks all) (right.asks all);
}

pub search_uniform : (v w : Giver) → IsUniformValue v → IsUniformValue w → IsUniform (log.Search v w)
search_uniform v w left right = record {
  asks = λ all on. ap is_uniform (search_read all v w) ∙ of_two _ _ (left.asks all) (right.asks all);
}

pub match_known_uniform : (v : Giver) (k : KnownPattern) → IsUniformValue v → IsUniform (log.MatchRead v k)
match_known_uniform v k left = record {
  asks = λ all on. ap is_uniform (match_known all v k) ∙ of_two _ _ (left.asks all) refl;
}

pub search_known_uniform : (v : Giver) (k : KnownPattern) → IsUniformValue v
    → IsUniform (log.SearchRead v k)
search_known_uniform v k left = record {
  asks = λ all on. ap is_uniform (search_known all v k) ∙ of_two _ _ (left.asks all) refl;
}

pub xor_uniform : (f : ArgumentForm) (l : Box CompiledLogical Global) (g : ArgumentForm)
    (m : Box CompiledLogical Global)
    → IsUniform l.value → IsUniform m.value → IsUniform (log.Xor f l g m)
xor_uniform f l g m left right = record {
  asks = λ all on. ap is_uniform (xor_read all f l g m)
      ∙ of_two _ _ (as_truth f (logical_in all l.value) (left.asks all on))
      (as_truth g (logical_in all m.value) (right.asks all on));
}

-- what is listed asks nothing of the current node, and nor does what there is where nothing is listed
tested_uniform : (w : Wanted) → wanted_uniform w ≡ true → is_uniform (tested_in w) ≡ true
tested_uniform (first_of ss) h = refl
tested_uniform (count_of ss) h = refl
tested_uniform (only_of ss) h = refl
tested_uniform (distinct_of ss) h = refl
tested_uniform (truth_of l) h = h

slot_uniform : (all : List Wanted) (slot : ℕ) → are_uniform all ≡ true
    → is_uniform (tested_in (get_or all slot (truth_of (tree.all tree.no_logicals)))) ≡ true
slot_uniform [] slot h = refl
slot_uniform (w ∷ ws) zero h = tested_uniform w (and_parts (wanted_uniform w) (are_uniform ws) h).0
slot_uniform (w ∷ ws) (suc slot) h =
    slot_uniform ws slot (and_parts (wanted_uniform w) (are_uniform ws) h).1

pub once_uniform : (slot : ℕ) → IsUniform (log.Once slot)
once_uniform slot = record { asks = λ all on. ap is_uniform (once_read all slot) ∙ slot_uniform all slot on }

-- ---- values

pub constant_uniform : (x : Constant) → IsUniformValue (val.Constant x)
constant_uniform x = record { asks = λ all. ap (λ c. argument_uniform (as_argument c)) (constant_read all x) }

pub single_uniform : (q : Nodes) → IsUniformQuery q → IsUniformValue (val.Single q)
single_uniform q nodes = record {
  asks = λ all. ap (λ c. argument_uniform (as_argument c)) (single_read all q)
      ∙ as_single (nodes_in all q First) (nodes.asks all First);
}

pub length_uniform : (b : Box Giver Global) → IsUniformValue b.value → IsUniformValue (val.Length b)
length_uniform b value = record {
  asks = λ all. ap (λ c. argument_uniform (as_argument c)) (length_read all b)
      ∙ of_one _ (value.asks all);
}

pub count_uniform : (q : Nodes) → IsUniformQuery q → IsUniformValue (val.Count q)
count_uniform q nodes = record {
  asks = λ all. ap (λ c. argument_uniform (as_argument c)) (count_read all q)
      ∙ of_one _ (nodes.asks all Count);
}

pub only_uniform : (q : Nodes) → IsUniformQuery q → IsUniformValue (val.Only q)
only_uniform q nodes = record {
  asks = λ all. ap (λ c. argument_uniform (as_argument c)) (only_read all q)
      ∙ of_one _ (nodes.asks all Only);
}

-- ---- queries

pub root_uniform : (slot : ℕ) → IsUniformQuery (nod.Root slot)
root_uniform slot = record {
  asks = λ all want. ap (λ s. argument_uniform (source_argument s)) (root_read all slot want);
}

pub distinct_uniform : (b : Box Nodes Global) → IsUniformQuery b.value → IsUniformQuery (nod.Distinct b)
distinct_uniform b nodes = record {
  asks = λ all want. ap (λ s. argument_uniform (source_argument s)) (distinct_read all b want)
      ∙ of_one _ (nodes.asks all (wanted_inside want));
}
