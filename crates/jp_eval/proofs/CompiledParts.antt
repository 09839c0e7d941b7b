-- What the parts of a compiled query select, and where they are true.
use Rattle.std.proofs.Common.{◌≡◌, ℕ, List, [], ◌∷◌, not, ◌&&◌, ◌||◌, map, Some, option_map, is_some, length}
use Rattle.std.proofs.Common.{Vec, Box, String, Global, refl, sym, ap, ap₂, ◌∙◌, rules}
use Rattle.std.specs.List.{filter, list_any, list_all}
use Rattle.jp_doc.specs.Json as json
use Rattle.jp_doc.specs.Json.{Json}
use Rattle.jp_doc.specs.Location as at
use Rattle.jp_doc.specs.Location.{Node, node}
use Rattle.jp_tree.specs.Tree as tree
use Rattle.jp_tree.specs.View.{text_of}
use Rattle.jp_tree.specs.declared.tree.Operator.{Operator}
use Rattle.jp_tree.specs.declared.tree.Start.{Start}
use Rattle.jp_tree.specs.declared.tree.Start.TheVariants as start
use Rattle.jp_types.specs.Numbers.{whole_number}
use Rattle.jp_compiled.specs.Parts.{Wanted, root_at, test_at, position_text, constant_of, as_argument}
use Rattle.jp_compiled.specs.Parts.{truth_argument, segment_in, Source, queried, different}
use Rattle.jp_compiled.specs.Parts.{source_argument}
use Rattle.jp_compiled.specs.Parts.{source_test, source_side, wanted_inside}
use Rattle.jp_compiled.specs.Parts.{selector_in, logical_in, value_in, nodes_in, segments_in}
use Rattle.jp_compiled.proofs.CompiledViews.{name_read, wild_read, index_read, slice_read, filter_read}
use Rattle.jp_compiled.proofs.CompiledViews.{any_read, all_read, not_read, compare_read, test_read}
use Rattle.jp_compiled.proofs.CompiledViews.{match_read}
use Rattle.jp_compiled.proofs.CompiledViews.{match_known, search_read, search_known, constant_read}
use Rattle.jp_compiled.proofs.CompiledViews.{single_read}
use Rattle.jp_compiled.proofs.CompiledViews.{length_read, count_read, only_read, here_read, root_read}
use Rattle.jp_compiled.proofs.CompiledViews.{xor_read, distinct_read, once_read}
use Rattle.jp_compiled.specs.declared.known.KnownPattern.{KnownPattern}
use Rattle.jp_compiled.specs.declared.query.ArgumentForm.{ArgumentForm}
use Rattle.jp_compiled.specs.declared.query.ArgumentForm.TheVariants.{Bare, Expression}
use Rattle.jp_compiled.specs.declared.query.Want.{Want}
use Rattle.jp_compiled.specs.declared.query.Want.TheVariants.{First, Count, Only}
use Rattle.jp_compiled.specs.declared.query.Position.{Position}
use Rattle.jp_compiled.specs.declared.query.CompiledSlice.{CompiledSlice}
use Rattle.jp_compiled.specs.declared.query.Constant.{Constant}
use Rattle.jp_compiled.specs.declared.query.CompiledSegment.{CompiledSegment, out-CompiledSegment, the_lemmas}
use Rattle.jp_compiled.specs.declared.query.CompiledSelector.TheVariants as sel
use Rattle.jp_compiled.specs.declared.query.CompiledLogical.{CompiledLogical}
use Rattle.jp_compiled.specs.declared.query.CompiledLogical.TheVariants as log
use Rattle.jp_compiled.specs.declared.query.Giver.{Giver}
use Rattle.jp_compiled.specs.declared.query.Giver.TheVariants as val
use Rattle.jp_compiled.specs.declared.query.Nodes.{Nodes}
use Rattle.jp_compiled.specs.declared.query.Nodes.TheVariants as nod
use Rattle.jp_node.specs.Links.{link_steps}
use Rattle.jp_node.specs.declared.link.Link.{Link}
use Rattle.jp_value.specs.Literals.{literal_value, written_value}
use Rattle.jp_eval.specs.inner.Rooted.{root_nodes}
use Rattle.jp_eval.specs.inner.Base.{Base}
use Rattle.jp_found.specs.Links.{here}
use Rattle.jp_node.specs.Part.{part_value}
use Rattle.jp_node.specs.declared.part.Part.{Part}
use Rattle.jp_value.specs.Comparison.{compared}
use Rattle.jp_value.specs.Functions.{first_value, only_value, is_empty, as_value, tested, length_value}
use Rattle.jp_value.specs.Functions.{number_value, as_truth, as_nodes, exactly_one, distinct}
use Rattle.jp_node.specs.Selected.{index_places, slice_places}
use Rattle.jp_eval.specs.Nodelist as spec
use Rattle.jp_node.specs.Nodes.{child, children, items_at}
use Rattle.jp_value.specs.RightTests.{tests}
use Rattle.jp_eval.specs.inner.Walk.{picked, reached, is_true, value_given, nodes_given}

pub segment_is : (roots : List Wanted) (s : CompiledSegment)
    → segment_in roots s ≡ tree.segment (out-CompiledSegment s).deep
    (tree.selectors (map (selector_in roots) (out-CompiledSegment s).selectors.items))
segment_is roots s = search (rules, the_lemmas)

module _ (base : Base) (n : Node) where
  pub picked_name : (s : String Global) → picked base (sel.Name s) n ≡ child (at.name (text_of s)) n
  unfolding picked
  picked_name s = ap (λ x. spec.select tests base.root x n) (name_read base.roots s)

  pub picked_wild : picked base sel.Wild n ≡ children n
  unfolding picked
  picked_wild = ap (λ x. spec.select tests base.root x n) (wild_read base.roots)

  pub picked_index : (p : Position) → picked base (sel.Index p) n
      ≡ items_at n (index_places (whole_number (position_text p)) n.value)
  unfolding picked
  picked_index p = ap (λ x. spec.select tests base.root x n) (index_read base.roots p)

  pub picked_slice : (s : CompiledSlice) → picked base (sel.Slice s) n
      ≡ items_at n (slice_places (written_value (option_map position_text s.first))
      (written_value (option_map position_text s.past))
      (written_value (option_map position_text s.step)) n.value)
  unfolding picked
  picked_slice s = ap (λ x. spec.select tests base.root x n) (slice_read base.roots s)

  pub picked_filter : (l : CompiledLogical)
      → picked base (sel.Filter l) n ≡ filter (is_true base l) (children n)
  unfolding picked is_true
  picked_filter l = ap (λ x. spec.select tests base.root x n) (filter_read base.roots l)

  some_holds : (ls : List CompiledLogical)
      → spec.any_holds tests base.root (tree.logicals (map (logical_in base.roots) ls)) n
      ≡ list_any (λ l. is_true base l n) ls
  unfolding is_true
  some_holds [] = refl
  some_holds (l ∷ ls) = ap (λ b. spec.holds tests base.root (logical_in base.roots l) n || b)
      (some_holds ls)

  each_holds : (ls : List CompiledLogical)
      → spec.all_hold tests base.root (tree.logicals (map (logical_in base.roots) ls)) n
      ≡ list_all (λ l. is_true base l n) ls
  unfolding is_true
  each_holds [] = refl
  each_holds (l ∷ ls) = ap (λ b. spec.holds tests base.root (logical_in base.roots l) n && b)
      (each_holds ls)

  pub true_any : (v : Vec CompiledLogical Global)
      → is_true base (log.Any v) n ≡ list_any (λ l. is_true base l n)
      v.items
  unfolding is_true
  true_any v = ap (λ x. spec.holds tests base.root x n) (any_read base.roots v) ∙ some_holds v.items

  pub true_all : (v : Vec CompiledLogical Global)
      → is_true base (log.All v) n ≡ list_all (λ l. is_true base l n)
      v.items
  unfolding is_true
  true_all v = ap (λ x. spec.holds tests base.root x n) (all_read base.roots v) ∙ each_holds v.items

  pub true_not : (b : Box CompiledLogical Global) → is_true base (log.Not b) n ≡ not (is_true base b.value n)
  unfolding is_true
  true_not b = ap (λ x. spec.holds tests base.root x n) (not_read base.roots b)

  pub true_compare : (v : Giver) (o : Operator) (w : Giver) → is_true base (log.Compare v o w) n
      ≡ compared o (value_given base v n) (value_given base w n)
  unfolding is_true value_given
  true_compare v o w = ap (λ x. spec.holds tests base.root x n) (compare_read base.roots v o w)

  pub true_once : (slot : ℕ) → is_true base (log.Once slot) n
      ≡ spec.holds tests base.root (test_at base.roots slot) n
  unfolding is_true
  true_once slot = ap (λ x. spec.holds tests base.root x n) (once_read base.roots slot)

  some_first : (ns : List Node) → is_some (first_value ns) ≡ not (is_empty ns)
  some_first [] = refl
  some_first (m ∷ ns) = refl

  -- the nodes of a source
  abbrev source_nodes : Source → List Node
  source_nodes s = as_nodes (spec.handed tests base.root (source_argument s) n)

  source_holds : (s : Source) → spec.holds tests base.root (source_test s) n
      ≡ is_some (first_value (source_nodes s))
  source_holds (queried q) = sym (some_first (spec.nodelist tests base.root q n))
  source_holds (different s) = sym (some_first (distinct (source_nodes s)))

  source_value : (s : Source) → spec.value_of tests base.root (source_side s) n
      ≡ first_value (source_nodes s)
  source_value (queried q) = refl
  source_value (different s) = refl

  pub true_test : (q : Nodes) → is_true base (log.Test q) n
      ≡ is_some (first_value (nodes_given base q First n))
  unfolding is_true nodes_given
  true_test q = ap (λ y. spec.holds tests base.root y n) (test_read base.roots q)
      ∙ source_holds (nodes_in base.roots q First)

  -- what an argument hands over as a value
  handed_value_of : (c : tree.Comparable) → as_value (spec.handed tests base.root (as_argument c) n)
      ≡ spec.value_of tests base.root c n
  handed_value_of (tree.literal x) = refl
  handed_value_of (tree.single q) = refl
  handed_value_of (tree.value_call x) = refl

  pub true_match : (v w : Giver) → is_true base (log.Match v w) n
      ≡ tested tests.is_match (value_given base v n) (value_given base w n)
  unfolding is_true value_given
  true_match v w =
      ap (λ y. spec.holds tests base.root y n) (match_read base.roots v w)
      ∙ ap₂ (tested tests.is_match) (handed_value_of (value_in base.roots v))
      (handed_value_of (value_in base.roots w))

  pub true_search : (v w : Giver) → is_true base (log.Search v w) n
      ≡ tested tests.is_found (value_given base v n) (value_given base w n)
  unfolding is_true value_given
  true_search v w =
      ap (λ y. spec.holds tests base.root y n) (search_read base.roots v w)
      ∙ ap₂ (tested tests.is_found) (handed_value_of (value_in base.roots v))
      (handed_value_of (value_in base.roots w))

  pub true_match_known : (v : Giver) (k : KnownPattern) → is_true base (log.MatchRead v k) n
      ≡ tested tests.is_match (value_given base v n) (Some (json.text (text_of k.text)))
  unfolding is_true value_given
  true_match_known v k =
      ap (λ y. spec.holds tests base.root y n) (match_known base.roots v k)
      ∙ ap (λ o. tested tests.is_match o (Some (json.text (text_of k.text))))
      (handed_value_of (value_in base.roots v))

  pub true_search_known : (v : Giver) (k : KnownPattern) → is_true base (log.SearchRead v k) n
      ≡ tested tests.is_found (value_given base v n) (Some (json.text (text_of k.text)))
  unfolding is_true value_given
  true_search_known v k =
      ap (λ y. spec.holds tests base.root y n) (search_known base.roots v k)
      ∙ ap (λ o. tested tests.is_found o (Some (json.text (text_of k.text))))
      (handed_value_of (value_in base.roots v))

  -- what an argument hands over as true or false
  handed_truth_of : (f : ArgumentForm) (l : tree.Logical)
      → as_truth (spec.handed tests base.root (truth_argument f l) n) ≡ spec.holds tests base.root l n
  handed_truth_of Expression l = refl
  handed_truth_of Bare (tree.any ls) = refl
  handed_truth_of Bare (tree.all ls) = refl
  handed_truth_of Bare (tree.negation l) = refl
  handed_truth_of Bare (tree.comparing c) = refl
  handed_truth_of Bare (tree.test q) = refl
  handed_truth_of Bare (tree.test_call c) = refl

  pub true_xor : (f : ArgumentForm) (l : Box CompiledLogical Global) (g : ArgumentForm)
      (m : Box CompiledLogical Global)
      → is_true base (log.Xor f l g m) n ≡ exactly_one (is_true base l.value n) (is_true base m.value n)
  unfolding is_true
  true_xor f l g m =
      ap (λ y. spec.holds tests base.root y n) (xor_read base.roots f l g m)
      ∙ ap₂ exactly_one (handed_truth_of f (logical_in base.roots l.value))
      (handed_truth_of g (logical_in base.roots m.value))

  -- ---- values

  pub given_constant : (x : Constant) → value_given base (val.Constant x) n
      ≡ Some (literal_value (constant_of x))
  unfolding value_given
  given_constant x = ap (λ y. spec.value_of tests base.root y n) (constant_read base.roots x)

  pub given_single : (q : Nodes) → value_given base (val.Single q) n
      ≡ first_value (nodes_given base q First n)
  unfolding value_given nodes_given
  given_single q = ap (λ y. spec.value_of tests base.root y n) (single_read base.roots q)
      ∙ source_value (nodes_in base.roots q First)

  pub given_length : (b : Box Giver Global) → value_given base (val.Length b) n
      ≡ length_value (value_given base b.value n)
  unfolding value_given
  given_length b =
      ap (λ y. spec.value_of tests base.root y n) (length_read base.roots b)
      ∙ ap length_value (handed_value_of (value_in base.roots b.value))

  pub given_count : (q : Nodes) → value_given base (val.Count q) n
      ≡ Some (number_value (length (nodes_given base q Count n)))
  unfolding value_given nodes_given
  given_count q = ap (λ y. spec.value_of tests base.root y n) (count_read base.roots q)

  pub given_only : (q : Nodes) → value_given base (val.Only q) n ≡ only_value (nodes_given base q Only n)
  unfolding value_given nodes_given
  given_only q = ap (λ y. spec.value_of tests base.root y n) (only_read base.roots q)

  -- ---- queries

  pub nodes_here : (v : Vec CompiledSegment Global) (ss : List CompiledSegment) (w : Want) → ss ≡ v.items
      → reached base ss (n ∷ []) ≡ nodes_given base (nod.Here v) w n
  unfolding reached nodes_given
  nodes_here v ss w same =
      ap (λ xs. spec.through tests base.root (segments_in base.roots xs) (n ∷ [])) same
      ∙ sym (ap source_nodes (here_read base.roots v w))

  pub nodes_root : (slot : _) (w : Want) → spec.nodelist tests base.root (root_at base.roots slot w) n
      ≡ nodes_given base (nod.Root slot) w n
  unfolding nodes_given
  nodes_root slot w = sym (ap source_nodes (root_read base.roots slot w))

  pub nodes_distinct : (b : Box Nodes Global) (w : Want) → distinct
      (nodes_given base b.value (wanted_inside w) n) ≡ nodes_given base (nod.Distinct b) w n
  unfolding nodes_given
  nodes_distinct b w = sym (ap source_nodes (distinct_read base.roots b w))

pub from_root : (base : Base) (v : Vec CompiledSegment Global) (ss : List CompiledSegment) (p : Part)
    (path : List Link)
    → ss ≡ v.items → path ≡ [] → part_value p ≡ base.root
    → reached base ss (here path p ∷ []) ≡ root_nodes base.root (segments_in base.roots v.items)
unfolding reached
from_root base v ss p path same none is =
    ap₂ (λ l w. spec.through tests base.root (segments_in base.roots ss) (node (link_steps l) w ∷ []))
    none is
    ∙ ap (λ xs. root_nodes base.root (segments_in base.roots xs)) same

-- from the root of a document on, wherever the query begins
pub started : (s : Start) (ss : tree.Segments) (v : Json)
    → root_nodes v ss ≡ spec.document_nodes tests (tree.query s ss) v
started start.Root ss v = refl
started start.Current ss v = refl
