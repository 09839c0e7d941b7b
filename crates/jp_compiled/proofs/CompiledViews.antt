-- What a compiled query stands for, part by part.
use Rattle.std.proofs.Common.{◌≡◌, ℕ, Bool, codes, map, sym, ap, ◌∙◌}
use Rattle.std.specs.Prelude.{List, String, Vec, Box}
use Rattle.std.specs.declared.alloc.Global.{Global}
use Rattle.jp_tree.specs.Tree as tree
use Rattle.jp_tree.specs.View.{text_of}
use Rattle.jp_tree.specs.declared.tree.Operator.{Operator}
use Rattle.jp_tree.specs.declared.tree.Start.TheVariants as start
use Rattle.jp_compiled.specs.Parts.{Wanted, root_at, test_at, position_text, slice_of, constant_of}
use Rattle.jp_compiled.specs.Parts.{as_argument}
use Rattle.jp_compiled.specs.Parts.{text_argument, truth_argument, call_of_one, call_of_two}
use Rattle.jp_compiled.specs.Parts.{nodes_level, logical_level, Source, queried, different}
use Rattle.jp_compiled.specs.Parts.{source_argument}
use Rattle.jp_compiled.specs.Parts.{source_test, source_side, wanted_inside}
use Rattle.jp_compiled.specs.Parts.{selector_level, value_level, segment_level, segment_in, selector_in}
use Rattle.jp_compiled.specs.Parts.{logical_in, value_in, nodes_in, segments_in}
use Rattle.jp_compiled.specs.declared.known.KnownPattern.{KnownPattern}
use Rattle.jp_compiled.specs.declared.query.ArgumentForm.{ArgumentForm}
use Rattle.jp_compiled.specs.declared.query.Want.{Want}
use Rattle.jp_compiled.specs.declared.query.Want.TheVariants as want
use Rattle.jp_compiled.specs.declared.query.Position.{Position}
use Rattle.jp_compiled.specs.declared.query.CompiledSlice.{CompiledSlice}
use Rattle.jp_compiled.specs.declared.query.Constant.{Constant}
use Rattle.jp_compiled.specs.declared.query.CompiledSegment.{CompiledSegment, roll-CompiledSegment}
use Rattle.jp_compiled.specs.declared.query.CompiledSegment.{fold-roll-CompiledSegment}
use Rattle.jp_compiled.specs.declared.query.CompiledSelector.{CompiledSelector, fold-roll-CompiledSelector}
use Rattle.jp_compiled.specs.declared.query.CompiledSelector.TheVariants as sel
use Rattle.jp_compiled.specs.declared.query.CompiledLogical.{CompiledLogical, fold-roll-CompiledLogical}
use Rattle.jp_compiled.specs.declared.query.CompiledLogical.TheVariants as log
use Rattle.jp_compiled.specs.declared.query.Giver.{Giver, fold-roll-Giver}
use Rattle.jp_compiled.specs.declared.query.Giver.TheVariants as val
use Rattle.jp_compiled.specs.declared.query.Nodes.{Nodes, fold-roll-Nodes}
use Rattle.jp_compiled.specs.declared.query.Nodes.TheVariants as nod

module _ (roots : List Wanted) where
  pub name_read : (s : String Global) → selector_in roots (sel.Name s) ≡ tree.name (text_of s)
  name_read s = ap (selector_in roots) (sym (sel.rolls-Name s))
      ∙ fold-roll-CompiledSelector tree.Logical tree.Selector tree.Comparable (Want → Source) tree.Segment
      (logical_level roots) selector_level value_level (nodes_level roots) segment_level _

  pub wild_read : selector_in roots sel.Wild ≡ tree.wildcard
  wild_read = ap (selector_in roots) (sym sel.rolls-Wild)
      ∙ fold-roll-CompiledSelector tree.Logical tree.Selector tree.Comparable (Want → Source) tree.Segment
      (logical_level roots) selector_level value_level (nodes_level roots) segment_level _

  pub index_read : (p : Position) → selector_in roots (sel.Index p) ≡ tree.index (position_text p)
  index_read p = ap (selector_in roots) (sym (sel.rolls-Index p))
      ∙ fold-roll-CompiledSelector tree.Logical tree.Selector tree.Comparable (Want → Source) tree.Segment
      (logical_level roots) selector_level value_level (nodes_level roots) segment_level _

  pub slice_read : (s : CompiledSlice) → selector_in roots (sel.Slice s) ≡ slice_of s
  slice_read s = ap (selector_in roots) (sym (sel.rolls-Slice s))
      ∙ fold-roll-CompiledSelector tree.Logical tree.Selector tree.Comparable (Want → Source) tree.Segment
      (logical_level roots) selector_level value_level (nodes_level roots) segment_level _

  pub filter_read : (l : CompiledLogical)
      → selector_in roots (sel.Filter l) ≡ tree.filter (logical_in roots l)
  filter_read l = ap (selector_in roots) (sym (sel.rolls-Filter l))
      ∙ fold-roll-CompiledSelector tree.Logical tree.Selector tree.Comparable (Want → Source) tree.Segment
      (logical_level roots) selector_level value_level (nodes_level roots) segment_level _

  pub any_read : (v : Vec CompiledLogical Global) → logical_in roots (log.Any v)
      ≡ tree.any (tree.logicals (map (logical_in roots) v.items))
  any_read v = ap (logical_in roots) (sym (log.rolls-Any v))
      ∙ fold-roll-CompiledLogical tree.Logical tree.Selector tree.Comparable (Want → Source) tree.Segment
      (logical_level roots) selector_level value_level (nodes_level roots) segment_level _

  pub all_read : (v : Vec CompiledLogical Global) → logical_in roots (log.All v)
      ≡ tree.all (tree.logicals (map (logical_in roots) v.items))
  all_read v = ap (logical_in roots) (sym (log.rolls-All v))
      ∙ fold-roll-CompiledLogical tree.Logical tree.Selector tree.Comparable (Want → Source) tree.Segment
      (logical_level roots) selector_level value_level (nodes_level roots) segment_level _

  pub not_read : (b : Box CompiledLogical Global) → logical_in roots (log.Not b)
      ≡ tree.negation (logical_in roots b.value)
  not_read b = ap (logical_in roots) (sym (log.rolls-Not b))
      ∙ fold-roll-CompiledLogical tree.Logical tree.Selector tree.Comparable (Want → Source) tree.Segment
      (logical_level roots) selector_level value_level (nodes_level roots) segment_level _

  pub compare_read : (v : Giver) (o : Operator) (w : Giver) → logical_in roots (log.Compare v o w)
      ≡ tree.comparing (tree.comparison (value_in roots v) o (value_in roots w))
  compare_read v o w = ap (logical_in roots) (sym (log.rolls-Compare v o w))
      ∙ fold-roll-CompiledLogical tree.Logical tree.Selector tree.Comparable (Want → Source) tree.Segment
      (logical_level roots) selector_level value_level (nodes_level roots) segment_level _

  pub test_read : (q : Nodes) → logical_in roots (log.Test q) ≡ source_test (nodes_in roots q want.First)
  test_read q = ap (logical_in roots) (sym (log.rolls-Test q))
      ∙ fold-roll-CompiledLogical tree.Logical tree.Selector tree.Comparable (Want → Source) tree.Segment
      (logical_level roots) selector_level value_level (nodes_level roots) segment_level _

  pub match_read : (v : Giver) (w : Giver) → logical_in roots (log.Match v w)
      ≡ tree.test_call (call_of_two (codes "match") (as_argument (value_in roots v))
      (as_argument (value_in roots w)))
  match_read v w = ap (logical_in roots) (sym (log.rolls-Match v w))
      ∙ fold-roll-CompiledLogical tree.Logical tree.Selector tree.Comparable (Want → Source) tree.Segment
      (logical_level roots) selector_level value_level (nodes_level roots) segment_level _

  pub match_known : (v : Giver) (k : KnownPattern) → logical_in roots (log.MatchRead v k)
      ≡ tree.test_call (call_of_two (codes "match") (as_argument (value_in roots v))
      (text_argument (text_of k.text)))
  match_known v k = ap (logical_in roots) (sym (log.rolls-MatchRead v k))
      ∙ fold-roll-CompiledLogical tree.Logical tree.Selector tree.Comparable (Want → Source) tree.Segment
      (logical_level roots) selector_level value_level (nodes_level roots) segment_level _

  pub search_read : (v : Giver) (w : Giver) → logical_in roots (log.Search v w)
      ≡ tree.test_call (call_of_two (codes "search") (as_argument (value_in roots v))
      (as_argument (value_in roots w)))
  search_read v w = ap (logical_in roots) (sym (log.rolls-Search v w))
      ∙ fold-roll-CompiledLogical tree.Logical tree.Selector tree.Comparable (Want → Source) tree.Segment
      (logical_level roots) selector_level value_level (nodes_level roots) segment_level _

  pub search_known : (v : Giver) (k : KnownPattern) → logical_in roots (log.SearchRead v k)
      ≡ tree.test_call (call_of_two (codes "search") (as_argument (value_in roots v))
      (text_argument (text_of k.text)))
  search_known v k = ap (logical_in roots) (sym (log.rolls-SearchRead v k))
      ∙ fold-roll-CompiledLogical tree.Logical tree.Selector tree.Comparable (Want → Source) tree.Segment
      (logical_level roots) selector_level value_level (nodes_level roots) segment_level _

  pub xor_read : (f : ArgumentForm) (l : Box CompiledLogical Global) (g : ArgumentForm)
      (m : Box CompiledLogical Global)
      → logical_in roots (log.Xor f l g m)
      ≡ tree.test_call (call_of_two (codes "xor") (truth_argument f (logical_in roots l.value))
      (truth_argument g (logical_in roots m.value)))
  xor_read f l g m = ap (logical_in roots) (sym (log.rolls-Xor f l g m))
      ∙ fold-roll-CompiledLogical tree.Logical tree.Selector tree.Comparable (Want → Source) tree.Segment
      (logical_level roots) selector_level value_level (nodes_level roots) segment_level _

  pub once_read : (slot : ℕ) → logical_in roots (log.Once slot) ≡ test_at roots slot
  once_read slot = ap (logical_in roots) (sym (log.rolls-Once slot))
      ∙ fold-roll-CompiledLogical tree.Logical tree.Selector tree.Comparable (Want → Source) tree.Segment
      (logical_level roots) selector_level value_level (nodes_level roots) segment_level _

  pub constant_read : (x : Constant) → value_in roots (val.Constant x) ≡ tree.literal (constant_of x)
  constant_read x = ap (value_in roots) (sym (val.rolls-Constant x))
      ∙ fold-roll-Giver tree.Logical tree.Selector tree.Comparable (Want → Source) tree.Segment
      (logical_level roots) selector_level value_level (nodes_level roots) segment_level _

  pub single_read : (q : Nodes) → value_in roots (val.Single q)
      ≡ source_side (nodes_in roots q want.First)
  single_read q = ap (value_in roots) (sym (val.rolls-Single q))
      ∙ fold-roll-Giver tree.Logical tree.Selector tree.Comparable (Want → Source) tree.Segment
      (logical_level roots) selector_level value_level (nodes_level roots) segment_level _

  pub length_read : (b : Box Giver Global) → value_in roots (val.Length b)
      ≡ tree.value_call (call_of_one (codes "length") (as_argument (value_in roots b.value)))
  length_read b = ap (value_in roots) (sym (val.rolls-Length b))
      ∙ fold-roll-Giver tree.Logical tree.Selector tree.Comparable (Want → Source) tree.Segment
      (logical_level roots) selector_level value_level (nodes_level roots) segment_level _

  pub count_read : (q : Nodes) → value_in roots (val.Count q)
      ≡ tree.value_call (call_of_one (codes "count") (source_argument (nodes_in roots q want.Count)))
  count_read q = ap (value_in roots) (sym (val.rolls-Count q))
      ∙ fold-roll-Giver tree.Logical tree.Selector tree.Comparable (Want → Source) tree.Segment
      (logical_level roots) selector_level value_level (nodes_level roots) segment_level _

  pub only_read : (q : Nodes) → value_in roots (val.Only q)
      ≡ tree.value_call (call_of_one (codes "value") (source_argument (nodes_in roots q want.Only)))
  only_read q = ap (value_in roots) (sym (val.rolls-Only q))
      ∙ fold-roll-Giver tree.Logical tree.Selector tree.Comparable (Want → Source) tree.Segment
      (logical_level roots) selector_level value_level (nodes_level roots) segment_level _

  pub here_read : (v : Vec CompiledSegment Global) (w : Want) → nodes_in roots (nod.Here v) w
      ≡ queried (tree.query start.Current (segments_in roots v.items))
  here_read v w = ap (λ q. nodes_in roots q w) (sym (nod.rolls-Here v))
      ∙ ap (λ f. f w) (fold-roll-Nodes tree.Logical tree.Selector tree.Comparable (Want → Source)
      tree.Segment (logical_level roots) selector_level value_level (nodes_level roots) segment_level _)

  pub root_read : (slot : ℕ) (w : Want) → nodes_in roots (nod.Root slot) w ≡ queried (root_at roots slot w)
  root_read slot w = ap (λ q. nodes_in roots q w) (sym (nod.rolls-Root slot))
      ∙ ap (λ f. f w) (fold-roll-Nodes tree.Logical tree.Selector tree.Comparable (Want → Source)
      tree.Segment (logical_level roots) selector_level value_level (nodes_level roots) segment_level _)

  pub distinct_read : (b : Box Nodes Global) (w : Want) → nodes_in roots (nod.Distinct b) w
      ≡ different (nodes_in roots b.value (wanted_inside w))
  distinct_read b w = ap (λ q. nodes_in roots q w) (sym (nod.rolls-Distinct b))
      ∙ ap (λ f. f w) (fold-roll-Nodes tree.Logical tree.Selector tree.Comparable (Want → Source)
      tree.Segment (logical_level roots) selector_level value_level (nodes_level roots) segment_level _)

  pub segment_read : (deep : Bool) (v : Vec CompiledSelector Global)
      → segment_in roots (roll-CompiledSegment (record { deep = deep; selectors = v }))
      ≡ tree.segment deep (tree.selectors (map (selector_in roots) v.items))
  segment_read deep v = fold-roll-CompiledSegment tree.Logical tree.Selector tree.Comparable (Want → Source)
      tree.Segment (logical_level roots) selector_level value_level (nodes_level roots) segment_level _
