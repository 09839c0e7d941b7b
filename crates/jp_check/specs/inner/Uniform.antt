-- Steps of a proof, which nobody has to believe: what of a compiled query asks nothing of the current node,
-- where what is asked of the document alone asks nothing of it.
use Rattle.std.specs.Prelude.{◌≡◌, true, List, map}
use Rattle.jp_tree.specs.Tree.{logicals}
use Rattle.jp_compiled.specs.Parts.{Wanted, logical_in, value_in, nodes_in, as_argument, source_argument}
use Rattle.jp_compiled.specs.Uniform.{is_uniform, all_uniform, argument_uniform, are_uniform}
use Rattle.jp_compiled.specs.declared.query.CompiledLogical.{CompiledLogical}
use Rattle.jp_compiled.specs.declared.query.Nodes.{Nodes}
use Rattle.jp_compiled.specs.declared.query.Giver.{Giver}
use Rattle.jp_compiled.specs.declared.query.Want.{Want}

pub record IsUniform (l : CompiledLogical) : Type 0 where
  pub asks : (all : List Wanted) → are_uniform all ≡ true → is_uniform (logical_in all l) ≡ true

pub record AreUniform (ls : List CompiledLogical) : Type 0 where
  pub ask : (all : List Wanted) → are_uniform all ≡ true
      → all_uniform (logicals (map (logical_in all) ls)) ≡ true

pub record IsUniformValue (v : Giver) : Type 0 where
  pub asks : (all : List Wanted) → argument_uniform (as_argument (value_in all v)) ≡ true

pub record IsUniformQuery (q : Nodes) : Type 0 where
  pub asks : (all : List Wanted) (want : Want)
      → argument_uniform (source_argument (nodes_in all q want)) ≡ true
