-- A step of a proof, which nobody has to believe: the answers to what filters ask of the document alone.
use Rattle.std.specs.Prelude.{Bool, true, false, ◌&&◌, List, [], ◌∷◌}
use Rattle.std.specs.Bool.{beq}
use Rattle.jp_doc.specs.Json.{Json}
use Rattle.jp_doc.specs.Location.{Node, node}
use Rattle.jp_tree.specs.Tree.{Segments, no_segments, Logical}
use Rattle.jp_compiled.specs.Parts.{Wanted, first_of, count_of, only_of, distinct_of, truth_of}
use Rattle.jp_compiled.specs.Uniform.{is_uniform}
use Rattle.jp_compiled.specs.declared.query.Want.TheVariants as want
use Rattle.jp_value.specs.RightTests.{tests}
use Rattle.jp_found.specs.Aggregates.{tells}
use Rattle.jp_eval.specs.Nodelist.{through, holds}
use Rattle.jp_found.specs.declared.aggregates.Aggregate.{Aggregate}
use Rattle.jp_found.specs.declared.root_answer.RootAnswer.{RootAnswer}

-- the nodes of these segments from the root on
abbrev pub root_nodes : Json → Segments → List Node
root_nodes root ss = through tests root ss (node [] root ∷ [])

-- a truth is that of an expression that asks nothing of the current node
abbrev pub is_truth : Json → Logical → Bool → Bool
is_truth root l b = is_uniform l && beq b (holds tests root l (node [] root))

-- An answer tells what is wanted of a `$` query, of which nothing is false, or what `$` is and whether an
-- expression is true.
abbrev pub is_answer : Json → Wanted → Aggregate → Bool → Bool
is_answer root (first_of ss) a b = tells want.First (root_nodes root ss) a && b
is_answer root (count_of ss) a b = tells want.Count (root_nodes root ss) a && b
is_answer root (only_of ss) a b = tells want.Only (root_nodes root ss) a && b
is_answer root (distinct_of ss) a b = tells want.Distinct (root_nodes root ss) a && b
is_answer root (truth_of l) a b = tells want.First (root_nodes root no_segments) a && is_truth root l b

abbrev pub are_answers : Json → List Wanted → List RootAnswer → List Bool → Bool
are_answers root [] [] [] = true
are_answers root (w ∷ ws) (r ∷ rs) (b ∷ bs) = is_answer root w r.answer b && are_answers root ws rs bs
are_answers root _ _ _ = false
