use Rattle.std.proofs.Common.{◌≡◌, List, [], ◌∷◌, arith, length, length-append, refl}
use Rattle.std.specs.List.{flat_map}
use Rattle.jp_doc.specs.Location.{Node}
use Rattle.jp_output.specs.Rows.{row_line}
use Rattle.jp_program.proofs.laws.counts_are_nodes.Goals as goal

feeds : (ns : List Node) → length (flat_map (row_line []) ns) ≡ length ns
feeds [] = refl
feeds (n ∷ ns) = omega (arith, feeds ns, length-append (row_line [] n) (flat_map (row_line []) ns))

pub returns-clause-one_each : goal.returns-clause-one_each
returns-clause-one_each c = λ l ns. feeds ns
