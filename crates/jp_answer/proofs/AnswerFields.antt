-- The bytes of an answer are lines of three fields, one after another.
use Rattle.std.proofs.Common.{◌≡◌, List, [], ◌∷◌, Result, Ok, Err, flat_map, refl}
use Rattle.jp_number.specs.declared.numbers.Numbers.{Numbers}
use Rattle.jp_doc.specs.Json.{Json}
use Rattle.jp_doc.specs.Lines.{Line}
use Rattle.jp_doc.specs.NumbersWithin.{HasJsonNumbers}
use Rattle.jp_doc.specs.ReadingIn.{reading_in}
use Rattle.jp_doc.proofs.ReadingInLaws.{read_numbers}
use Rattle.jp_doc.specs.declared.fault.DocFault.{DocFault}
use Rattle.jp_pattern.specs.Tests.{Tests}
use Rattle.jp_output.specs.FaultLine.{fault_line}
use Rattle.jp_output.specs.Fields.{AreLinesOfThree}
use Rattle.jp_output.specs.OutputForm.{node_lines}
use Rattle.jp_output.proofs.Fields.{fault_fields, fields_both, fields_one, fields_none, nodes_fields}
use Rattle.jp_answer.specs.Answer.{answer_by, line_bytes}
use Rattle.jp_answer.specs.FilteredQuery.{FilteredQuery, selected_nodes}
use Rattle.jp_answer.specs.Policy.{answered_lines}
use Rattle.jp_answer.specs.declared.policy.LinePolicy.{LinePolicy}
use Rattle.jp_answer.proofs.Chosen.{selected_numbers}

module _ (t : Tests) (q : FilteredQuery) where
  -- of a line that is read so, whose numbers are those of JSON
  line_fields : (l : Line) (r : Result Json DocFault) → ((root : Json) → r ≡ Ok root → HasJsonNumbers root)
      → AreLinesOfThree (line_bytes node_lines t q l r)
  line_fields l (Ok root) h =
      nodes_fields l.0 (selected_nodes t root q) (selected_numbers t q root (h root refl))
  line_fields l (Err fault) h = fields_one (fault_line l.0 fault) (fault_fields l.0 fault)

  lines_fields : (n : Numbers) (ls : List Line)
      → AreLinesOfThree (flat_map (λ l. line_bytes node_lines t q l (reading_in n l.1)) ls)
  lines_fields n [] = fields_none
  lines_fields n (l ∷ ls) =
      fields_both (line_bytes node_lines t q l (reading_in n l.1))
      (flat_map (λ x. line_bytes node_lines t q x (reading_in n x.1)) ls)
      (line_fields l (reading_in n l.1) (read_numbers n l.1)) (lines_fields n ls)

  pub answer_fields : (p : LinePolicy) (ls : List Line)
      → AreLinesOfThree (answer_by node_lines p t q ls).bytes
  answer_fields p ls = lines_fields p.numbers (answered_lines p ls)
