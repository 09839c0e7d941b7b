-- The answer to a collection of documents, one on a line.
use Rattle.std.specs.Prelude.{◌≡◌, ℕ, ◌+◌, List, [], ◌++◌, Option, Some, None, Result, Ok, Err}
use Rattle.std.specs.List.{flat_map}
use Rattle.jp_number.specs.declared.numbers.Numbers.TheVariants.{Whole}
use Rattle.jp_doc.specs.Json.{Json}
use Rattle.jp_doc.specs.Lines.{Line, lines}
use Rattle.jp_doc.specs.declared.fault.DocFault.{DocFault}
use Rattle.jp_tree.specs.Tree.{Query}
use Rattle.jp_pattern.specs.Tests.{Tests}
use Rattle.jp_output.specs.FaultLine.{fault_line}
use Rattle.jp_output.specs.OutputForm.{OutputForm, node_lines}
use Rattle.jp_output.specs.OutputLine.{node_line}
use Rattle.jp_answer.specs.FilteredQuery.{FilteredQuery, unfiltered, selected_nodes}
use Rattle.jp_answer.specs.Policy.{policy, reading_by, answered_lines, stop_in, passed_in}
use Rattle.jp_answer.specs.declared.on_fault.OnFault.TheVariants.{Stop, KeepGoing}
use Rattle.jp_answer.specs.declared.policy.LinePolicy.{LinePolicy}

-- the bytes, the faulty line at which it ends, if it does, with its fault, and how many others it passes
pub record Answer : Type 0 where
  pub bytes : List ℕ
  pub stopped : Option (ℕ × DocFault)
  pub faulty : ℕ

-- In a form, of a query of the documents that a filter chooses:
module _ (form : OutputForm) (tests : Tests) (q : FilteredQuery) where
  -- what is said of the document of a line
  abbrev pub document_bytes : Line → Json → List ℕ
  document_bytes l root = form.of_document l (selected_nodes tests root q)

  -- and of a line with a fault
  abbrev pub line_bytes : Line → Result Json DocFault → List ℕ
  line_bytes l (Ok root) = document_bytes l root
  line_bytes l (Err fault) = form.of_fault l.0 fault

-- the answer to numbered lines in a form, by a policy: what is said of each that is answered, in their order
abbrev pub answer_by : OutputForm → LinePolicy → Tests → FilteredQuery → List Line → Answer
answer_by form p tests q ls = record {
  bytes = flat_map (λ l. line_bytes form tests q l (reading_by p l.1)) (answered_lines p ls);
  stopped = stop_in p ls;
  faulty = passed_in p ls;
}

-- The same in the form of output lines, where numbers are whole, of a query of every document: that which
-- ends at the first faulty line, and that which keeps going, to lines and to a byte stream.
module _ (tests : Tests) (q : Query) where
  abbrev pub answer : List Line → Answer
  answer ls = answer_by node_lines (policy Whole Stop) tests (unfiltered q) ls

  abbrev pub whole : List Line → Answer
  whole ls = answer_by node_lines (policy Whole KeepGoing) tests (unfiltered q) ls

  abbrev pub stream_answer : List ℕ → Answer
  stream_answer bytes = answer (lines bytes)

  abbrev pub stream_whole : List ℕ → Answer
  stream_whole bytes = whole (lines bytes)

-- the output lines of the nodes that a query selects in a document with this number
abbrev pub document_lines : Tests → FilteredQuery → ℕ → Json → List ℕ
document_lines tests q number root = flat_map (node_line number) (selected_nodes tests root q)

-- the answer to no lines
abbrev pub nothing : Answer
nothing = record { bytes = []; stopped = None; faulty = 0 }

-- one answer after another, where the first has not ended at a faulty line
abbrev pub unless_stopped : Option (ℕ × DocFault) → Answer → Answer → Answer
unless_stopped None a b = record {
  bytes = a.bytes ++ b.bytes;
  stopped = b.stopped;
  faulty = a.faulty + b.faulty;
}
unless_stopped (Some stop) a b = a

abbrev pub joined : Answer → Answer → Answer
joined a b = unless_stopped a.stopped a b

-- the bytes that an answer has behind those of the one that ends so: none where that does not, and else first
-- the fault line of the line at which it ends
abbrev pub FollowsStop : Option (ℕ × DocFault) → List ℕ → Type 0
FollowsStop None rest = rest ≡ []
FollowsStop (Some stop) rest = (more : List ℕ) × (rest ≡ fault_line stop.0 stop.1 ++ more)
