-- A form of the answer: what it says of a line.
use Rattle.std.specs.Prelude.{ℕ, List, [], ◌++◌}
use Rattle.std.specs.List.{flat_map}
use Rattle.jp_doc.specs.Json.{Json}
use Rattle.jp_doc.specs.Lines.{Line}
use Rattle.jp_doc.specs.Location.{Node}
use Rattle.jp_doc.specs.declared.fault.DocFault.{DocFault}
use Rattle.jp_output.specs.FaultLine.{fault_line}
use Rattle.jp_output.specs.InputLine.{input_line}
use Rattle.jp_output.specs.OutputLine.{node_line, ended_by, value_text}
use Rattle.jp_output.specs.RawText.{raw_text}
use Rattle.jp_output.specs.Rows.{Path, row_line}
use Rattle.jp_output.specs.UnquotedText.{unquoted_text}

-- the bytes for a line's document, of which these nodes are selected, and for a faulty line with this number
pub record OutputForm : Type 0 where
  pub of_document : Line → List Node → List ℕ
  pub of_fault : ℕ → DocFault → List ℕ

-- the form of output lines: one for each node, and a fault line for a faulty line
abbrev pub node_lines : OutputForm
node_lines = record {
  of_document = λ l ns. flat_map (node_line l.0) ns;
  of_fault = fault_line;
}

-- the form of output lines, each behind these bytes
abbrev pub node_lines_behind : List ℕ → OutputForm
node_lines_behind head = record {
  of_document = λ l ns. flat_map (λ n. head ++ node_line l.0 n) ns;
  of_fault = λ number fault. head ++ fault_line number fault;
}

-- the text of each value, in some way of writing values, and this byte; nothing for a faulty line
abbrev pub values_ended_by : ℕ → (Json → List ℕ) → OutputForm
values_ended_by ending text = record {
  of_document = λ _ ns. flat_map (ended_by ending text) ns;
  of_fault = λ _ _. [];
}

-- the same with a line feed: each text is on a line of its own
abbrev pub lines_of : (Json → List ℕ) → OutputForm
lines_of text = values_ended_by 10 text

-- the form of values: their compact texts
abbrev pub value_lines : OutputForm
value_lines = lines_of value_text

-- the form of texts: the same, where a text stands without its quotes
abbrev pub text_lines : OutputForm
text_lines = lines_of unquoted_text

-- the form of raw texts: the same, where a text stands as it is, line feeds and all
abbrev pub raw_lines : OutputForm
raw_lines = lines_of raw_text

-- the form of input lines: each line that has a node which is selected, as it came
abbrev pub input_lines : OutputForm
input_lines = record { of_document = λ l ns. input_line l.1 ns; of_fault = λ _ _. [] }

-- the form of rows: for each node its fields, and nothing for a faulty line
abbrev pub row_lines : List Path → OutputForm
row_lines fields = record { of_document = λ _ ns. flat_map (row_line fields) ns; of_fault = λ _ _. [] }
