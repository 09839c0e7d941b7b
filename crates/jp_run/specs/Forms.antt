-- The forms of an answer, as a run's settings name them.
use Rattle.jp_output.specs.Layouts.{ending_byte}
use Rattle.jp_output.specs.OutputForm.{OutputForm, node_lines_behind, values_ended_by, row_lines, input_lines}
use Rattle.jp_output.specs.OutputLine.{value_text}
use Rattle.jp_output.specs.RawText.{raw_text}
use Rattle.jp_output.specs.UnquotedText.{unquoted_text}
use Rattle.jp_output.specs.declared.layout.Layout.{Layout}
use Rattle.jp_run.specs.declared.output.Output.{Output}
use Rattle.jp_run.specs.declared.output.Output.TheVariants.{Nodes, Values, Texts, Raw, Rows, Lines}

-- lines of nodes stand behind the head, the ending stands behind values, and rows have the fields
abbrev pub form_of : Output → Layout → OutputForm
form_of Nodes layout = node_lines_behind layout.head
form_of Values layout = values_ended_by (ending_byte layout.ending) value_text
form_of Texts layout = values_ended_by (ending_byte layout.ending) unquoted_text
form_of Raw layout = values_ended_by (ending_byte layout.ending) raw_text
form_of Rows layout = row_lines layout.fields
form_of Lines layout = input_lines
