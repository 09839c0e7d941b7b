use Rattle.jp_run.specs.declared.output.Output.TheVariants.{Nodes, Values, Texts, Raw, Rows, Lines}
use Rattle.jp_run.proofs.Runs.{ran_in}
use Rattle.jp_run.proofs.running.answer_in_form.Goals as goal

pub returns-in-Nodes : goal.returns-in-Nodes
returns-in-Nodes g c = record { ran = ran_in Nodes c.in-Nodes.is c.answer_stream.ensures.ran }

pub returns-in-Values : goal.returns-in-Values
returns-in-Values g c = record { ran = ran_in Values c.in-Values.is c.answer_stream-in-Values.ensures.ran }

pub returns-in-Texts : goal.returns-in-Texts
returns-in-Texts g c = record { ran = ran_in Texts c.in-Texts.is c.answer_stream-in-Texts.ensures.ran }

pub returns-in-Raw : goal.returns-in-Raw
returns-in-Raw g c = record { ran = ran_in Raw c.in-Raw.is c.answer_stream-in-Raw.ensures.ran }

pub returns-in-Rows : goal.returns-in-Rows
returns-in-Rows g c = record { ran = ran_in Rows c.in-Rows.is c.answer_stream-in-Rows.ensures.ran }

pub returns-in-Lines : goal.returns-in-Lines
returns-in-Lines g c = record { ran = ran_in Lines c.in-Lines.is c.answer_stream-in-Lines.ensures.ran }
