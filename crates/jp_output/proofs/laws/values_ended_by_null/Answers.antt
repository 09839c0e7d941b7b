use Rattle.jp_output.specs.OutputLine.{value_text}
use Rattle.jp_output.specs.UnquotedText.{unquoted_text}
use Rattle.jp_output.proofs.Fields.{value_field, unquoted_field}
use Rattle.jp_output.proofs.NullEnded.{field_once, fields_anew, fields_counted}
use Rattle.jp_output.proofs.laws.values_ended_by_null.Goals as goal

pub returns-clause-values : goal.returns-clause-values
returns-clause-values c = λ l ns h. fields_anew value_text value_field ns h

pub returns-clause-texts : goal.returns-clause-texts
returns-clause-texts c = λ l ns h. fields_anew unquoted_text unquoted_field ns h

pub returns-clause-one_value : goal.returns-clause-one_value
returns-clause-one_value c = λ n h. field_once value_text value_field n h

pub returns-clause-one_text : goal.returns-clause-one_text
returns-clause-one_text c = λ n h. field_once unquoted_text unquoted_field n h

pub returns-clause-values_counted : goal.returns-clause-values_counted
returns-clause-values_counted c = λ l ns h. fields_counted value_text value_field ns h

pub returns-clause-texts_counted : goal.returns-clause-texts_counted
returns-clause-texts_counted c = λ l ns h. fields_counted unquoted_text unquoted_field ns h
