use Rattle.jp_output.specs.RawText.{raw_text}
use Rattle.jp_output.proofs.NullEnded.{all_raw_lack, counted, raw_lacks, value_once}
use Rattle.jp_output.proofs.laws.raw_ended_by_null.Goals as goal

pub returns-clause-one_text : goal.returns-clause-one_text
returns-clause-one_text c = λ n h none. value_once raw_text n (raw_lacks n.value h none)

pub returns-clause-counted : goal.returns-clause-counted
returns-clause-counted c = λ l ns h none. counted raw_text ns (all_raw_lack ns h none)
