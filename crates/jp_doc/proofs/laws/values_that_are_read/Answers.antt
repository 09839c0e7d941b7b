use Rattle.jp_doc.proofs.ReadingInLaws.{read_rises, read_nests, read_short, read_numbers, read_short_numbers}
use Rattle.jp_doc.proofs.laws.values_that_are_read.Goals as goal

pub returns-clause-short_arrays : goal.returns-clause-short_arrays
returns-clause-short_arrays c = read_short

pub returns-clause-nesting : goal.returns-clause-nesting
returns-clause-nesting c = read_nests

pub returns-clause-rising_names : goal.returns-clause-rising_names
returns-clause-rising_names c = read_rises

pub returns-clause-numbers : goal.returns-clause-numbers
returns-clause-numbers c = read_numbers

pub returns-clause-short_numbers : goal.returns-clause-short_numbers
returns-clause-short_numbers c = read_short_numbers
