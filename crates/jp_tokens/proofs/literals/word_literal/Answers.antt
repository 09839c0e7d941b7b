use Rattle.std.proofs.Common.{sym}
use Rattle.jp_tokens.proofs.Words.{true_read, false_read, null_read, none_read}
use Rattle.jp_tokens.proofs.literals.word_literal.Goals as goal

pub returns-in-true : goal.returns-in-true
returns-in-true c = sym (true_read c.args.word.now c.utf8.word c.in-true.is)

pub returns-in-false : goal.returns-in-false
returns-in-false c = sym (false_read c.args.word.now c.utf8.word c.in-false.is)

pub returns-in-null : goal.returns-in-null
returns-in-null c = sym (null_read c.args.word.now c.utf8.word c.in-null.is)

pub returns-in_default : goal.returns-in_default
returns-in_default c = sym (none_read c.args.word.now c.utf8.word c.in_default.not-true c.in_default.not-false
    c.in_default.not-null)
