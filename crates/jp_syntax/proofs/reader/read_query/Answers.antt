use Rattle.std.proofs.Common.{length, rules}
use Rattle.std.proofs.lemmas.Bool.{iff_false}
use Rattle.std.specs.Str.{chars}
use Rattle.jp_tokens.proofs.Cuts.{chars_fit}
use Rattle.jp_syntax.proofs.Top.{is_found, is_only, is_none, is_deep, is_fault}
use Rattle.jp_syntax.proofs.reader.read_query.Goals as goal

pub returns-clause-found : goal.returns-clause-found
returns-clause-found c = search (
  rules,
  chars_fit c.args.text.now c.utf8.text,
  is_found (length c.args.text.now) (chars c.args.text.now),
)

pub returns-clause-only : goal.returns-clause-only
returns-clause-only c = search (
  rules,
  chars_fit c.args.text.now c.utf8.text,
  is_only (length c.args.text.now) (chars c.args.text.now),
)

pub returns-clause-syntax : goal.returns-clause-syntax
returns-clause-syntax c = search (
  rules,
  chars_fit c.args.text.now c.utf8.text,
  is_none (length c.args.text.now) (chars c.args.text.now),
)

pub returns-clause-too_deep : goal.returns-clause-too_deep
returns-clause-too_deep c =
    is_deep (length c.args.text.now) (chars c.args.text.now) (chars_fit c.args.text.now c.utf8.text)
    c.read.result c.read.ensures
    (iff_false c.is_too_deep.ensures c.if-is_too_deep.false)

pub returns-clause-faults : goal.returns-clause-faults
returns-clause-faults c = search (
  rules,
  chars_fit c.args.text.now c.utf8.text,
  is_fault (length c.args.text.now) (chars c.args.text.now),
)
