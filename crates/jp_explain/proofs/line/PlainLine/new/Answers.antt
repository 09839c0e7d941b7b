use Rattle.std.proofs.Common.{ap, ◌∙◌}
use Rattle.std.specs.Str.{chars}
use Rattle.std.proofs.lemmas.Str.{chars-nil}
use Rattle.jp_explain.specs.Picture.{is_shown}
use Rattle.jp_explain.proofs.line.PlainLine.new.Goals as goal

pub invariant_of-result : goal.invariant_of-result
invariant_of-result c = record { shown = ap is_shown (ap chars c.new.ensures.bytes ∙ chars-nil) }

pub returns : goal.returns
returns c = ap chars c.new.ensures.bytes ∙ chars-nil
