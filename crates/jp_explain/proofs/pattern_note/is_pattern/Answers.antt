use Rattle.std.proofs.Common.{sym, ◌∙◌}
use Rattle.jp_explain.proofs.Traps.{known_is, known_is_none}
use Rattle.jp_explain.proofs.pattern_note.is_pattern.Goals as goal

pub returns-clause-yes : goal.returns-clause-yes
returns-clause-yes c = λ yes. known_is c.args.known.now (sym c.is_some.ensures ∙ yes)

pub returns-clause-no : goal.returns-clause-no
returns-clause-no c = λ none. known_is_none c.args.known.now (sym c.is_some.ensures ∙ none)
