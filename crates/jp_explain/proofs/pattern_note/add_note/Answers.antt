use Rattle.std.proofs.Common.{ap, ◌∙◌}
use Rattle.std.specs.Str.{chars}
use Rattle.jp_tree.specs.View.{text_of}
use Rattle.jp_explain.specs.PatternNotes.{silent}
use Rattle.jp_explain.proofs.Traps.{told_of}
use Rattle.jp_explain.proofs.pattern_note.add_note.Goals as goal

pub returns-in_default : goal.returns-in_default
returns-in_default c = λ ts notes. silent ts _ (text_of c.args.known.now.text) notes
    (rw c.in_default.is at c.in_ok-trap.ensures.whole)

pub returns : goal.returns
returns c = λ ts notes.
    told_of ts _ _ _ _ (ap chars (c.in_ok-pattern.ensures.ok ∙ c.as_str.ensures.value))
    c.in_ok-push.ensures.items (rw c.in-Some.is at c.in_ok-trap.ensures.right) notes
