use Rattle.std.proofs.Common.{ap, map-id, sym, ◌∙◌}
use Rattle.std.proofs.lemmas.Iterator.{YieldsList-from_chars}
use Rattle.std.proofs.lemmas.Iterator.Consumers.{YieldsList-end}
use Rattle.jp_explain.specs.PatternNotes.{last_or}
use Rattle.jp_explain.proofs.Traps.{last_pushed}
use Rattle.jp_explain.proofs.pattern_note.last_of.Goals as goal

pub loop-c-preserved : goal.loop-c-preserved
loop-c-preserved c = sym (last_pushed 0 c.loop-c.yielded c.in-Some.c)

pub returns : goal.returns
returns c =
    let end = YieldsList-end (YieldsList-from_chars c.args.text.now c.utf8.text cc) c.loop-c.yielded _
    c.loop-c.yielded_by _ _ c.in-None.is c.next.ensures.steps in
    c.loop-c.invariant ∙ ap (last_or 0) (sym (map-id c.loop-c.yielded) ∙ end.0)
