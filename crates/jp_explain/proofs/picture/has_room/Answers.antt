use Rattle.std.proofs.Common.{◌≡◌, ◌∷◌, [], false, arith, rules, length-append}
use Rattle.std.proofs.lemmas.Iterator.{YieldsList-from_chars}
use Rattle.std.proofs.lemmas.Iterator.Consumers.{YieldsList-end, YieldsList-turn}
use Rattle.std.specs.Str.{chars}
use Rattle.jp_explain.specs.Picture.{is_escaped}
use Rattle.jp_explain.proofs.Pictures.{shown_at}
use Rattle.jp_explain.proofs.picture.has_room.Goals as goal

pub loop-c-preserved : goal.loop-c-preserved
loop-c-preserved c = λ h.
    let turn = YieldsList-turn (YieldsList-from_chars c.args.text.now c.utf8.text cc) c.loop-c.yielded _
    c.loop-c.yielded_by _ _ c.in-Some.c c.in-Some.is c.next.ensures.steps in
    let plain : is_escaped c.in-Some.c ≡ false =
    shown_at (chars c.args.text.now) _ c.in-Some.c turn.0 turn.1 h in
    omega (
      arith,
      c.room.ensures plain,
      c.loop-c.invariant h,
      c.saturating_add-taken.ensures,
      length-append c.loop-c.yielded (c.in-Some.c ∷ []),
    )

pub returns : goal.returns
returns c = λ h few.
    let end = YieldsList-end (YieldsList-from_chars c.args.text.now c.utf8.text cc) c.loop-c.yielded _
    c.loop-c.yielded_by _ _ c.in-None.is c.next.ensures.steps in
    search (rules, c.loop-c.invariant h, end.1, few)
