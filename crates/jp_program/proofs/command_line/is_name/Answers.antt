use Rattle.std.proofs.Common.{◌≡◌, ◌∙◌, false, map-id, refl, sym, subst}
use Rattle.std.proofs.lemmas.Iterator.{YieldsList-from_chars}
use Rattle.std.proofs.lemmas.Iterator.Consumers.{YieldsList-end, YieldsList-turn}
use Rattle.std.specs.Char.{is_control}
use Rattle.std.specs.List.{All}
use Rattle.std.specs.Str.{chars}
use Rattle.jp_program.proofs.Naming.{controlled}
use Rattle.jp_program.proofs.command_line.is_name.Goals as goal

pub returns-then-is_control : goal.returns-then-is_control
returns-then-is_control c =
    let turn = YieldsList-turn (YieldsList-from_chars c.args.name.now c.utf8.name cc) c.loop-c.yielded _
    c.loop-c.yielded_by _ _ c.in-Some.c c.in-Some.is c.next.ensures.steps in (
      λ e. absurd (cc),
      controlled (chars c.args.name.now) _ c.in-Some.c turn.0 turn.1
          (sym c.is_control.ensures ∙ c.if-is_control.true),
    )

pub returns : goal.returns
returns c =
    let end = YieldsList-end (YieldsList-from_chars c.args.name.now c.utf8.name cc) c.loop-c.yielded _
    c.loop-c.yielded_by _ _ c.in-None.is c.next.ensures.steps in (
      λ e. subst (All (λ d. is_control d ≡ false)) (sym (map-id c.loop-c.yielded) ∙ end.0) c.loop-c.invariant,
      λ names. refl,
    )
