use Rattle.std.proofs.Common.{◌≡◌, List, ℕ, [], ◌∷◌, ◌++◌, false, append_assoc, append-nil, map-id, sym, ap}
use Rattle.std.proofs.Common.{◌∙◌}
use Rattle.std.proofs.lemmas.Iterator.{YieldsList-from_chars}
use Rattle.std.proofs.lemmas.Iterator.Consumers.{YieldsList-end, YieldsList-turn}
use Rattle.std.specs.Str.{chars}
use Rattle.jp_tree.specs.View.{text_of}
use Rattle.jp_explain.specs.Picture.{is_escaped}
use Rattle.jp_explain.proofs.Pictures.{shown_at}
use Rattle.jp_explain.proofs.line.PlainLine.push_text.Goals as goal

pub loop-c-init : goal.loop-c-init
loop-c-init c = λ h. sym (append-nil (text_of c.args.self.now.text))

pub loop-c-preserved : goal.loop-c-preserved
loop-c-preserved c = λ h.
    let turn = YieldsList-turn (YieldsList-from_chars c.args.text.now c.utf8.text cc) c.loop-c.yielded _
    c.loop-c.yielded_by _ _ c.in-Some.c c.in-Some.is c.next.ensures.steps in
    let plain : is_escaped c.in-Some.c ≡ false =
    shown_at (chars c.args.text.now) _ c.in-Some.c turn.0 turn.1 h in
    c.in_ok-push_shown.ensures plain
    ∙ ap (λ (t : List ℕ). t ++ c.in-Some.c ∷ []) (c.loop-c.invariant h)
    ∙ append_assoc (text_of c.args.self.now.text) c.loop-c.yielded (c.in-Some.c ∷ [])

pub returns : goal.returns
returns c = λ h.
    let end = YieldsList-end (YieldsList-from_chars c.args.text.now c.utf8.text cc) c.loop-c.yielded _
    c.loop-c.yielded_by _ _ c.in-None.is c.next.ensures.steps in
    c.loop-c.invariant h
    ∙ ap (λ (t : List ℕ). text_of c.args.self.now.text ++ t) (sym (map-id c.loop-c.yielded) ∙ end.0)
