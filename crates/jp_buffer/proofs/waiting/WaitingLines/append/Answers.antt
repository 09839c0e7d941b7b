use Rattle.std.proofs.Common.{◌++◌, ◌∷◌, [], ◌∙◌, ap}
use Rattle.jp_buffer.proofs.SpanLaws.{added_line}
use Rattle.jp_buffer.proofs.waiting.WaitingLines.append.Goals as goal

pub invariant_of-self : goal.invariant_of-self
invariant_of-self c =
    (added_line c.self.inside.bytes.items _ _ c.self.inside.spans.items _ c.args.number c.self.invariant
    c.in-Ok.ensures.bytes c.in-Ok.ensures.spans).0

pub returns-in-Ok-clause-lines : goal.returns-in-Ok-clause-lines
returns-in-Ok-clause-lines c =
    (added_line c.self.inside.bytes.items _ _ c.self.inside.spans.items _ c.args.number c.self.invariant
    c.in-Ok.ensures.bytes c.in-Ok.ensures.spans).1
    ∙ ap (λ l. l ++ (c.args.number, c.args.front.now ++ c.args.back.now) ∷ []) c.self.view_is
