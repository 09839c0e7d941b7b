use Rattle.std.proofs.Common.{◌∙◌, ap, length}
use Rattle.jp_buffer.proofs.SpanLaws.{only_line, no_spans}
use Rattle.jp_buffer.proofs.waiting.WaitingLines.take.Goals as goal

pub invariant_of-self : goal.invariant_of-self
invariant_of-self c =
    let none = no_spans c.self.inside.bytes.items _ (c.self.view_is ∙ c.requires.none) in
    let bytes = c.in_ok-extend_from_slice.ensures.items in
    let count = c.len-len.ensures ∙ c.extend_from_slice.new.self.ok.0 ∙ ap length bytes in
    (only_line _ _ _ _ c.args.number _ none (ap (λ v. v.items) c.swap.ensures.x_after ∙ bytes) count
    c.in-Ok.ensures.items).0

pub returns-in-Ok-clause-lines : goal.returns-in-Ok-clause-lines
returns-in-Ok-clause-lines c =
    let none = no_spans c.self.inside.bytes.items _ (c.self.view_is ∙ c.requires.none) in
    let bytes = c.in_ok-extend_from_slice.ensures.items in
    let count = c.len-len.ensures ∙ c.extend_from_slice.new.self.ok.0 ∙ ap length bytes in
    (only_line _ _ _ _ c.args.number _ none (ap (λ v. v.items) c.swap.ensures.x_after ∙ bytes) count
    c.in-Ok.ensures.items).1
