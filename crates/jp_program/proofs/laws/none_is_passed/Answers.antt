use Rattle.std.proofs.Common.{◌≡◌, ◌∙◌, List, [], ◌∷◌, inl, inr, ap, sym}
use Rattle.jp_answer.specs.declared.on_fault.OnFault.TheVariants.{Stop, KeepGoing}
use Rattle.jp_program.specs.Inputs.{EachInTurn, Input, Standing}
use Rattle.jp_program.specs.Outcome.{IsWhole, IsWholeOrCut}
use Rattle.jp_program.specs.Wanted.{Wanted}
use Rattle.jp_program.proofs.laws.none_is_passed.Goals as goal

one_whole : (w : Wanted) (input : Input) (old new : Standing) → w.on_fault ≡ Stop
    → IsWholeOrCut w input old new → IsWhole w input old.0 new.0 × (new.1 ≡ old.1)
one_whole w input old new off (inl h) = h
one_whole w input old new off (inr h) = absurd (let both : KeepGoing ≡ Stop = sym h.0 ∙ off in cc)

each_whole : (w : Wanted) (inputs : List Input) (old new : Standing) → w.on_fault ≡ Stop
    → EachInTurn (IsWholeOrCut w) inputs old new
    → EachInTurn (IsWhole w) inputs old.0 new.0 × (new.1 ≡ old.1)
each_whole w [] old new off h = (ap (λ (s : Standing). s.0) h, ap (λ (s : Standing). s.1) h)
each_whole w (x ∷ []) old new off h = one_whole w x old new off h
each_whole w (x ∷ y ∷ xs) old new off h =
    let first = one_whole w x old h.0 off h.1 in
    let rest = each_whole w (y ∷ xs) h.0 new off h.2 in
    ((h.0.0, first.0, rest.0), rest.1 ∙ first.1)

pub returns : goal.returns
returns c = each_whole
