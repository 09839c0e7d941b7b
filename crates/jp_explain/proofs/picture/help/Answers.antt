use Rattle.std.proofs.Common.{inl, ap, arith, ◌∙◌}
use Rattle.std.specs.Str.{chars}
use Rattle.std.proofs.lemmas.Str.{chars-nil}
use Rattle.jp_explain.proofs.Pictures.{helped}
use Rattle.jp_explain.proofs.picture.help.Goals as goal

pub returns-in_ok-push_front-in-Some-clause-shown : goal.returns-in_ok-push_front-in-Some-clause-shown
returns-in_ok-push_front-in-Some-clause-shown c =
    helped c.above.result _ _ chars-nil c.above.ensures.shown c.above.ensures.value

pub returns-in_ok-push_front-in-Some-clause-within : goal.returns-in_ok-push_front-in-Some-clause-within
returns-in_ok-push_front-in-Some-clause-within c = λ beyond.
    let bad : ⊥ = omega (arith, beyond, c.in-Some.ensures) in absurd bad

pub returns-in-None-clause-shown : goal.returns-in-None-clause-shown
returns-in-None-clause-shown c = inl (ap chars c.new.ensures.bytes ∙ chars-nil)

pub returns-in-None-clause-within : goal.returns-in-None-clause-within
returns-in-None-clause-within c = λ beyond. ap chars c.new.ensures.bytes ∙ chars-nil
