use Rattle.std.proofs.Common.{subst, sym, ◌∙◌, false, ◌≡◌}
use Rattle.std.specs.Str.{chars}
use Rattle.jp_number.specs.Number.{written, IsShort}
use Rattle.jp_types.specs.Numbers.{is_whole}
use Rattle.jp_check.proofs.LiteralDigits.{written_short}
use Rattle.jp_check.proofs.leaves.make_number.Goals as goal

pub invariant_of-result-clause-short : goal.invariant_of-result-clause-short
invariant_of-result-clause-short c =
    subst (λ s. IsShort (written s)) (sym c.in_ok-text.ensures.ok)
    (written_short c.args.text.now c.utf8.text c.requires (sym c.is_whole.ensures ∙ c.if-is_whole.false))

pub invariant_of-result-clause-other : goal.invariant_of-result-clause-other
invariant_of-result-clause-other c =
    subst (λ s. is_whole (chars s) ≡ false) (sym c.in_ok-text.ensures.ok)
    (sym c.is_whole.ensures ∙ c.if-is_whole.false)
