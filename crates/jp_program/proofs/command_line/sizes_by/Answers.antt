use Rattle.std.proofs.Common.{◌+◌, arith, refl}
use Rattle.jp_program.proofs.command_line.sizes_by.Goals as goal

pub returns-in_err-workers-clause-none : goal.returns-in_err-workers-clause-none
returns-in_err-workers-clause-none c = λ h w p b n s.
    let many = c.in_err-workers.ensures.none refl w s.0 in absurd (omega (arith, many, s.3.0.1))

pub returns-in_err-piece-clause-none : goal.returns-in_err-piece-clause-none
returns-in_err-piece-clause-none c = λ h w p b n s.
    let many = c.in_err-piece.ensures.none refl p s.1 in absurd (omega (arith, many, s.3.1.1))

pub returns-in_err-batch-clause-none : goal.returns-in_err-batch-clause-none
returns-in_err-batch-clause-none c = λ h w p b n s.
    let many = c.in_err-batch.ensures.none refl b s.2 in absurd (omega (arith, many, s.3.2.1))

pub returns-in_err-first-clause-none : goal.returns-in_err-first-clause-none
returns-in_err-first-clause-none c = λ h w p b n s.
    let many = c.in_err-first.ensures.none refl (n + 1) s.4.0 in absurd (omega (arith, many, s.4.1.1))
