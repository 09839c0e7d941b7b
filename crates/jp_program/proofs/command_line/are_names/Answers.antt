use Rattle.std.proofs.Common.{◌∙◌, refl, sym, subst, true≢false}
use Rattle.std.proofs.lemmas.List.Elements.{All-get_or, All-more}
use Rattle.std.proofs.lemmas.List.{take_all}
use Rattle.std.specs.List.{All}
use Rattle.jp_program.specs.Wanted.{IsName}
use Rattle.jp_program.proofs.command_line.are_names.Goals as goal

pub returns-then-not-is_name : goal.returns-then-not-is_name
returns-then-not-is_name c = (
  λ e. absurd (cc),
  λ names. absurd (true≢false (sym (c.is_name.ensures.1 (All-get_or (λ name. IsName name.now)
      c.args.names.now c.loop-name.name-index _ c.loop-name-test.true names)) ∙ c.if-not-is_name.true)),
)

pub loop-name-preserved : goal.loop-name-preserved
loop-name-preserved c = All-more (λ name. IsName name.now) c.args.names.now c.loop-name.name-index _
    c.loop-name-test.true c.loop-name.invariant
    (c.is_name.ensures.0 c.if-not-is_name.false)

pub returns : goal.returns
returns c = (
  λ e. subst (All (λ name. IsName name.now))
      (take_all c.loop-name.name-index c.args.names.now c.loop-name-test.false) c.loop-name.invariant,
  λ names. refl,
)
