use Rattle.std.proofs.Common.{arith}
use Rattle.unicode.specs.GeneralCategory.{general_category_eq}
use Rattle.jp_automaton.proofs.SpanLemmas.{any_alike}
use Rattle.jp_automaton.proofs.classes.are_same.Goals as goal

pub returns : goal.returns
returns c = λ _ x. any_alike (general_category_eq x) c.args.one.now c.args.other.now (omega arith)
    (λ k d lt. c.loop-i.invariant k x d (omega arith))
