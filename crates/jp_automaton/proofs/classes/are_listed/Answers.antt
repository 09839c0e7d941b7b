use Rattle.std.proofs.Common.{◌∙◌, ap, sym}
use Rattle.jp_pattern.specs.CharSets.{in_element}
use Rattle.jp_pattern.specs.Tree.{element_of}
use Rattle.jp_automaton.proofs.SpanLemmas.{any_listed}
use Rattle.jp_automaton.proofs.classes.are_listed.Goals as goal

pub returns-then-is_same : goal.returns-then-is_same
returns-then-is_same c = λ _ x holds. any_listed x c.args.categories.now c.loop-known.known-index
    c.known-item.result c.loop-known-test.true
    (ap (λ e. in_element x (element_of e)) (sym c.known-item.is) ∙ c.is_same.ensures c.if-is_same.true x
    ∙ holds)
