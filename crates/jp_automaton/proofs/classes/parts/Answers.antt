use Rattle.std.proofs.Common.{◌||◌, ap, sym, ◌∙◌}
use Rattle.jp_pattern.specs.CharSets.{in_element}
use Rattle.jp_pattern.specs.Tree.{element_of}
use Rattle.jp_automaton.proofs.SpanLemmas.{any_element}
use Rattle.jp_automaton.proofs.classes.parts.Goals as goal

pub loop-element-preserved : goal.loop-element-preserved
loop-element-preserved c = record {
  each = λ x. any_element x c.loop-element.yielded c.in-Some.element
      ∙ ap (λ b. b || in_element x (element_of c.in-Some.element)) (c.loop-element.invariant.each x)
      ∙ sym (c.in_ok-add_element.ensures x);
}
