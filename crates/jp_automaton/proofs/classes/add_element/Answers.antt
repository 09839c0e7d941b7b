use Rattle.std.proofs.Common.{map, ap, sym, ◌∙◌}
use Rattle.std.specs.List.{list_any}
use Rattle.jp_pattern.specs.CharSets.{in_element}
use Rattle.jp_pattern.specs.Tree.{element_of}
use Rattle.jp_automaton.specs.Letters.{span_element}
use Rattle.jp_automaton.proofs.SpanLemmas.{adds_nothing}
use Rattle.jp_automaton.proofs.classes.add_element.Goals as goal

pub returns-else-not-are_listed : goal.returns-else-not-are_listed
returns-else-not-are_listed c = λ x. adds_nothing
    (list_any (in_element x) (map span_element c.args.spans.now.items))
    (list_any (in_element x) (map element_of c.args.categories.now.items))
    (in_element x (element_of c.args.element))
    (λ held. ap (λ es. list_any (in_element x) (map element_of es)) (sym c.deref.ensures.value)
    ∙ c.are_listed.ensures c.if-not-are_listed.false x held)
