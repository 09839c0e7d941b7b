use Rattle.std.proofs.Common.{◌≡◌, map, drop}
use Rattle.std.specs.List.{list_any}
use Rattle.jp_pattern.specs.CharSets.{in_element}
use Rattle.jp_pattern.specs.Tree.{element_of}
use Rattle.jp_pattern.proofs.sets.in_some_element.Given as goal

abbrev pub invariant-loop-element : goal.invariant-loop-element
invariant-loop-element l = list_any (in_element l.c) (map element_of l.elements) ≡ list_any (in_element l.c)
    (map element_of (drop l.element-index l.elements))
