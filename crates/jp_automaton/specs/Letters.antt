-- What a set of characters stands for, as it is looked up.
use Rattle.std.specs.Prelude.{List, ◌++◌, map}
use Rattle.jp_automaton.specs.declared.ranges.Class.{Class}
use Rattle.jp_automaton.specs.declared.letters.Letters.{Letters}
use Rattle.jp_automaton.specs.declared.letters.Letters.TheVariants as letters
use Rattle.jp_automaton.specs.declared.ranges.Span.{Span}
use Rattle.jp_pattern.specs.Pattern.{CharSet, Element}
use Rattle.jp_pattern.specs.Tree.{element_of, set_of}

-- the characters from the first to the last (RFC 9485, 3: CCE1)
abbrev pub span_element : Span → Element
span_element s = Element.range s.low s.high

-- what stands in the class: its ranges, and then its categories (RFC 9485, 3: charClassExpr)
abbrev pub elements_of : Class → List Element
elements_of class = map span_element class.spans.items ++ map element_of class.categories.items

-- the set of characters (RFC 9485, 3: atom)
abbrev pub letters_of : Letters → CharSet
letters_of (letters.Plain set) = set_of set
letters_of (letters.Ranges class) = CharSet.class class.negated (elements_of class)
