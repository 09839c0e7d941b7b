-- What the tree of the code stands for.
use Rattle.std.specs.Prelude.{List, [], ◌∷◌, map}
use Rattle.jp_pattern.specs.declared.tree.Element.{Element as HeldElement}
use Rattle.jp_pattern.specs.declared.tree.Element.TheVariants as element
use Rattle.jp_pattern.specs.declared.tree.CharSet.{CharSet as HeldSet}
use Rattle.jp_pattern.specs.declared.tree.CharSet.TheVariants as set
use Rattle.jp_pattern.specs.declared.tree.Node.{Node}
use Rattle.jp_pattern.specs.declared.tree.Node.TheOpen.{Node-F}
use Rattle.jp_pattern.specs.declared.tree.Node.TheFolds.{fold-Node}
use Rattle.jp_pattern.specs.Pattern.{Element, one, range, of_category, CharSet, only, dot, category, class}
use Rattle.jp_pattern.specs.Pattern.{Pattern, empty, letter, group, seq, either, repeat, plus}

-- the element of a class (RFC 9485, 3: CCE1)
abbrev pub element_of : HeldElement → Element
element_of (element.One c) = one c
element_of (element.Range low high) = range low high
element_of (element.Category negated categories) = of_category negated categories.items

-- the set of characters (RFC 9485, 3: atom)
abbrev pub set_of : HeldSet → CharSet
set_of (set.Only c) = only c
set_of set.Dot = dot
set_of (set.Category negated categories) = category negated categories.items
set_of (set.Class negated elements) = class negated (map element_of elements.items)

-- a branch of these pieces (RFC 9485, 3: branch)
abbrev pub in_turn : List Pattern → Pattern
in_turn [] = empty
in_turn (p ∷ ps) = seq p (in_turn ps)

-- these branches and then the last one (RFC 9485, 3: i-regexp)
abbrev pub before_last : List Pattern → Pattern → Pattern
before_last [] q = q
before_last (p ∷ ps) q = either p (before_last ps q)

-- one layer of the tree (RFC 9485, 3)
abbrev pub layer_of : Node-F Pattern → Pattern
layer_of (Node-F.Set x) = letter (set_of x)
layer_of (Node-F.Group sub) = group sub.value
layer_of (Node-F.Pieces pieces) = in_turn pieces.items
layer_of (Node-F.Branches before last) = before_last before.items last.value
layer_of (Node-F.Repeat least most atom) = repeat least most atom.value
layer_of (Node-F.Plus atom) = plus atom.value

-- the pattern that the tree stands for (RFC 9485, 3)
abbrev pub node_of : Node → Pattern
node_of = fold-Node Pattern layer_of
