-- What each kind of node stands for.
use Rattle.std.proofs.Common.{◌≡◌, map, Vec, Box, Global, sym, ap, ◌∙◌}
use Rattle.jp_pattern.specs.Pattern.{Pattern}
use Rattle.jp_pattern.specs.Tree.{in_turn, before_last, layer_of, node_of}
use Rattle.jp_pattern.specs.declared.tree.Node.{Node}
use Rattle.jp_pattern.specs.declared.tree.Node.TheFolds.{fold-roll-Node}
use Rattle.jp_pattern.specs.declared.tree.Node.TheVariants.{Pieces, Branches, rolls-Pieces, rolls-Branches}

pub node_pieces : (pieces : Vec Node Global) → node_of (Pieces pieces) ≡ in_turn (map node_of pieces.items)
node_pieces pieces = ap node_of (sym (rolls-Pieces pieces)) ∙ fold-roll-Node Pattern layer_of _

pub node_branches : (before : Vec Node Global) (last : Box Node Global) → node_of (Branches before last) ≡
    before_last (map node_of before.items) (node_of last.value)
node_branches before last = ap node_of (sym (rolls-Branches before last)) ∙ fold-roll-Node Pattern layer_of _
