-- What each kind of node of one part stands for.
use Rattle.std.proofs.Common.{◌≡◌, ℕ, Option, Box, Global, sym, ap, ◌∙◌}
use Rattle.jp_pattern.specs.Pattern.{Pattern, letter, repeat, plus}
use Rattle.jp_pattern.specs.Tree.{layer_of, node_of, set_of}
use Rattle.jp_pattern.specs.declared.tree.CharSet.{CharSet}
use Rattle.jp_pattern.specs.declared.tree.Node.{Node}
use Rattle.jp_pattern.specs.declared.tree.Node.TheFolds.{fold-roll-Node}
use Rattle.jp_pattern.specs.declared.tree.Node.TheVariants.{Set, Repeat, Plus, rolls-Set, rolls-Repeat}
use Rattle.jp_pattern.specs.declared.tree.Node.TheVariants.{rolls-Plus}

pub node_set : (set : CharSet) → node_of (Set set) ≡ letter (set_of set)
node_set set = ap node_of (sym (rolls-Set set)) ∙ fold-roll-Node Pattern layer_of _

pub node_repeat : (least : ℕ) (most : Option ℕ) (atom : Box Node Global)
    → node_of (Repeat least most atom) ≡ repeat least most (node_of atom.value)
node_repeat least most atom = ap node_of (sym (rolls-Repeat least most atom))
    ∙ fold-roll-Node Pattern layer_of _

pub node_plus : (atom : Box Node Global) → node_of (Plus atom) ≡ plus (node_of atom.value)
node_plus atom = ap node_of (sym (rolls-Plus atom)) ∙ fold-roll-Node Pattern layer_of _
