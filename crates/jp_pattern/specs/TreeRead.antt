-- What a text is read as.
use Rattle.std.specs.Prelude.{◌≤◌, Result, Ok, Err, ⊤}
use Rattle.jp_pattern.specs.declared.fault.PatternFault.{PatternFault}
use Rattle.jp_pattern.specs.declared.fault.PatternFault.TheVariants as faults
use Rattle.jp_pattern.specs.declared.tree.Node.{Node}
use Rattle.jp_pattern.specs.Pattern.{Text, Pattern}
use Rattle.jp_pattern.specs.Profile.{depth, max_depth, HasCounts, IsPatternOf}
use Rattle.jp_pattern.specs.Shape.{Shapes}
use Rattle.jp_pattern.specs.Tree.{node_of}

-- the text spells the pattern, whose counts and depth keep to the limits, whatever its size is (RFC 9485, 3
-- and 8)
pub record Spells (text : Text) (p : Pattern) : Type 0 where
  pub shapes : Shapes text p
  pub counts : HasCounts p
  pub depth_fits : depth p ≤ max_depth

-- where it is refused, it is no I-Regexp (RFC 9485, 3 and 8)
abbrev pub IsRefused : Text → PatternFault → Type 0
IsRefused text faults.NoPattern = (p : Pattern) → IsPatternOf text p → ⊥
IsRefused text faults.Memory = ⊤

-- the tree that the text spells, and none only where the text is no I-Regexp or memory ran out
abbrev pub IsTreeOf : Text → Result Node PatternFault → Type 0
IsTreeOf text (Ok node) = Spells text (node_of node)
IsTreeOf text (Err fault) = IsRefused text fault
