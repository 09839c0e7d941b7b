-- Nodes of the kit laid as own ones: a working file, which nobody has to believe.
use Rattle.std.specs.Prelude.{◌≡◌, ℕ, ◌+◌, ◌≤◌, List, ◌++◌, length, Option, Some, None}
use Rattle.json.specs.Tape.{node_token}
use Rattle.json.specs.declared.tape.Node as tape
use Rattle.json.specs.declared.tape.Node.TheVariants as taped
use Rattle.jp_flat_nodes.specs.Nodes.{piece, token_at, link_of, source, IsWithin}
use Rattle.jp_flat_nodes.specs.declared.node.FlatNode.{FlatNode}

-- the text stands behind the others
pub record IsKept (old new text : List ℕ) (from count : ℕ) : Type 0 where
  pub behind : new ≡ old ++ text
  pub is : piece new from count ≡ text
  pub within : from + count ≤ length new

-- where the kit's node tells that its value ends
abbrev pub link_in : tape.Node → Option ℕ
link_in (taped.Object end) = Some end
link_in taped.EndObject = None
link_in (taped.Array end) = Some end
link_in taped.EndArray = None
link_in (taped.Key s) = None
link_in (taped.String s) = None
link_in (taped.Number s) = None
link_in (taped.Bool b) = None
link_in taped.Null = None

abbrev pub IsAtMost : ℕ → Option ℕ → Type 0
IsAtMost most None = Unit {0}
IsAtMost most (Some end) = end ≤ most

abbrev pub EndsWithin : ℕ → tape.Node → Type 0
EndsWithin most n = IsAtMost most (link_in n)

-- the own node has the same token and tells the same
pub record IsLaid (old new : List ℕ) (n : tape.Node) (own : FlatNode) : Type 0 where
  pub more : List ℕ
  pub behind : new ≡ old ++ more
  pub token : token_at (source new new) own ≡ node_token n
  pub link : link_of own ≡ link_in n
  pub within : IsWithin (source new new) own
