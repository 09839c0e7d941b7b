-- What is always so of the nodes of a flat document: a working file, which nobody has to believe.
use Rattle.std.specs.Prelude.{◌≡◌, ℕ, ◌+◌, ◌-◌, ◌<◌, ◌≤◌, true, List, ◌∷◌, length, drop, get_or, Result}
use Rattle.std.specs.Str.{is_utf8}
use Rattle.json.specs.Token.{Token, key}
use Rattle.jp_doc.specs.Json.{Json}
use Rattle.jp_doc.specs.Reading.{unless_long}
use Rattle.jp_doc.specs.declared.fault.DocFault.{DocFault}
use Rattle.jp_flat.specs.Flat.{value_at}
use Rattle.jp_flat.specs.inner.Plain.{is_flat}
use Rattle.jp_flat_nodes.specs.Nodes.{Source, piece, tokens_at, AreLinked, IsPlain, IsPlainName}
use Rattle.jp_flat_nodes.specs.declared.node.FlatNode.{FlatNode}
use Rattle.jp_flat_nodes.specs.declared.node.FlatNode.TheVariants.{Object, EndObject, Array, EndArray, Key}
use Rattle.jp_flat_nodes.specs.declared.node.FlatNode.TheVariants.{Text, EscapedKey, Escaped}
use Rattle.jp_flat_nodes.specs.declared.node.FlatNode.TheVariants.{Number, Truth, Null}

-- so many bytes stand there, in UTF-8
abbrev pub IsPiece : List ℕ → ℕ → ℕ → Type 0
IsPiece text from count = (from + count ≤ length text) × (is_utf8 (piece text from count) ≡ true)

abbrev pub HasPiece : Source → FlatNode → Type 0
HasPiece src (Object end) = Unit {0}
HasPiece src EndObject = Unit {0}
HasPiece src (Array end) = Unit {0}
HasPiece src EndArray = Unit {0}
HasPiece src (Key from count) = IsPiece src.line from count × IsPlainName src.line from count
HasPiece src (Text from count) = IsPiece src.line from count × IsPlain src.line from count
HasPiece src (EscapedKey from count) = IsPiece src.texts from count
HasPiece src (Escaped from count) = IsPiece src.texts from count
HasPiece src (Number from count) = IsPiece src.line from count
HasPiece src (Truth b) = Unit {0}
HasPiece src Null = Unit {0}

-- a name stands there before a value
abbrev pub IsNamed : List Token → ℕ → List ℕ → Type 0
IsNamed all at name = (0 < at) × (drop (at - 1) all ≡ key name ∷ drop at all)

-- no name
abbrev pub IsNoKey : Token → Type 0
IsNoKey t = (s : List ℕ) → t ≡ key s → ⊥

pub record IsHeld (src : Source) (nodes : List FlatNode) : Type 0 where
  pub flat : is_flat (tokens_at src nodes) ≡ true
  pub linked : AreLinked (tokens_at src nodes) nodes
  pub pieces : (i : ℕ) → HasPiece src (get_or nodes i Null)

-- The nodes are those of a document, whose value is the answer where no array of it is too long.
pub record IsReadAs (answer : Result Json DocFault) (src : Source) (nodes : List FlatNode) : Type 0 where
  pub few : length nodes ≤ 268435456
  pub held : IsHeld src nodes
  pub value : answer ≡ unless_long (value_at (tokens_at src nodes))
