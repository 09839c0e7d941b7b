-- What the nodes of a document stand for: the tokens of its text, in which each array and object tells where
-- it ends.
use Rattle.std.specs.Prelude.{◌≡◌, ℕ, ◌+◌, ◌-◌, ◌<◌, ◌≤◌, Bool, true, ◌&&◌, List, [], ◌∷◌, map, length}
use Rattle.std.specs.Prelude.{take, drop}
use Rattle.std.specs.Prelude.{get_or, Option, Some, None}
use Rattle.json.specs.Json.{Json, Items, no_items, item, Members, no_members, member, document}
use Rattle.json.specs.Json as json
use Rattle.json.specs.Lex.{tokens}
use Rattle.json.specs.Print.{quoted}
use Rattle.json.specs.Tape.{Passes}
use Rattle.json.specs.Token.{Token, begin_object, end_object, begin_array, end_array, key, string, number}
use Rattle.json.specs.Token.{boolean, null}
use Rattle.json.specs.Tree as tree
use Rattle.json.specs.Tree.{HasNumbers}
use Rattle.jp_flat_nodes.specs.Digits.{is_taken}
use Rattle.jp_flat_nodes.specs.declared.node.FlatNode.{FlatNode}
use Rattle.jp_flat_nodes.specs.declared.node.FlatNode.TheVariants.{Object, EndObject, Array, EndArray, Key}
use Rattle.jp_flat_nodes.specs.declared.node.FlatNode.TheVariants.{Text, EscapedKey, Escaped}
use Rattle.jp_flat_nodes.specs.declared.node.FlatNode.TheVariants.{Number, Truth, Null}

-- so many bytes of the text from a place on
abbrev pub piece : List ℕ → ℕ → ℕ → List ℕ
piece text from count = take count (drop from text)

-- Where the texts of nodes stand: in a line, and without their escapes in a text of their own.
pub record Source : Type 0 where
  pub line : List ℕ
  pub texts : List ℕ

abbrev pub source : List ℕ → List ℕ → Source
source line texts = record { line = line; texts = texts }

abbrev pub token_at : Source → FlatNode → Token
token_at src (Object end) = begin_object
token_at src EndObject = end_object
token_at src (Array end) = begin_array
token_at src EndArray = end_array
token_at src (Key from count) = key (piece src.line from count)
token_at src (Text from count) = string (piece src.line from count)
token_at src (EscapedKey from count) = key (piece src.texts from count)
token_at src (Escaped from count) = string (piece src.texts from count)
token_at src (Number from count) = number (piece src.line from count)
token_at src (Truth b) = boolean b
token_at src Null = null

abbrev pub tokens_at : Source → List FlatNode → List Token
tokens_at src nodes = map (token_at src) nodes

-- where the value ends that the node begins, as it tells
abbrev pub link_of : FlatNode → Option ℕ
link_of (Object end) = Some end
link_of EndObject = None
link_of (Array end) = Some end
link_of EndArray = None
link_of (Key from count) = None
link_of (Text from count) = None
link_of (EscapedKey from count) = None
link_of (Escaped from count) = None
link_of (Number from count) = None
link_of (Truth b) = None
link_of Null = None

-- each node that tells so tells where one whole value ends
abbrev pub AreLinked : List Token → List FlatNode → Type 0
AreLinked all nodes = (i end : ℕ) → link_of (get_or nodes i Null) ≡ Some end → Passes all i end

-- The line has a text between its quotes, and it has no escape: what is printed of it stands there.
pub record IsPlain (line : List ℕ) (from count : ℕ) : Type 0 where
  pub behind : 0 < from
  pub before : from + count < length line
  pub is : piece line (from - 1) (count + 2) ≡ quoted (piece line from count)

-- a name that stands so, and a colon right behind it
abbrev pub IsPlainName : List ℕ → ℕ → ℕ → Type 0
IsPlainName line from count = IsPlain line from count × (get_or line (from + count + 1) 0 ≡ 58)

-- a node's text lies where it is told to be
abbrev pub IsWithin : Source → FlatNode → Type 0
IsWithin src (Object end) = Unit {0}
IsWithin src EndObject = Unit {0}
IsWithin src (Array end) = Unit {0}
IsWithin src EndArray = Unit {0}
IsWithin src (Key from count) = IsPlainName src.line from count
IsWithin src (Text from count) = IsPlain src.line from count
IsWithin src (EscapedKey from count) = from + count ≤ length src.texts
IsWithin src (Escaped from count) = from + count ≤ length src.texts
IsWithin src (Number from count) = from + count ≤ length src.line
IsWithin src (Truth b) = Unit {0}
IsWithin src Null = Unit {0}

abbrev pub AreWithin : Source → List FlatNode → Type 0
AreWithin src [] = Unit {0}
AreWithin src (n ∷ ns) = IsWithin src n × AreWithin src ns

-- each number of a value is one that is read
abbrev mutual
  pub are_taken : Bool → Json → Bool
  are_taken d json.null = true
  are_taken d (json.boolean b) = true
  are_taken d (json.number s) = is_taken d s
  are_taken d (json.string s) = true
  are_taken d (json.array js) = items_are_taken d js
  are_taken d (json.object ms) = members_are_taken d ms

  pub items_are_taken : Bool → Items → Bool
  items_are_taken d no_items = true
  items_are_taken d (item j js) = are_taken d j && items_are_taken d js

  pub members_are_taken : Bool → Members → Bool
  members_are_taken d no_members = true
  members_are_taken d (member k j ms) = are_taken d j && members_are_taken d ms

-- The line is the text of a value with such numbers, which nests no deeper than 127, and the nodes are its
-- tokens.
pub record IsRead (decimals : Bool) (src : Source) (nodes : List FlatNode) : Type 0 where
  pub value : Json
  pub is : document src.line ≡ Some value
  pub spelled : HasNumbers value
  pub nests : tree.depth value ≤ 127
  pub numbers : are_taken decimals value ≡ true
  pub are : tokens_at src nodes ≡ tokens src.line
  pub linked : AreLinked (tokens src.line) nodes
  pub within : AreWithin src nodes
  pub few : length nodes ≤ 268435456
