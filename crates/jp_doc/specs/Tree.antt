-- The value of a line by the grammar of JSON alone (RFC 8259), where a number is the text that stands there.
use Rattle.std.specs.Prelude.{ℕ, pos, List, Option, Some, None, option_and_then}
use Rattle.std.specs.Ordering.{match_ordering}
use Rattle.std.specs.Str.{chars}
use Rattle.json.specs.Json as grammar
use Rattle.json.specs.Lex.{tokens}
use Rattle.serde_json.specs.Data.{Num, unsigned, negative, float}
use Rattle.serde_json.specs.Read.{number_of, max_depth}
use Rattle.jp_doc.specs.Json.{Text, text_cmp, Json, null, truth, number, text, array, object, Items, no_items}
use Rattle.jp_doc.specs.Json.{add_item, Members, no_members, add_member}
use Rattle.jp_number.specs.Number.{Number, whole, written}

-- the tree of a line: its one value, with arrays and objects nested no deeper than they may
abbrev pub tree_of : List ℕ → Option grammar.Json
tree_of line = option_and_then (λ p. grammar.if_last p.0 p.1) (grammar.value max_depth (tokens line))

-- The number of a text: a whole one where it is whole and has 64 bits, and else the text that writes it.
abbrev pub number_by : List ℕ → Option Num → Number
number_by s None = written s
number_by s (Some (unsigned n)) = whole (pos n)
number_by s (Some (negative z)) = whole z
number_by s (Some (float x)) = written s

abbrev pub text_number : List ℕ → Number
text_number s = number_by s (number_of s)

-- a member put among members that rise, in its place, or in that of the member of its name
abbrev pub put_member : Text → Json → Members → Members
put_member k v no_members = add_member k v no_members
put_member k v (add_member l w ms) = match_ordering (text_cmp k l) (add_member k v (add_member l w ms))
    (add_member l v ms) (add_member l w (put_member k v ms))

-- The value of a tree. Members are put one after another, so the last of a name stays.
abbrev mutual
  pub tree_json : grammar.Json → Json
  tree_json grammar.null = null
  tree_json (grammar.boolean b) = truth b
  tree_json (grammar.number s) = number (text_number s)
  tree_json (grammar.string s) = text (chars s)
  tree_json (grammar.array js) = array (tree_items js)
  tree_json (grammar.object ms) = object (tree_members ms no_members)

  pub tree_items : grammar.Items → Items
  tree_items grammar.no_items = no_items
  tree_items (grammar.item j js) = add_item (tree_json j) (tree_items js)

  pub tree_members : grammar.Members → Members → Members
  tree_members grammar.no_members put = put
  tree_members (grammar.member k j ms) put = tree_members ms (put_member (chars k) (tree_json j) put)
