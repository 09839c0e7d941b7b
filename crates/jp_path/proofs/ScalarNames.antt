-- Names that are texts of scalar values, at every level: those of a document, and those of a line's tree.
use Rattle.std.proofs.Common.{Ordering, Less, Equal, Greater}
use Rattle.std.specs.Ordering.{match_ordering}
use Rattle.std.specs.Str.{chars}
use Rattle.json.specs.Json as grammar
use Rattle.serde_json.specs.Data as crate_data
use Rattle.serde_json.specs.Data.{Data}
use Rattle.jp_doc.specs.Json.{Text, text_cmp, Json, null, truth, number, text, array, object, Items, no_items}
use Rattle.jp_doc.specs.Json.{add_item, Members, no_members, add_member, json_of, items_of, members_of}
use Rattle.jp_doc.specs.Tree.{put_member, tree_json, tree_items, tree_members}
use Rattle.jp_doc.proofs.TextLaws.{IsOfValue, ItemsAreOfValue, MembersAreOfValue}
use Rattle.jp_doc.proofs.TreeNames.{NamesAreTexts, ItemNamesAreTexts, MemberNamesAreTexts}
use Rattle.jp_tree.specs.Characters.{is_scalar}
use Rattle.jp_tree.specs.Parts.{Each}
use Rattle.jp_quote.proofs.Scalars.{chars_are_scalar}

abbrev mutual
  pub HasScalarNames : Json → Type 0
  HasScalarNames null = Unit {0}
  HasScalarNames (truth b) = Unit {0}
  HasScalarNames (number x) = Unit {0}
  HasScalarNames (text s) = Unit {0}
  HasScalarNames (array vs) = ItemsHaveScalarNames vs
  HasScalarNames (object ms) = MembersHaveScalarNames ms

  pub ItemsHaveScalarNames : Items → Type 0
  ItemsHaveScalarNames no_items = Unit {0}
  ItemsHaveScalarNames (add_item v vs) = HasScalarNames v × ItemsHaveScalarNames vs

  pub MembersHaveScalarNames : Members → Type 0
  MembersHaveScalarNames no_members = Unit {0}
  MembersHaveScalarNames (add_member k v ms) =
      Each is_scalar k × HasScalarNames v × MembersHaveScalarNames ms

-- ---- what the JSON crate has

mutual
  pub data_names : (d : Data) → IsOfValue d → HasScalarNames (json_of d)
  data_names crate_data.null h = tt
  data_names (crate_data.boolean b) h = tt
  data_names (crate_data.number n) h = tt
  data_names (crate_data.string s) h = tt
  data_names (crate_data.array ds) h = items_names ds h
  data_names (crate_data.object ms) h = members_names ms h

  items_names : (ds : crate_data.Items) → ItemsAreOfValue ds → ItemsHaveScalarNames (items_of ds)
  items_names crate_data.no_items h = tt
  items_names (crate_data.item d ds) h = (data_names d h.0, items_names ds h.1)

  members_names : (ms : crate_data.Members) → MembersAreOfValue ms → MembersHaveScalarNames (members_of ms)
  members_names crate_data.no_members h = tt
  members_names (crate_data.member k d ms) h =
      (chars_are_scalar k h.0, data_names d h.1, members_names ms h.2)

-- ---- trees

names_at : (o : Ordering) (k l : Text) (v w : Json) (ms : Members) → Each is_scalar k → HasScalarNames v
    → MembersHaveScalarNames (add_member l w ms) → MembersHaveScalarNames (put_member k v ms)
    → MembersHaveScalarNames (match_ordering o (add_member k v (add_member l w ms)) (add_member l v ms)
    (add_member l w (put_member k v ms)))
names_at Less k l v w ms a b h later = (a, b, h)
names_at Equal k l v w ms a b h later = (h.0, b, h.2)
names_at Greater k l v w ms a b h later = (h.0, h.1, later)

names_put : (k : Text) (v : Json) (ms : Members) → Each is_scalar k → HasScalarNames v
    → MembersHaveScalarNames ms → MembersHaveScalarNames (put_member k v ms)
names_put k v no_members a b h = (a, b, tt)
names_put k v (add_member l w ms) a b h =
    names_at (text_cmp k l) k l v w ms a b h (names_put k v ms a b h.2)

mutual
  pub tree_names : (j : grammar.Json) → NamesAreTexts j → HasScalarNames (tree_json j)
  tree_names grammar.null h = tt
  tree_names (grammar.boolean b) h = tt
  tree_names (grammar.number s) h = tt
  tree_names (grammar.string s) h = tt
  tree_names (grammar.array js) h = tree_items_names js h
  tree_names (grammar.object ms) h = tree_members_names ms no_members h tt

  tree_items_names : (js : grammar.Items) → ItemNamesAreTexts js → ItemsHaveScalarNames (tree_items js)
  tree_items_names grammar.no_items h = tt
  tree_items_names (grammar.item j js) h = (tree_names j h.0, tree_items_names js h.1)

  tree_members_names : (ms : grammar.Members) (put : Members) → MemberNamesAreTexts ms
      → MembersHaveScalarNames put → MembersHaveScalarNames (tree_members ms put)
  tree_members_names grammar.no_members put h p = p
  tree_members_names (grammar.member k j ms) put h p =
      tree_members_names ms (put_member (chars k) (tree_json j) put) h.2
      (names_put (chars k) (tree_json j) put (chars_are_scalar k h.0) (tree_names j h.1) p)
