-- From a value back to what the JSON crate had read as it.
use Rattle.std.proofs.Common.{◌≡◌, false, refl, ap, ◌∙◌}
use Rattle.std.proofs.lemmas.Str.{encodes-chars}
use Rattle.serde_json.specs.Data.{Num, unsigned, negative, float, Data, null, boolean, number, string, array}
use Rattle.serde_json.specs.Data.{object, Items, no_items, item, Members, no_members, member}
use Rattle.serde_json.specs.Find.{is_float}
use Rattle.serde_json.specs.View.{view}
use Rattle.serde_json.specs.Written.{has_float, items_have_float, members_have_float}
use Rattle.serde_json.specs.declared.value.Value.{Value}
use Rattle.jp_doc.specs.Json.{whole_of, number_of, json_of, items_of, members_of, value_of, data_of}
use Rattle.jp_doc.specs.Json.{items_data, members_data}
use Rattle.jp_doc.proofs.Found.{first_false, second_false}
use Rattle.jp_doc.proofs.TextLaws.{IsExact, IsOfValue, ItemsAreOfValue, MembersAreOfValue, value_has}

number_back : (n : Num) → IsExact n → is_float n ≡ false → number_of (whole_of n) ≡ n
number_back (unsigned n) e h = refl
number_back (negative z) e h = e
number_back (float x) e h = absurd (cc)

mutual
  data_back : (d : Data) → IsOfValue d → has_float d ≡ false → data_of (json_of d) ≡ d
  data_back null u h = refl
  data_back (boolean b) u h = refl
  data_back (number n) u h = ap number (number_back n u h)
  data_back (string s) u h = ap string (encodes-chars s u)
  data_back (array ds) u h = ap array (items_back ds u h)
  data_back (object ms) u h = ap object (members_back ms u h)

  items_back : (ds : Items) → ItemsAreOfValue ds → items_have_float ds ≡ false → items_data (items_of ds) ≡ ds
  items_back no_items u h = refl
  items_back (item d ds) u h =
      ap (λ e. item e (items_data (items_of ds)))
      (data_back d u.0 (first_false (has_float d) (items_have_float ds) h))
      ∙ ap (item d) (items_back ds u.1 (second_false (has_float d) (items_have_float ds) h))

  members_back : (ms : Members) → MembersAreOfValue ms → members_have_float ms ≡ false
      → members_data (members_of ms) ≡ ms
  members_back no_members u h = refl
  members_back (member k d ms) u h =
      ap (λ l. member l (data_of (json_of d)) (members_data (members_of ms))) (encodes-chars k u.0)
      ∙ ap (λ e. member k e (members_data (members_of ms)))
      (data_back d u.1 (first_false (has_float d) (members_have_float ms) h))
      ∙ ap (member k d) (members_back ms u.2 (second_false (has_float d) (members_have_float ms) h))

pub value_back : (v : Value) → has_float (view v) ≡ false → data_of (value_of v) ≡ view v
value_back v h = data_back (view v) (value_has v) h
