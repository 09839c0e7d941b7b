-- What holds of every `Value`: its texts are UTF-8, and the numbers that it has as negative are.
use Rattle.std.proofs.Common.{◌≡◌, ℕ, ℤ, pos, negsuc, arith, true, List, [], ◌∷◌, map, refl, sym, ap, ◌∙◌}
use Rattle.std.proofs.Common.{bytes_eq, subst, String, Global}
use Rattle.std.proofs.lemmas.Bool.{ltb-true}
use Rattle.std.proofs.lemmas.Bool.Decides.{same_from_decides}
use Rattle.std.proofs.lemmas.Slice.Eq.{bytes_eq-Decides}
use Rattle.std.proofs.lemmas.Str.{encodes-chars, IsUtf8-string_bytes}
use Rattle.std.specs.Prelude.{encode_utf8_all, int_lt}
use Rattle.std.specs.Str.{chars, IsUtf8}
use Rattle.serde_json.specs.Data as crate_data
use Rattle.serde_json.specs.Data.{Data, null, boolean, number, string, array, object}
use Rattle.serde_json.specs.Number.{num_of, is_valid}
use Rattle.serde_json.specs.View.{view, view_step, items_of, members_of}
use Rattle.serde_json.specs.declared.number.N.{N}
use Rattle.serde_json.specs.declared.number.N.TheVariants.{PosInt, NegInt, Float}
use Rattle.serde_json.specs.declared.value.Value.{Value, roll-Value, map-Value}
use Rattle.serde_json.specs.declared.value.Value.TheOpen.{Value-F}
use Rattle.serde_json.specs.declared.value.Value.TheFolds.{fold-roll-Value, ind-Value}
use Rattle.jp_doc.specs.Json.{number_of}

-- a number is read again as it was
abbrev pub IsExact : crate_data.Num → Type 0
IsExact (crate_data.unsigned n) = Unit {0}
IsExact (crate_data.negative z) = number_of z ≡ crate_data.negative z
IsExact (crate_data.float x) = Unit {0}

-- every text and every name in what was read is UTF-8, and every number exact
abbrev mutual
  pub IsOfValue : Data → Type 0
  IsOfValue null = Unit {0}
  IsOfValue (boolean b) = Unit {0}
  IsOfValue (number n) = IsExact n
  IsOfValue (string s) = IsUtf8 s
  IsOfValue (array ds) = ItemsAreOfValue ds
  IsOfValue (object ms) = MembersAreOfValue ms

  pub ItemsAreOfValue : crate_data.Items → Type 0
  ItemsAreOfValue crate_data.no_items = Unit {0}
  ItemsAreOfValue (crate_data.item d ds) = IsOfValue d × ItemsAreOfValue ds

  pub MembersAreOfValue : crate_data.Members → Type 0
  MembersAreOfValue crate_data.no_members = Unit {0}
  MembersAreOfValue (crate_data.member k d ms) = IsUtf8 k × IsOfValue d × MembersAreOfValue ms

below_zero : (z : ℤ) → int_lt z (pos 0) ≡ true → number_of z ≡ crate_data.negative z
below_zero (pos n) h = absurd (omega (arith, ltb-true n 0 h))
below_zero (negsuc n) h = refl

exact : (n : N) → is_valid n ≡ true → IsExact (num_of n)
exact (PosInt n) h = tt
exact (NegInt z) h = below_zero z h
exact (Float x) h = tt

-- a value, and this of it
abbrev Known : Type 0
Known = (v : Value) × IsOfValue (view v)

items_known : (vs : List Known) → ItemsAreOfValue (items_of (map view (map (λ e. e.0) vs)))
items_known [] = tt
items_known (v ∷ vs) = (v.1, items_known vs)

members_known : (es : List (String Global × Known))
    → MembersAreOfValue (members_of (map (λ (m : String Global × Value). (m.0, view m.1))
    (map (λ (e : String Global × Known). (e.0, e.1.0)) es)))
members_known [] = tt
members_known (e ∷ es) = (IsUtf8-string_bytes e.0, e.1.1, members_known es)

level_known : (y : Value-F Known)
    → IsOfValue (view_step (map-Value Value Data view (map-Value Known Value (λ e. e.0) y)))
level_known Value-F.Null = tt
level_known (Value-F.Bool b) = tt
level_known (Value-F.Number x) = exact x.n x.valid
level_known (Value-F.String s) = IsUtf8-string_bytes s
level_known (Value-F.Array v) = items_known v.items
level_known (Value-F.Object m) = members_known m.entries

rolled_known : (y : Value-F Known) → IsOfValue (view (roll-Value (map-Value Known Value (λ e. e.0) y)))
rolled_known y = rw (fold-roll-Value Data view_step (map-Value Known Value (λ e. e.0) y)) (level_known y)

pub value_has : (v : Value) → IsOfValue (view v)
value_has = ind-Value (λ v. IsOfValue (view v)) (λ x y is. subst (λ z. IsOfValue (view (roll-Value z))) is
    (rolled_known y))

-- texts are the same just where their bytes are
pub text_eq-bytes : (k l : List ℕ) → IsUtf8 k → IsUtf8 l → bytes_eq (chars k) (chars l) ≡ bytes_eq k l
text_eq-bytes k l u v =
    let decoded = bytes_eq-Decides (chars k) (chars l) in
    same_from_decides (bytes_eq (chars k) (chars l)) (bytes_eq k l) (
      λ t. sym (encodes-chars k u) ∙ ap encode_utf8_all (decoded.0 t)
          ∙ encodes-chars l v,
      λ e. decoded.1 (ap chars e),
    )
    (bytes_eq-Decides k l)
