-- The texts of arrays and objects, a piece at a time.
use Rattle.std.proofs.Common.{◌≡◌, ℕ, ◌<◌, ◌≤◌, Bool, true, false, List, [], ◌∷◌, ◌++◌, refl, ap, sym, subst}
use Rattle.std.proofs.Common.{◌∙◌, append_assoc, arith}
use Rattle.std.proofs.lemmas.Bool.{and_parts}
use Rattle.std.proofs.lemmas.Bool.Decides.{nat_tests}
use Rattle.std.specs.List.{list_all}
use Rattle.std.specs.Prelude.{encode_utf8_all}
use Rattle.std.specs.Str.{chars}
use Rattle.json.specs.Print.{escape, escape_byte, quoted}
use Rattle.serde_json.specs.Written.{comma_if}
use Rattle.jp_doc.specs.Height.{height}
use Rattle.jp_doc.specs.Json.{Json, Items, no_items, array, object}
use Rattle.jp_flat.specs.Gathered.{gathered}
use Rattle.jp_flat.specs.Value.{flat_value}
use Rattle.jp_flat.specs.declared.value.FlatMember.{FlatMember}
use Rattle.jp_node.specs.Inside.{items_inside}
use Rattle.jp_node.specs.Bare.{stands_bare}
use Rattle.jp_output.specs.OutputLine.{value_text}
use Rattle.jp_output.proofs.Texts.{items_left, members_left, array_left, object_left}

-- a byte that stands as it is
plain_byte : (b : ℕ) → stands_bare 34 b ≡ true → escape_byte b ≡ b ∷ []
unfolding escape_byte
plain_byte b h = grind (arith, nat_tests)

-- a text of such bytes has no escape
pub bare_text : (bs : List ℕ) → list_all (stands_bare 34) bs ≡ true → escape bs ≡ bs
bare_text [] h = refl
bare_text (b ∷ bs) h =
    let p = and_parts (stands_bare 34 b) (list_all (stands_bare 34) bs) h in
    rw (plain_byte b p.0, bare_text bs p.1) refl

-- the text of the items that are left, and the closing bracket
abbrev pub items_rest : Bool → Json → List ℕ
items_rest later v = items_left later (items_inside v)

-- the text of the members that are left, and the closing brace
abbrev pub members_rest : Bool → List FlatMember → List ℕ
members_rest later list = members_left later (gathered list)

-- all items of an array are written, and all members of an object
pub array_written : (v left : Json) (vs : Items) (later : Bool) (old opened out new : List ℕ) → v ≡ array vs
    → left ≡ array no_items → opened ≡ old ++ 91 ∷ []
    → out ++ items_rest later left ≡ opened ++ items_rest false v
    → new ≡ out ++ 93 ∷ [] → new ≡ old ++ value_text v
array_written v left vs later old opened out new is none begun rest ended =
    ended ∙ ap (λ w. out ++ items_rest later w) (sym none) ∙ rest ∙ ap (λ t. t ++ items_rest false v) begun
    ∙ append_assoc old (91 ∷ []) (items_rest false v)
    ∙ subst (λ w. old ++ 91 ∷ items_rest false w ≡ old ++ value_text w) (sym is)
    (ap (λ t. old ++ t) (sym (array_left vs)))

pub object_written : (list left : List FlatMember) (later : Bool) (old opened out new : List ℕ) → left ≡ []
    → opened ≡ old ++ 123 ∷ [] → out ++ members_rest later left ≡ opened ++ members_rest false list
    → new ≡ out ++ 125 ∷ [] → new ≡ old ++ value_text (object (gathered list))
object_written list left later old opened out new none begun rest ended =
    ended ∙ ap (λ l. out ++ members_rest later l) (sym none) ∙ rest
    ∙ ap (λ t. t ++ members_rest false list) begun
    ∙ append_assoc old (123 ∷ []) (members_rest false list)
    ∙ ap (λ t. old ++ t) (sym (object_left (gathered list)))

regroup : (old c k t rest : List ℕ)
    → (((old ++ c) ++ (k ++ 58 ∷ [])) ++ t) ++ rest ≡ old ++ (c ++ (k ++ 58 ∷ (t ++ rest)))
regroup old c k t rest = simp append_assoc

-- one more member is written
pub next_listed : (later : Bool) (m : FlatMember) (list left : List FlatMember)
    (old divided named new total : List ℕ)
    → list ≡ m ∷ left → divided ≡ old ++ comma_if later
    → named ≡ divided ++ (quoted (encode_utf8_all (chars m.name.now)) ++ 58 ∷ [])
    → new ≡ named ++ value_text (flat_value m.value) → old ++ members_rest later list ≡ total
    → new ++ members_rest true left ≡ total
next_listed later m list left old divided named new total is e f h k =
    let name = quoted (encode_utf8_all (chars m.name.now)) in
    let text = value_text (flat_value m.value) in
    ap (λ xs. xs ++ members_rest true left)
    (h ∙ ap (λ xs. xs ++ text) (f ∙ ap (λ xs. xs ++ (name ++ 58 ∷ [])) e))
    ∙ regroup old (comma_if later) name text (members_rest true left)
    ∙ sym (ap (λ l. old ++ members_rest later l) is) ∙ k

pub left_height : (m : FlatMember) (list left : List FlatMember) (n : ℕ) → list ≡ m ∷ left
    → height (object (gathered list)) ≤ n → height (object (gathered left)) ≤ n
left_height m list left n is h =
    let e = ap (λ l. height (object (gathered l))) is in omega (arith, e, h)

pub first_height : (m : FlatMember) (list left : List FlatMember) (n : ℕ) → list ≡ m ∷ left
    → height (object (gathered list)) ≤ n → height (flat_value m.value) < n
first_height m list left n is h =
    let e = ap (λ l. height (object (gathered l))) is in omega (arith, h, e)
