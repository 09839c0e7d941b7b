-- The value that a place in a flat document stands for, and what is told of it.
use Rattle.std.specs.Prelude.{◌≡◌, ℕ, ◌-◌, List, ◌∷◌, drop, length, Option, Some, None}
use Rattle.std.specs.Prelude.{encode_utf8_all}
use Rattle.std.specs.Str.{chars}
use Rattle.json.specs.Print.{quoted}
use Rattle.json.specs.Token.{Token, begin_array, begin_object}
use Rattle.jp_doc.specs.Json as json
use Rattle.jp_doc.specs.Json.{Json, null, truth, number, text, array, object, Items, Members, item_list}
use Rattle.jp_doc.specs.Tree.{text_number}
use Rattle.jp_flat.specs.Document.{document_tokens}
use Rattle.jp_flat.specs.Flat.{value_at}
use Rattle.jp_flat.specs.Members.{entries_at}
use Rattle.jp_flat.specs.declared.value.FlatItems.{FlatItems}
use Rattle.jp_flat.specs.declared.value.FlatMembers.{FlatMembers}
use Rattle.jp_flat.specs.declared.value.FlatNumber.{FlatNumber}
use Rattle.jp_flat.specs.declared.value.FlatValue.{FlatValue}
use Rattle.jp_flat.specs.declared.value.FlatKind.{FlatKind}
use Rattle.jp_flat.specs.declared.value.FlatKind.TheVariants.{Null, Truth, Number, Text, Array, Object}
use Rattle.jp_number.specs.Number as numbers

-- the tokens from the value's first on
abbrev pub tokens_of : FlatValue → List Token
tokens_of v = drop v.at (document_tokens v.document.now)

-- the value
abbrev pub flat_value : FlatValue → Json
flat_value v = value_at (tokens_of v)

-- the text that a value is, if it is one
abbrev pub text_in : Json → Option json.Text
text_in (text s) = Some s
text_in null = None
text_in (truth b) = None
text_in (number x) = None
text_in (array vs) = None
text_in (object ms) = None

-- the value is a text, and these are its bytes between quotes, as they are printed
abbrev pub IsQuotedText : List ℕ → Json → Type 0
IsQuotedText s v = (t : json.Text) × (v ≡ text t) × (s ≡ quoted (encode_utf8_all t))

-- the number that a value is, if it is one
abbrev pub number_in : Json → Option numbers.Number
number_in (number x) = Some x
number_in null = None
number_in (truth b) = None
number_in (text s) = None
number_in (array vs) = None
number_in (object ms) = None

-- the number that a text of the line is
abbrev pub flat_number : FlatNumber → numbers.Number
flat_number n = text_number n.digits.now

-- how many items an array has, and 0 of any other value
abbrev pub item_count : Json → ℕ
item_count (array vs) = length (item_list vs)
item_count null = 0
item_count (truth b) = 0
item_count (number x) = 0
item_count (text s) = 0
item_count (object ms) = 0

-- a value that is no array, and one that is no object
abbrev pub IsNoArray : Json → Type 0
IsNoArray (array vs) = ⊥
IsNoArray _ = Unit {0}

abbrev pub IsNoObject : Json → Type 0
IsNoObject (object ms) = ⊥
IsNoObject _ = Unit {0}

-- the array of the items that are left, and how many nodes are
abbrev pub items_value : FlatItems → Json
items_value i = value_at (begin_array ∷ drop i.at (document_tokens i.document.now))

abbrev pub items_left : FlatItems → ℕ
items_left i = length (document_tokens i.document.now) - i.at

-- The object of the members that are left, these members in the order of the line, and how many nodes are.
abbrev pub members_value : FlatMembers → Json
members_value m = value_at (begin_object ∷ drop m.at (document_tokens m.document.now))

abbrev pub entries : FlatMembers → List (json.Text × Json)
entries m = entries_at (drop m.at (document_tokens m.document.now))

abbrev pub members_left : FlatMembers → ℕ
members_left m = length (document_tokens m.document.now) - m.at

-- what a kind tells of the value
abbrev pub IsKind : FlatKind → Json → Type 0
IsKind Null v = v ≡ null
IsKind (Truth b) v = v ≡ truth b
IsKind (Number n) v = v ≡ number (flat_number n)
IsKind (Text s) v = v ≡ text (chars s.now)
IsKind (Array i) v = (vs : Items) × (v ≡ array vs) × (items_value i ≡ v)
IsKind (Object m) v = (ms : Members) × (v ≡ object ms) × (members_value m ≡ v)
