-- What the numbers in a value are, however deep they stand: all of them whole, or each written as a number.
use Rattle.json.specs.Print.{IsNumber}
use Rattle.jp_doc.specs.Json.{Json, null, truth, number, text, array, object, Items, no_items, add_item}
use Rattle.jp_doc.specs.Json.{Members, no_members, add_member}
use Rattle.jp_number.specs.Number.{Number, whole, written}

-- it holds of each number in the value
abbrev mutual
  pub AllNumbers : (Number → Type 0) → Json → Type 0
  AllNumbers P null = Unit {0}
  AllNumbers P (truth b) = Unit {0}
  AllNumbers P (number x) = P x
  AllNumbers P (text s) = Unit {0}
  AllNumbers P (array vs) = AllNumbersOfItems P vs
  AllNumbers P (object ms) = AllNumbersOfMembers P ms

  pub AllNumbersOfItems : (Number → Type 0) → Items → Type 0
  AllNumbersOfItems P no_items = Unit {0}
  AllNumbersOfItems P (add_item v vs) = AllNumbers P v × AllNumbersOfItems P vs

  pub AllNumbersOfMembers : (Number → Type 0) → Members → Type 0
  AllNumbersOfMembers P no_members = Unit {0}
  AllNumbersOfMembers P (add_member k v ms) = AllNumbers P v × AllNumbersOfMembers P ms

-- a number is whole
abbrev pub IsWhole : Number → Type 0
IsWhole (whole z) = Unit {0}
IsWhole (written s) = ⊥

-- a number is whole, or its text is one of RFC 8259 (6)
abbrev pub IsJsonNumber : Number → Type 0
IsJsonNumber (whole z) = Unit {0}
IsJsonNumber (written s) = IsNumber s

abbrev pub HasWholeNumbers : Json → Type 0
HasWholeNumbers = AllNumbers IsWhole

abbrev pub HasJsonNumbers : Json → Type 0
HasJsonNumbers = AllNumbers IsJsonNumber
