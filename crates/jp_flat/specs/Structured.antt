-- Structured values, which are arrays and objects (RFC 8259, 1), and the members that have such values.
use Rattle.std.specs.Prelude.{Bool, true, false, if◌then◌else◌}
use Rattle.jp_doc.specs.Json.{Json, null, truth, number, text, array, object}
use Rattle.jp_doc.specs.Json.{Members, no_members, add_member}

abbrev pub is_structured : Json → Bool
is_structured (array vs) = true
is_structured (object ms) = true
is_structured null = false
is_structured (truth b) = false
is_structured (number x) = false
is_structured (text s) = false

-- the members whose values are structured
abbrev pub structured : Members → Members
structured no_members = no_members
structured (add_member k v ms) = if is_structured v then add_member k v (structured ms) else structured ms
