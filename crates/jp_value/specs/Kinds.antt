-- What a filter compares and hands to functions (RFC 9535, 2.3.5): a value, or nothing.
use Rattle.std.specs.Prelude.{Option, option_map}
use Rattle.jp_doc.specs.Json.{Json}
use Rattle.jp_node.specs.Inside.{kind_value}
use Rattle.jp_node.specs.declared.part.Kind.{Kind}

-- the value that is given, or nothing
abbrev pub given_value : Option Kind → Option Json
given_value given = option_map kind_value given
