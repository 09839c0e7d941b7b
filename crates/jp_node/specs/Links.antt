-- The location that a list of links leads to.
use Rattle.std.specs.Prelude.{ℕ, List, map, encode_utf8_all}
use Rattle.std.specs.List.{flat_map}
use Rattle.std.specs.Str.{chars}
use Rattle.jp_doc.specs.Location as at
use Rattle.jp_doc.specs.Location.{Location}
use Rattle.jp_node.specs.Path.{step_text}
use Rattle.jp_node.specs.declared.link.Link.{Link}
use Rattle.jp_node.specs.declared.link.Link.TheVariants.{Name, Index}

abbrev pub link_step : Link → at.Step
link_step (Name s) = at.name (chars s.now)
link_step (Index i) = at.index i

abbrev pub link_steps : List Link → Location
link_steps links = map link_step links

-- the bytes that one link adds to a path, and those of several
abbrev pub link_bytes : Link → List ℕ
link_bytes l = encode_utf8_all (step_text (link_step l))

abbrev pub links_bytes : List Link → List ℕ
links_bytes links = flat_map link_bytes links
