-- What fills the buffers of a reader once a line is read: a working file, which nobody has to believe.
use Rattle.std.specs.Prelude.{ℕ, List, Result}
use Rattle.jp_doc.specs.Json.{Json}
use Rattle.jp_doc.specs.declared.fault.DocFault.{DocFault}
use Rattle.jp_flat.specs.Flat.{value_at}
use Rattle.jp_flat.specs.inner.Held.{IsReadAs}
use Rattle.jp_flat.specs.declared.lines.Room.{Room}
use Rattle.jp_flat.specs.declared.lines.Texts.{Texts}
use Rattle.jp_flat.specs.declared.lines.Texts.TheVariants.{InLine, InRoom}
use Rattle.jp_flat_nodes.specs.Nodes.{Source, source, tokens_at}

-- the texts of the room alone
abbrev pub room_source : Room → Source
room_source room = source room.flat.texts.items room.flat.texts.items

-- where the texts stand
abbrev pub texts_at : Texts → List ℕ → Room → Source
texts_at InLine line room = source line room.flat.texts.items
texts_at InRoom line room = room_source room

-- the value of the nodes
abbrev pub filled_value : Texts → List ℕ → Room → Json
filled_value texts line room = value_at (tokens_at (texts_at texts line room) room.flat.nodes.items)

-- the nodes are those of a document, whose value is the answer where no array of it is too long
abbrev pub IsFilled : Result Json DocFault → Texts → List ℕ → Room → Type 0
IsFilled answer texts line room = IsReadAs answer (texts_at texts line room) room.flat.nodes.items
