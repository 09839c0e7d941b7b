-- A step of a proof, which nobody has to believe: nodes of which there is one at most.
use Rattle.std.specs.Prelude.{◌≡◌, List, [], ◌∷◌, Option, Some, None}
use Rattle.jp_doc.specs.Json.{Json}
use Rattle.jp_doc.specs.Location.{Location, Node, node}

-- one node of this value, wherever it is, or none
abbrev pub AreOne : List Node → Option Json → Type 0
AreOne ns (Some v) = (at : Location) × (ns ≡ node at v ∷ [])
AreOne ns None = ns ≡ []
