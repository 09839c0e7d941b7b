-- What a visitor of locations keeps.
use Rattle.std.specs.Prelude.{List, [], ◌∷◌, ◌++◌}
use Rattle.jp_doc.specs.Location.{Location, Node}

-- where the nodes are, and this one too
abbrev pub put_location : List Location → Node → List Location
put_location locations n = locations ++ n.location ∷ []
