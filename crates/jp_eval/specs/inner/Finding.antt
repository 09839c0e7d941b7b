-- A step of a proof, which nobody has to believe: that a part of the walk finds nodes.
use Rattle.std.specs.Prelude.{◌≡◌, List}
use Rattle.jp_doc.specs.Location.{Node}
use Rattle.jp_found.specs.Kept.{kept, put_found, plus}
use Rattle.jp_found.specs.declared.found.Found.{Found}

-- what is kept has taken these nodes
abbrev pub Finds : {V K : Type 0} → (V → K) → (K → Node → K) → Found V → Found V → List Node → Type 0
Finds keeps put old new ns = kept keeps new ≡ plus (put_found put) (kept keeps old) ns
