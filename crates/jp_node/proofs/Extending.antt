-- Appending keeps what stood there at the front.
use Rattle.std.proofs.Common.{ℕ, List, ◌++◌, ap, ◌∙◌}
use Rattle.std.proofs.Common.{append_assoc}
use Rattle.jp_node.specs.Appended.{Extends}

pub extends_on : (a b d : List ℕ) → Extends a b → Extends b d → Extends a d
extends_on a b d h g = (h.0 ++ g.0, g.1 ∙ ap (λ xs. xs ++ g.0) h.1 ∙ append_assoc a h.0 g.0)
