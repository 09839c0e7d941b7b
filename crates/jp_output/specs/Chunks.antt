-- Bytes in chunks.
use Rattle.std.specs.Prelude.{ℕ, List, Vec}
use Rattle.std.specs.List.{flat_map}
use Rattle.std.specs.declared.alloc.Global.{Global}

-- the bytes of all chunks, one after another
abbrev pub bytes_in : List (Vec ℕ Global) → List ℕ
bytes_in chunks = flat_map (λ chunk. chunk.items) chunks
