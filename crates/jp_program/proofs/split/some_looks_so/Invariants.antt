use Rattle.std.proofs.Common.{◌≡◌, ℕ, false, Bor, List, take}
use Rattle.std.specs.List.{list_any}
use Rattle.jp_program.specs.Split.{looks_like_query}
use Rattle.jp_program.proofs.split.some_looks_so.Given as goal

abbrev pub invariant-loop-name : goal.invariant-loop-name
invariant-loop-name l =
    list_any (λ (name : Bor (List ℕ)). looks_like_query name.now) (take l.name-index l.names) ≡ false
