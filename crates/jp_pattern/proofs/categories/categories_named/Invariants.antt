use Rattle.std.proofs.Common.{◌≡◌, drop, map}
use Rattle.jp_pattern.specs.inner.Reading.{categories_named, row_named}
use Rattle.jp_pattern.proofs.categories.categories_named.Given as goal

abbrev pub invariant-loop-known : goal.invariant-loop-known
invariant-loop-known l =
    row_named l.name (map (λ row. (row.0.now, row.1.now)) (drop l.known-index l.known-items))
    ≡ categories_named l.name
