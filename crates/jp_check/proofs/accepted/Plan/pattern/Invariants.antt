use Rattle.std.proofs.Common.{◌≡◌, ℕ, ◌<◌, get_or}
use Rattle.std.specs.Str.{chars}
use Rattle.jp_check.specs.Known.{known_texts}
use Rattle.jp_check.proofs.accepted.Plan.pattern.Given as goal

abbrev pub invariant-loop-known : goal.invariant-loop-known
invariant-loop-known l =
    (k : ℕ) → k < l.known-index → get_or (known_texts l.known-items) k (chars l.text) ≡ chars l.text → ⊥
