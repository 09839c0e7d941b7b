-- Lists of texts that are patterns, or none, by reading each of them.
use Rattle.std.proofs.Common.{◌≡◌, ℕ, List, [], ◌∷◌, map, Some, None}
use Rattle.std.specs.List.{AllByRecursion}
use Rattle.jp_pattern.specs.Pattern.{Text, Pattern}
use Rattle.jp_pattern.specs.Samples.{IsNoPattern}
use Rattle.jp_pattern.specs.Shape.{Shapes}
use Rattle.jp_pattern.specs.inner.Reading.{read}
use Rattle.jp_pattern.proofs.PatternsRead.{unread}
use Rattle.jp_pattern.proofs.PatternsSound.{read_sound}

pub all_read : (text : ℕ → Text) (tree : ℕ → Pattern) (cs : List ℕ)
    → map (λ c. read (text c)) cs ≡ map (λ c. Some (tree c)) cs
    → AllByRecursion (λ c. Shapes (text c) (tree c)) cs
all_read text tree [] e = tt
all_read text tree (c ∷ cs) e = (read_sound (text c) (tree c) (cc e), all_read text tree cs (cc e))

pub none_read : {A : Type 0} (text : A → Text) (xs : List A)
    → map (λ x. read (text x)) xs ≡ map (λ x. None) xs
    → AllByRecursion (λ x. IsNoPattern (text x)) xs
none_read text [] e = tt
none_read text (x ∷ xs) e = (unread (text x) (cc e), none_read text xs (cc e))
