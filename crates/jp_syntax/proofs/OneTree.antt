-- A text spells at most one tree, and whether it spells one is decided.
use Rattle.std.proofs.Common.{◌≡◌, length, arith, Option, Some, None, refl, sym, ◌∙◌, ◌⊎◌, inl, inr}
use Rattle.std.proofs.lemmas.Option.{same_Some}
use Rattle.jp_tree.specs.Tree.{Text, Query}
use Rattle.jp_tree.specs.Spelling.{Spells}
use Rattle.jp_syntax.specs.inner.Reading.{read}
use Rattle.jp_syntax.proofs.ReadSound.{read_sound}
use Rattle.jp_syntax.proofs.ReadWhole.{read_whole}

pub one_tree : (t : Text) (p q : Query) → Spells t p → Spells t q → p ≡ q
one_tree t p q a b = same_Some p q (sym (read_whole (length t) t p (omega arith) a)
    ∙ read_whole (length t) t q (omega arith) b)

-- where nothing is read, nothing is spelled
pub none_spelled : (t : Text) → read (length t) t ≡ None → (q : Query) → Spells t q → ⊥
none_spelled t e q h = let k : ◌≡◌ {A = Option Query} None (Some q) = sym e
    ∙ read_whole (length t) t q (omega arith) h in absurd cc

by_reading : (t : Text) (o : Option Query) → read (length t) t ≡ o → ((q : Query) × Spells t q)
    ⊎ ((q : Query) → Spells t q → ⊥)
by_reading t (Some q) e = inl (q, read_sound (length t) t q e)
by_reading t None e = inr (none_spelled t e)

pub decided : (t : Text) → ((q : Query) × Spells t q) ⊎ ((q : Query) → Spells t q → ⊥)
decided t = by_reading t (read (length t) t) refl
