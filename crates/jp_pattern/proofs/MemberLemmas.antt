-- Repetitions of one character, and the parts of texts over one set.
use Rattle.std.proofs.Common.{◌≡◌, ℕ, suc, ◌≤◌, List, [], ◌∷◌, ◌++◌, length, Option, IsTrue, refl, sym, ap}
use Rattle.std.proofs.Common.{subst, ◌∙◌, append-nil}
use Rattle.std.specs.List.{concat, AllByRecursion}
use Rattle.jp_pattern.specs.Pattern.{Text, CharSet, Pattern, letter, seq, empty}
use Rattle.jp_pattern.specs.CharSets.{in_set}
use Rattle.jp_pattern.specs.Language.{AtMost, Repeated, Member}

-- a branch of one piece is that piece
pub from_lone : (p : Pattern) (t : Text) → Member (seq p empty) t → Member p t
from_lone p t (u, v, e, m, z) =
    let whole : t ≡ u = e ∙ ap (λ w. u ++ w) z ∙ append-nil u in
    subst (Member p) (sym whole) m

-- each character of the text is in the set
abbrev pub EachIn : CharSet → Text → Type 0
EachIn set t = AllByRecursion (λ c. IsTrue (in_set set c)) t

joined_letters : (set : CharSet) (parts : List Text) → AllByRecursion (Member (letter set)) parts
    → EachIn set (concat parts) × (length (concat parts) ≡ length parts)
joined_letters set [] all = (tt, refl)
joined_letters set (t ∷ parts) ((c, e, h), all) =
    let r = joined_letters set parts all in rw e ((h, r.0), ap suc r.1)

-- a repetition of one set has the texts over it of the lengths in the bounds
pub from_letters : (set : CharSet) (least : ℕ) (most : Option ℕ) (t : Text)
    → Repeated (Member (letter set)) least most t →
    EachIn set t × (least ≤ length t) × AtMost most (length t)
from_letters set least most t (parts, all, low, high, e) =
    let r = joined_letters set parts all in
    let same : length t ≡ length parts = ap length e ∙ r.1 in (
      subst (EachIn set) (sym e) r.0,
      subst (λ n. least ≤ n) (sym same) low,
      subst (AtMost most) (sym same)
          high,
    )

pub each_split : (set : CharSet) (s t : Text) → EachIn set (s ++ t) → EachIn set s × EachIn set t
each_split set [] t h = (tt, h)
each_split set (c ∷ s) t h = let r = each_split set s t h.1 in ((h.0, r.0), r.1)
