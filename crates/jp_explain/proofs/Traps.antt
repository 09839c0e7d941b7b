-- Literal patterns that are traps.
use Rattle.std.proofs.Common.{◌≡◌, ℕ, List, [], ◌∷◌, ◌++◌, true, false, Option, Some, None, refl, inl, inr}
use Rattle.std.proofs.Common.{◌<◌, ◌+◌, ◌∙◌, length, get_or, take, sym, ap, subst, arith}
use Rattle.std.proofs.lemmas.List.{get_or-map, length-map, take_more}
use Rattle.std.specs.Prelude.{option_map, is_some}
use Rattle.std.specs.Arc.{arc_value}
use Rattle.jp_tree.specs.Tree.{Text}
use Rattle.jp_tree.specs.View.{text_of}
use Rattle.jp_automaton.specs.Held.{IsRead}
use Rattle.jp_automaton.specs.declared.pattern.Pattern.{Pattern as Held}
use Rattle.jp_compiled.specs.declared.known.KnownPattern.{KnownPattern}
use Rattle.jp_compiled.proofs.PatternSets.{read_had}
use Rattle.jp_check.specs.Known.{known_texts}
use Rattle.jp_explain.specs.PatternNotes.{IsPattern, HasAnchor, IsTrap, IsRightTrap, AreNotes, told, last_or}
use Rattle.jp_explain.specs.Slashes.{HasSlashes, slash_next, slashes_from}
use Rattle.jp_explain.specs.declared.slashes.Slashes.{Slashes}
use Rattle.jp_explain.specs.declared.pattern_note.PatternNote.{PatternNote}

pub last_pushed : (d : ℕ) (t : Text) (c : ℕ) → last_or d (t ++ c ∷ []) ≡ c
last_pushed d [] c = refl
last_pushed d (x ∷ t) c = last_pushed x t c

-- what was read of a text
read_is : {A : Type 0} (f : A → Held) (t : Text) (o : Option A) → IsRead t (option_map f o) → is_some o ≡ true
    → IsPattern t
read_is f t (Some a) is_read e = (is_read.0, is_read.1)
read_is f t None is_read e = absurd (cc)

read_is_none : {A : Type 0} (f : A → Held) (t : Text) (o : Option A) → IsRead t (option_map f o)
    → is_some o ≡ false → IsPattern t → ⊥
read_is_none f t (Some a) is_read e p = absurd (cc)
read_is_none f t None is_read e p = is_read p.0 p.1

pub known_is : (k : KnownPattern) → is_some k.pattern ≡ true → IsPattern (text_of k.text)
known_is k some = read_is arc_value (text_of k.text) k.pattern
    (read_had (text_of k.text) (option_map arc_value k.pattern) k.read) some

pub known_is_none : (k : KnownPattern) → is_some k.pattern ≡ false → IsPattern (text_of k.text) → ⊥
known_is_none k some = read_is_none arc_value (text_of k.text) k.pattern
    (read_had (text_of k.text) (option_map arc_value k.pattern) k.read) some

-- a pattern without anchors and slashes is no trap
pub no_trap : (t : Text) → IsPattern t → (HasAnchor t → ⊥) → (HasSlashes t → ⊥) → IsTrap t → ⊥
no_trap t p bare unslashed (inl other) = other p
no_trap t p bare unslashed (inr (inl anchor)) = bare anchor
no_trap t p bare unslashed (inr (inr slashes)) = unslashed slashes

-- how far a text comes with one character more
pub slashes_pushed : (s : Slashes) (t : Text) (c : ℕ)
    → slashes_from s (t ++ c ∷ []) ≡ slash_next (slashes_from s t) c
slashes_pushed s [] c = refl
slashes_pushed s (x ∷ t) c = slashes_pushed (slash_next s x) t c

-- a note behind others
pub told_of : (ts : List Text) (ns ms : List PatternNote) (n : PatternNote) (t : Text) → text_of n.pattern ≡ t
    → ms ≡ ns ++ n ∷ [] → IsRightTrap t n.trap → AreNotes ts ns → AreNotes (ts ++ t ∷ []) ms
told_of ts ns ms n t same more right notes =
    let as_it_is : AreNotes (ts ++ text_of n.pattern ∷ []) (ns ++ n ∷ []) =
    told ts ns n notes (subst (λ (u : Text). IsRightTrap u n.trap) (sym same) right) in
    let of_text : AreNotes (ts ++ t ∷ []) (ns ++ n ∷ []) =
    subst (λ (u : Text). AreNotes (ts ++ u ∷ []) (ns ++ n ∷ [])) same as_it_is in
    subst (λ (m : List PatternNote). AreNotes (ts ++ t ∷ []) m) (sym more) of_text

-- one text more of those that are known
pub text_next : (ks : List KnownPattern) (i : ℕ) (k : KnownPattern) → i < length ks → k ≡ get_or ks i k
    → take (i + 1) (known_texts ks) ≡ take i (known_texts ks) ++ text_of k.text ∷ []
text_next ks i k within is =
    let f : KnownPattern → Text = λ k'. text_of k'.text in
    take_more (known_texts ks) i (text_of k.text) (omega (arith, length-map ks f))
    ∙ ap (λ (t : Text). take i (known_texts ks) ++ t ∷ []) (get_or-map f ks i k (text_of k.text) within
    ∙ ap f (sym is))
