-- Texts among those that were read.
use Rattle.std.proofs.Common.{◌≡◌, ℕ, ◌<◌, Bool, true, false, List, length, get_or, sym, ap, ◌∙◌, subst}
use Rattle.std.proofs.Common.{arith}
use Rattle.std.specs.Prelude.{string_bytes, Contains, option_map}
use Rattle.std.specs.Arc.{arc_value}
use Rattle.std.specs.Str.{chars, IsUtf8, bytes_eq}
use Rattle.std.proofs.lemmas.List.{get_or-map, length-map}
use Rattle.std.proofs.lemmas.Slice.Eq.{bytes_eq-Decides}
use Rattle.std.proofs.lemmas.Str.{encodes-chars, IsUtf8-string_bytes}
use lib.Utf8.{encodes}
use Rattle.jp_tree.specs.View.{text_of}
use Rattle.jp_automaton.specs.Held.{IsRead}
use Rattle.jp_check.specs.Known.{known_texts}
use Rattle.jp_compiled.specs.declared.known.KnownPattern.{KnownPattern}
use Rattle.jp_compiled.proofs.PatternSets.{read_had}

-- texts of the same characters have the same bytes
same_bytes : (bs ds : List ℕ) → IsUtf8 bs → IsUtf8 ds → chars bs ≡ chars ds → bs ≡ ds
same_bytes bs ds u v e = sym (encodes-chars bs u) ∙ ap encodes e ∙ encodes-chars ds v

-- the text at a place
known_at : (ks : List KnownPattern) (i : ℕ) (k : KnownPattern) (d : List ℕ) → i < length ks
    → k ≡ get_or ks i k → get_or (known_texts ks) i d ≡ text_of k.text
known_at ks i k d within is = get_or-map (λ (k' : KnownPattern). text_of k'.text) ks i k d within
    ∙ ap (λ (k' : KnownPattern). text_of k'.text) (sym is)

pub known_contains : (ks : List KnownPattern) (i : ℕ) (k : KnownPattern) (text : List ℕ) (r : Bool)
    → i < length ks → k ≡ get_or ks i k → r ≡ bytes_eq (string_bytes k.text) text → r ≡ true
    → Contains (known_texts ks) (chars text)
known_contains ks i k text r within is compared e = (
  i,
  omega (arith, length-map ks (λ (k' : KnownPattern). text_of k'.text)),
  known_at ks i k
      (chars text) within is
      ∙ ap chars ((bytes_eq-Decides (string_bytes k.text) text).0 (sym compared ∙ e)),
)

pub known_is_other : (ks : List KnownPattern) (i : ℕ) (k : KnownPattern) (text : List ℕ) (r : Bool)
    → IsUtf8 text → i < length ks → k ≡ get_or ks i k → r ≡ bytes_eq (string_bytes k.text) text
    → r ≡ false → get_or (known_texts ks) i (chars text) ≡ chars text → ⊥
known_is_other ks i k text r utf8 within is compared e found =
    let same : string_bytes k.text ≡ text = same_bytes _ text (IsUtf8-string_bytes k.text) utf8
    (sym (known_at ks i k (chars text) within is) ∙ found) in
    let equal : r ≡ true = compared ∙ (bytes_eq-Decides (string_bytes k.text) text).1 same in
    absurd cc

-- what was read of the text at a place where it is this one
pub known_read : (k : KnownPattern) (text : List ℕ) (r : Bool) → r ≡ bytes_eq (string_bytes k.text) text
    → r ≡ true → IsRead (chars text) (option_map arc_value k.pattern)
known_read k text r compared e =
    subst (λ bs. IsRead (chars bs) (option_map arc_value k.pattern))
    ((bytes_eq-Decides (string_bytes k.text) text).0 (sym compared ∙ e))
    (read_had (text_of k.text) (option_map arc_value k.pattern) k.read)
