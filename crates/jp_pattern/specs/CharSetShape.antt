-- Which text spells which set of characters.
use Rattle.std.specs.Prelude.{◌≢◌, ℕ, ◌≤◌, Bool, true, false, not, ◌&&◌, ◌==◌, List, [], ◌∷◌, ◌++◌, IsTrue}
use Rattle.std.specs.Prelude.{codes}
use Rattle.std.specs.List.{list_any}
use Rattle.unicode.specs.declared.properties.GeneralCategory.{GeneralCategory}
use Rattle.jp_pattern.specs.Pattern.{Text, Element, CharSet}
use Rattle.jp_pattern.specs.CharSets.{is_scalar}
use Rattle.jp_pattern.specs.CategoryNames.{IsCategoryName}

-- the character is one of these (RFC 9485, 3)
abbrev pub is_among : Text → ℕ → Bool
is_among t c = list_any (λ x. x == c) t

-- a character that stands for itself outside a class (RFC 9485, 3: NormalChar)
abbrev pub is_normal : ℕ → Bool
is_normal c = is_scalar c && not (is_among (codes "()*+.?[\\]{|}") c)

-- a character that stands for itself in a class (RFC 9485, 3: CCchar)
abbrev pub is_class_normal : ℕ → Bool
is_class_normal c = is_scalar c && not (is_among (codes "-[\\]") c)

-- a character that stands for itself behind a backslash (RFC 9485, 3: SingleCharEsc)
abbrev pub is_escaped : ℕ → Bool
is_escaped c = is_among (codes "()*+-.?[\\]^{|}") c

-- the code of `-`, which a class may begin or end with, bare (RFC 9485, 3: charClassExpr)
abbrev pub hyphen : ℕ
hyphen = 0x2d

-- the code of `^`, which negates a class that begins with it (RFC 9485, 3: charClassExpr)
abbrev pub caret : ℕ
caret = 0x5e

-- an escape of one character, and that character; `\n`, `\r` and `\t` are LF, CR and the tab (RFC 9485, 3:
-- SingleCharEsc)
pub data IsSingle : Text → ℕ → Type 0 where
  line_feed : IsSingle (codes "\\n") 0x0a
  carriage_return : IsSingle (codes "\\r") 0x0d
  tab : IsSingle (codes "\\t") 0x09
  itself : (c : ℕ) → IsTrue (is_escaped c) → IsSingle (codes "\\" ++ (c ∷ [])) c

-- `\p{..}` or, where the flag is set, `\P{..}`, and its categories (RFC 9485, 3: charClassEsc)
pub data IsCategory : Text → Bool → List GeneralCategory → Type 0 where
  inside : {t : Text} {cs : List GeneralCategory} → IsCategoryName t cs →
      IsCategory (codes "\\p{" ++ (t ++ codes "}")) false cs
  outside : {t : Text} {cs : List GeneralCategory} → IsCategoryName t cs →
      IsCategory (codes "\\P{" ++ (t ++ codes "}")) true cs

-- one character of a class, bare or escaped (RFC 9485, 3: CCchar)
pub data IsInner : Text → ℕ → Type 0 where
  bare : (c : ℕ) → IsTrue (is_class_normal c) → IsInner (c ∷ []) c
  escaped : {t : Text} {c : ℕ} → IsSingle t c → IsInner t c

-- an element of a class: a character, a range that does not end below its start, or a category (RFC 9485,
-- 3: CCE1)
pub data IsElement : Text → Element → Type 0 where
  single : {t : Text} {c : ℕ} → IsInner t c → IsElement t (Element.one c)
  span : {s t : Text} {low high : ℕ} → IsInner s low → IsInner t high → low ≤ high →
      IsElement (s ++ (codes "-" ++ t)) (Element.range low high)
  categorical : {t : Text} {negated : Bool} {cs : List GeneralCategory} → IsCategory t negated cs →
      IsElement t (Element.of_category negated cs)

-- any number of elements, and then a bare `-` or nothing (RFC 9485, 3: charClassExpr)
pub data AreElements : Text → List Element → Type 0 where
  none : AreElements [] []
  last_hyphen : AreElements (codes "-") (Element.one hyphen ∷ [])
  more : {s t : Text} {x : Element} {xs : List Element} → IsElement s x → AreElements t xs →
      AreElements (s ++ t) (x ∷ xs)

-- a bare `-` or an element, and then the others (RFC 9485, 3: charClassExpr)
pub data IsListing : Text → List Element → Type 0 where
  first_hyphen : {t : Text} {xs : List Element} → AreElements t xs →
      IsListing (codes "-" ++ t) (Element.one hyphen ∷ xs)
  first_element : {s t : Text} {x : Element} {xs : List Element} → IsElement s x → AreElements t xs →
      IsListing (s ++ t) (x ∷ xs)

-- `[..]` or, where the flag is set, `[^..]`. A `^` directly after `[` always negates, so a class that is
-- not negated begins otherwise (RFC 9485, 3: charClassExpr).
pub data IsClass : Text → Bool → List Element → Type 0 where
  listed : {c : ℕ} {t : Text} {xs : List Element} → c ≢ caret → IsListing (c ∷ t) xs →
      IsClass (codes "[" ++ ((c ∷ t) ++ codes "]")) false xs
  negated : {t : Text} {xs : List Element} → IsListing t xs → IsClass (codes "[^" ++ (t ++ codes "]")) true xs

-- a normal character, an escape, `.`, a category or a class (RFC 9485, 3: atom)
pub data IsCharSet : Text → CharSet → Type 0 where
  normal : (c : ℕ) → IsTrue (is_normal c) → IsCharSet (c ∷ []) (CharSet.only c)
  escape : {t : Text} {c : ℕ} → IsSingle t c → IsCharSet t (CharSet.only c)
  any : IsCharSet (codes ".") CharSet.dot
  property : {t : Text} {negated : Bool} {cs : List GeneralCategory} → IsCategory t negated cs →
      IsCharSet t (CharSet.category negated cs)
  brackets : {t : Text} {negated : Bool} {xs : List Element} → IsClass t negated xs →
      IsCharSet t (CharSet.class negated xs)
