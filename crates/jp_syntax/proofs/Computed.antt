-- What is read of a text that is written out, as what it spells: each example computes.
use Rattle.std.proofs.Common.{◌≡◌, ℕ, Bool, true, false, not, ◌==◌, IsTrue, length, List, [], ◌∷◌, ◌++◌}
use Rattle.std.proofs.Common.{Option, Some, None, refl, ap, sym, ◌∙◌, subst, if◌then◌else◌}
use Rattle.std.specs.Prelude.{is_none}
use Rattle.std.specs.List.{AllByRecursion, list_all}
use Rattle.std.proofs.lemmas.Bool.{and_parts, not-true, eqb-true}
use Rattle.std.proofs.lemmas.List.{append-nil, nil_from_length}
use Rattle.jp_tree.specs.Tree.{Text, Query}
use Rattle.jp_tree.specs.Characters.{is_quote}
use Rattle.jp_tree.specs.Strings.{IsString, quoted}
use Rattle.jp_tree.specs.Numbers.{IsInt, IsNumber}
use Rattle.jp_tree.specs.Spelling.{Spells}
use Rattle.jp_syntax.specs.Examples.{NoneSpells, AreInts, AreNoInts, AreNumbers, AreNoNumbers, NoneIsString}
use Rattle.jp_tokens.specs.Reading.{Outcome, int_at, number_at, string_at}
use Rattle.jp_syntax.specs.inner.Reading.{read}
use Rattle.jp_syntax.proofs.ReadSound.{read_sound}
use Rattle.jp_syntax.proofs.OneTree.{none_spelled}
use Rattle.jp_tokens.proofs.Fronts.{Front}
use Rattle.jp_tokens.proofs.LeavesRead.{Itself, int_sound, int_whole, number_sound, number_whole}
use Rattle.jp_tokens.proofs.LeavesRead.{string_sound, string_whole}

pub spelled : (t : Text) (q : Query) → read (length t) t ≡ Some q → Spells t q
spelled t q e = read_sound (length t) t q e

-- whether nothing is read
abbrev pub reads_none : Text → Bool
reads_none t = is_none (read (length t) t)

none_read : (o : Option Query) → IsTrue (is_none o) → o ≡ None
none_read None h = refl
none_read (Some q) h = absurd cc

pub refused : (ts : List Text) → IsTrue (list_all reads_none ts) → NoneSpells ts
unfolding NoneSpells
refused [] h = tt
refused (t ∷ ts) h =
    let parts = and_parts (reads_none t) (list_all reads_none ts) h in
    (none_spelled t (none_read (read (length t) t) parts.0), refused ts parts.1)

-- ---- parts of numbers, and string literals

-- whether all of the text is read
abbrev pub all_read : Outcome Text → Bool
all_read None = false
all_read (Some r) = length r.1 == 0

at_end : {Part : Text → Type 0} (t : Text) (o : Outcome Text)
    → ((x rest : Text) → o ≡ Some (x, rest) → Front (Itself Part) t x rest) → IsTrue (all_read o) → Part t
at_end t None sound h = absurd cc
at_end {Part} t (Some r) sound h =
    let f = sound r.0 r.1 refl in
    let none : r.1 ≡ [] = nil_from_length r.1 (eqb-true (length r.1) 0 h) in
    let same : t ≡ f.front = f.whole ∙ ap (λ (v : Text). f.front ++ v) none ∙ append-nil f.front in
    subst Part (sym same) f.part.0

module _ (Part : Text → Type 0) (read_at : Text → Outcome Text)
    (sound : (t x rest : Text) → read_at t ≡ Some (x, rest) → Front (Itself Part) t x rest)
    (whole : (t : Text) → Part t → read_at (t ++ []) ≡ Some (t, []))
  where
    pub each_is : (ts : List Text) → IsTrue (list_all (λ t. all_read (read_at t)) ts) → AllByRecursion Part ts
    each_is [] h = tt
    each_is (t ∷ ts) h =
        let parts = and_parts (all_read (read_at t)) (list_all (λ t. all_read (read_at t)) ts) h in
        (at_end t (read_at t) (sound t) parts.0, each_is ts parts.1)

    none_is : (t : Text) → all_read (read_at t) ≡ false → Part t → ⊥
    none_is t e h =
        let k = ap all_read (ap read_at (sym (append-nil t)) ∙ whole t h) in
        let none : false ≡ true = sym e ∙ k in
        absurd cc

    pub none_are : (ts : List Text) → IsTrue (list_all (λ t. not (all_read (read_at t))) ts)
        → AllByRecursion (λ t. Part t → ⊥) ts
    none_are [] h = tt
    none_are (t ∷ ts) h =
        let parts = and_parts (not (all_read (read_at t))) (list_all (λ t. not (all_read (read_at t))) ts)
        h in
        (none_is t (not-true (all_read (read_at t)) parts.0), none_are ts parts.1)

int_alone : (t : Text) → IsInt t → int_at (t ++ []) ≡ Some (t, [])
int_alone t h = int_whole t [] h refl

number_alone : (t : Text) → IsNumber t → number_at (t ++ []) ≡ Some (t, [])
number_alone t h = number_whole t [] h refl

pub ints : (ts : List Text) → IsTrue (list_all (λ t. all_read (int_at t)) ts) → AreInts ts
unfolding AreInts
ints = each_is IsInt int_at int_sound int_alone

pub no_ints : (ts : List Text) → IsTrue (list_all (λ t. not (all_read (int_at t))) ts) → AreNoInts ts
unfolding AreNoInts
no_ints = none_are IsInt int_at int_sound int_alone

pub numbers : (ts : List Text) → IsTrue (list_all (λ t. all_read (number_at t)) ts) → AreNumbers ts
unfolding AreNumbers
numbers = each_is IsNumber number_at number_sound number_alone

pub no_numbers : (ts : List Text) → IsTrue (list_all (λ t. not (all_read (number_at t))) ts) → AreNoNumbers ts
unfolding AreNoNumbers
no_numbers = none_are IsNumber number_at number_sound number_alone

-- what a string literal in front has as its value
abbrev pub text_read : Text → Outcome Text
text_read [] = None
text_read (c ∷ t) = if is_quote c then string_at c t else None

pub string : (quote : ℕ) (t value : Text) → IsTrue (is_quote quote) → string_at quote t ≡ Some (value, [])
    → IsString (quote ∷ t) value
string quote t value q e =
    let f = string_sound quote t value [] q e in
    let same : quote ∷ t ≡ f.front = f.whole ∙ append-nil f.front in
    subst (λ (v : Text). IsString v value) (sym same) f.part

string_read : (t value : Text) → IsString t value → text_read t ≡ Some (value, [])
string_read s v (quoted quote t value q ps) = rw q (string_whole quote t value [] q ps)

no_string : (t value : Text) → all_read (text_read t) ≡ false → IsString t value → ⊥
no_string t value e h =
    let k = ap all_read (string_read t value h) in
    let none : false ≡ true = sym e ∙ k in
    absurd cc

pub no_strings : (ts : List Text) → IsTrue (list_all (λ t. not (all_read (text_read t))) ts) → NoneIsString ts
unfolding NoneIsString
no_strings [] h = tt
no_strings (t ∷ ts) h =
    let parts = and_parts (not (all_read (text_read t))) (list_all (λ t. not (all_read (text_read t))) ts)
    h in
    ((λ value. no_string t value (not-true (all_read (text_read t)) parts.0)), no_strings ts parts.1)
