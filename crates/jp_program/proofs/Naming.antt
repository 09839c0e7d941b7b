-- Names of files, none of whose characters is a control character.
use Rattle.std.proofs.Common.{◌≡◌, ◌∙◌, ℕ, ◌<◌, Bool, true, false, List, [], length, get_or, sym, ap, subst}
use Rattle.std.proofs.Common.{not, codes, unwrap_or, refl, arith, true≢false}
use Rattle.std.proofs.Math.ListN.{get_or-map}
use Rattle.std.proofs.lemmas.List.{length-map}
use Rattle.std.proofs.lemmas.List.Elements.{All-get_or, All-map, All-weaker}
use Rattle.std.proofs.lemmas.List.Sums.{AllPass-from_list_all}
use Rattle.std.specs.Borrow.{Bor}
use Rattle.std.specs.Char.{is_control}
use Rattle.std.specs.List.{All, list_all}
use Rattle.std.specs.Str.{chars}
use Rattle.clap.specs.Walk.{Text, Row, texts, all_of}
use Rattle.jp_program.specs.Wanted.{IsName, SaysFiles}

-- a name has a control character at this place
pub controlled : {P : Type 0} (t : List ℕ) (i c : ℕ) → i < length t → c ≡ get_or t i c → is_control c ≡ true
    → All (λ d. is_control d ≡ false) t → P
controlled t i c lt at on h =
    let off : is_control c ≡ false = subst (λ d. is_control d ≡ false) (sym at)
    (All-get_or (λ d. is_control d ≡ false) t i c lt h) in
    absurd (true≢false (sym on ∙ off))

-- names that pass a test of each character

not_so : (b : Bool) → not b ≡ true → b ≡ false
not_so true e = absurd (true≢false (sym e))
not_so false e = refl

is_name : (t : Text) → list_all (λ c. not (is_control c)) (chars t) ≡ true → IsName t
is_name t e = All-weaker (λ c. not (is_control c) ≡ true) (λ c. is_control c ≡ false)
    (λ c. not_so (is_control c)) (chars t) (AllPass-from_list_all (λ c. not (is_control c)) (chars t) e)

pub all_names : (files : List Text)
    → list_all (λ t. list_all (λ c. not (is_control c)) (chars t)) files ≡ true → All IsName files
all_names files e = All-weaker (λ t. list_all (λ c. not (is_control c)) (chars t) ≡ true) IsName is_name files
    (AllPass-from_list_all (λ t. list_all (λ c. not (is_control c)) (chars t)) files e)

-- what is said of the files, by the names that were given

unmapped : (given : List (Bor Text)) → All IsName (texts given) → All (λ name. IsName name.now) given
unmapped given h k d lt = subst IsName (get_or-map (λ (s : Bor Text). s.now) given k d)
    (h k d.now (omega (arith, lt, length-map given (λ (s : Bor Text). s.now))))

module _ (rows : List Row) (given : List (Bor Text))
    (are : unwrap_or (all_of (codes "file") rows) [] ≡ texts given) where
  pub files_said : (files : List (Bor Text)) → files ≡ given → All (λ name. IsName name.now) given
      → SaysFiles rows (texts files)
  files_said files same names = (
    are ∙ ap texts (sym same),
    subst (λ (l : List (Bor Text)). All IsName (texts l)) (sym same)
        (All-map IsName (λ (s : Bor Text). s.now) given names),
  )

  pub files_unsaid : (All (λ name. IsName name.now) given → ⊥) → (files : List Text) → SaysFiles rows files
      → ⊥
  files_unsaid none files s = none (unmapped given (subst (All IsName) (sym s.0 ∙ are) s.1))
