-- Words that ask for a literal are none that `clap` takes.
use Rattle.std.proofs.Common.{◌≡◌, Bool, true, false, List, [], ◌∷◌, Some, codes, refl, sym, ap, subst}
use Rattle.std.proofs.Common.{◌∙◌}
use Rattle.std.specs.Prelude.{is_some, Option, None, option_map, if◌then◌else◌}
use Rattle.std.specs.Borrow.{Bor}
use Rattle.std.specs.Str.{bytes_eq}
use Rattle.std.proofs.lemmas.Slice.Eq.{bytes_eq-Decides}
use Rattle.clap.specs.Walk.{Text}
use Rattle.clap.specs.declared.error.kind.ErrorKind.TheVariants.{UnknownArgument}
use Rattle.clap.proofs.OnLiterals.{clap_on_literals}
use Rattle.jp_program.specs.CommandLine.{AsksToQuote, refusals, to_quote}

unknown : (name value : Text) → refusals (name ∷ codes "--quote" ∷ value ∷ []) ≡ UnknownArgument ∷ []
unfolding clap_on_literals refusals
unknown name value = refl

is_option : (b : Bool) (value : Text) → is_some (if b then Some value else None) ≡ true → b ≡ true
is_option true value e = refl
is_option false value e = e

pub not_taken : (words : List Text) → AsksToQuote words → refusals words ≡ [] → ⊥
not_taken [] h e = absurd cc
not_taken (name ∷ []) h e = absurd cc
not_taken (name ∷ option ∷ []) h e = absurd cc
not_taken (name ∷ option ∷ value ∷ []) h e =
    let is : option ≡ codes "--quote" = (bytes_eq-Decides option (codes "--quote")).0
    (is_option (bytes_eq option (codes "--quote")) value h) in
    let none : refusals (name ∷ codes "--quote" ∷ value ∷ []) ≡ [] =
    subst (λ (o : Text). refusals (name ∷ o ∷ value ∷ []) ≡ []) is e in
    let bad = sym (unknown name value) in absurd cc
not_taken (name ∷ option ∷ value ∷ next ∷ rest) h e = absurd cc

-- what the code finds in them says that they ask for one
pub asks_so : (words : List Text) (found : Option (Bor Text)) (value : Bor Text)
    → option_map (λ s. s.now) found ≡ to_quote words → found ≡ Some value → AsksToQuote words
asks_so words found value is some = ap is_some (sym is ∙ ap (option_map (λ s. s.now)) some)
