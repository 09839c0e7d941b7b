use Rattle.std.proofs.Common.{ℕ, [], ◌∷◌, ◌++◌, false, refl}
use Rattle.std.specs.Prelude.{codes}
use Rattle.jp_pattern.specs.Pattern.{Text, Pattern, letter, class, one}
use Rattle.jp_pattern.specs.Samples.{sign, branch}
use Rattle.jp_pattern.proofs.ExampleLists.{all_read, none_read}
use Rattle.jp_pattern.proofs.PatternsRead.{unread}
use Rattle.jp_pattern.proofs.PatternsSound.{read_sound}
use Rattle.jp_pattern.proofs.examples.characters.Goals as goal

abbrev itself : ℕ → Text
itself c = c ∷ []

abbrev escape : ℕ → Text
escape c = codes "\\" ++ (c ∷ [])

abbrev in_brackets : ℕ → Text
in_brackets c = codes "[" ++ (c ∷ codes "]")

abbrev lone : ℕ → Pattern
lone c = branch (sign c ∷ [])

pub returns : goal.returns
returns c = record {
  escaped = all_read escape lone (codes "()*+-.?[\\]^{|}") refl;
  line_feed = read_sound _ _ refl;
  carriage_return = read_sound _ _ refl;
  tab = read_sound _ _ refl;
  no_escapes = none_read escape (codes "abdeswxuvpPNRT019/,:;<=>_ ") refl;
  bare = all_read itself lone (codes "aZ09^$-,/ !~&_") refl;
  not_bare = none_read itself (codes "()*+?[\\]{}") refl;
  surrogates = none_read itself (55296 ∷ 57343 ∷ 1114112 ∷ []) refl;
  beside_surrogates = all_read itself lone (55295 ∷ 57344 ∷ 1114111 ∷ []) refl;
  in_classes = all_read in_brackets (λ c. branch (letter (class false (one c ∷ [])) ∷ []))
      (codes "()*+.?{|}$,-a") refl;
  not_in_classes = none_read in_brackets (codes "[\\]^") refl;
  hyphen_and_caret = read_sound _ _ refl;
  caret_and_hyphen = read_sound _ _ refl;
  caret_range = read_sound _ _ refl;
  range_of_one = read_sound _ _ refl;
  hyphen_last = read_sound _ _ refl;
  category_last = unread _ refl;
}
