-- A name without control characters is a field.
use Rattle.std.proofs.Common.{◌≡◌, ◌∙◌, ℕ, suc, ◌+◌, ◌<◌, Bool, true, false, List, [], ◌∷◌, ap, arith, cond}
use Rattle.std.proofs.Common.{eqb, get_or, refl, sym, true≢false}
use Rattle.std.proofs.lemmas.Bool.{ne_eqb}
use Rattle.std.proofs.lemmas.List.Elements.{All-from_get_or}
use Rattle.std.proofs.lemmas.List.Sums.{sum_by-cons}
use Rattle.std.proofs.lemmas.Str.{NoCharPasses-byte, encodes-chars}
use Rattle.std.specs.Char.{is_control}
use Rattle.std.specs.List.{All}
use Rattle.std.specs.Str.{chars, IsUtf8, NoCharPasses, NonePass}
use Rattle.jp_output.specs.Fields.{times}
use Rattle.jp_program.specs.Wanted.{IsName}

none_pass : (p : ℕ → Bool) (cs : List ℕ) → All (λ c. p c ≡ false) cs → NonePass p cs
none_pass p [] h = tt
none_pass p (c ∷ cs) h = (h 0 c (omega arith), none_pass p cs (λ k d here. h (suc k) d (omega arith)))

-- a byte that is none of these is counted nowhere
uncounted : (b : ℕ) (bytes : List ℕ) → All (λ c. eqb c b ≡ false) bytes → times b bytes ≡ 0
uncounted b [] h = refl
uncounted b (c ∷ cs) h = sum_by-cons (λ c. cond (eqb c b) 1 0) c cs
    ∙ ap (λ t. cond t 1 0 + times b cs) (h 0 c (omega arith))
    ∙ ap (λ n. 0 + n) (uncounted b cs (λ k d here. h (suc k) d (omega arith)))

-- a byte below 128 is a character, and so not that of a control character
is_other : (b c : ℕ) → is_control b ≡ true → b < 128 → (c < 128 → is_control c ≡ false) → eqb c b ≡ false
is_other b c control small none = ne_eqb c b (λ is.
    true≢false (sym control ∙ ap is_control (sym is) ∙ none (omega (arith, is))))

pub lacks : (b : ℕ) (name : List ℕ) → is_control b ≡ true → b < 128 → IsUtf8 name → IsName name
    → times b name ≡ 0
lacks b name control small text named =
    let none : NoCharPasses is_control name =
    (chars name, encodes-chars name text, none_pass is_control (chars name) named) in
    uncounted b name (All-from_get_or (λ c. eqb c b ≡ false) name 0
    (λ i here. is_other b (get_or name i 0) control small (NoCharPasses-byte is_control name i none here)))
