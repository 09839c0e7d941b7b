-- The characters of a name, escaped, leave the count of brackets as it is.
use Rattle.std.proofs.Common.{◌≡◌, ℕ, ◌/◌, ◌%◌, ◌<◌, ◌==◌, false, [], ◌∷◌, codes, refl, arith}
use Rattle.std.proofs.lemmas.Bool.Decides.{nat_tests}
use Rattle.std.specs.List.{flat_map}
use Rattle.jp_tree.specs.Tree.{Text}
use Rattle.jp_tokens.specs.Depth.{Place, inside, step}
use Rattle.jp_node.specs.Path.{escaped, hex_digit}
use Rattle.jp_quote.proofs.Escapes.{by_character, control_text}
use Rattle.jp_path.proofs.Passing.{Passes, passes_none, passes_one, passes_on}

-- Between single quotes with one bracket open an escaped character leads back to there.
abbrev pub quoted_place : Place
quoted_place = inside 39 1

abbrev Stays : Text → Type 0
Stays t = Passes quoted_place t quoted_place

-- a backslash passes over what stands behind it
stays_escape : (letter : ℕ) → Stays (92 ∷ letter ∷ [])
stays_escape letter = record { leads = refl; flat = omega arith }

stays_bare : (c : ℕ) → (c == 39) ≡ false → (c == 92) ≡ false → Stays (c ∷ [])
stays_bare c q b =
    let e : step quoted_place c ≡ quoted_place = rw (b, q) refl in
    passes_one quoted_place quoted_place c e (omega arith) (omega arith)

hex_digit_bare : (d : ℕ) → d < 16 → Stays (hex_digit d ∷ [])
hex_digit_bare d h = stays_bare (hex_digit d) (grind (arith, nat_tests)) (grind (arith, nat_tests))

stays_control : (c : ℕ) → c < 32 → Stays (control_text c)
stays_control c h =
    passes_on quoted_place quoted_place quoted_place (codes "\\u00") (hex_digit (c / 16) ∷ hex_digit (c % 16)
    ∷ [])
    (record { leads = refl; flat = omega arith })
    (passes_on quoted_place quoted_place quoted_place (hex_digit (c / 16) ∷ []) (hex_digit (c % 16) ∷ [])
    (hex_digit_bare (c / 16) (omega arith)) (hex_digit_bare (c % 16) (omega arith)))

escaped_stays : (c : ℕ) → Stays (escaped c)
escaped_stays c =
    by_character Stays c
    (λ h. stays_escape 39) (λ h. stays_escape 92) (λ h. stays_escape 98) (λ h. stays_escape 116)
    (λ h. stays_escape 110) (λ h. stays_escape 102) (λ h. stays_escape 114)
    (stays_control c)
    (λ q b h. stays_bare c q b)

pub name_stays : (k : Text) → Passes quoted_place (flat_map escaped k) quoted_place
name_stays [] = passes_none quoted_place (omega arith)
name_stays (c ∷ k) = passes_on quoted_place quoted_place quoted_place (escaped c) (flat_map escaped k)
    (escaped_stays c) (name_stays k)
