-- Names as characters and as bytes.
use Rattle.std.proofs.Common.{◌≡◌, ◌≢◌, ℕ, Bool, true, false, IsTrue, List, [], ◌∷◌, ◌++◌, nat_lt, refl}
use Rattle.std.proofs.Common.{sym, ap, ◌∙◌}
use borrow.Author.Tests.{ltb-true}
use Rattle.std.specs.List.{list_all}
use Rattle.std.specs.Str.{chars, IsUtf8, bytes_eq}
use Rattle.std.proofs.lemmas.Bool.{and_parts}
use Rattle.std.proofs.lemmas.Str.{encodes-chars, encode_ascii}
use Rattle.std.proofs.lemmas.Slice.Eq.{bytes_eq-Decides}
use lib.Utf8.{encodes}

encodes-ascii : (t : List ℕ) → IsTrue (list_all (λ c. nat_lt c 128) t) → encodes t ≡ t
encodes-ascii [] h = refl
encodes-ascii (c ∷ t) h =
    let parts = and_parts (nat_lt c 128) (list_all (λ b. nat_lt b 128) t) h in
    ap (λ s. s ++ encodes t) (encode_ascii c (ltb-true c 128 parts.0))
    ∙ ap (λ s. c ∷ s) (encodes-ascii t parts.1)

decided : (b : Bool) (P : Type 0) → (b ≡ true → P) → (P → ⊥) → b ≡ false
decided true P h other = absurd (other (h refl))
decided false P h other = refl

-- a text whose bytes are not those of an ASCII name has not its characters
pub is_not : (bs name : List ℕ) → IsUtf8 bs → IsTrue (list_all (λ c. nat_lt c 128) name) → bs ≢ name
    → bytes_eq (chars bs) name ≡ false
is_not bs name u ascii other =
    decided (bytes_eq (chars bs) name) (chars bs ≡ name) ((bytes_eq-Decides (chars bs) name).0)
    (λ e. other (sym (encodes-chars bs u) ∙ ap encodes e ∙ encodes-ascii name ascii))
