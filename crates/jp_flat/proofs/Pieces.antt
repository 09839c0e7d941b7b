-- The texts of a document's nodes are UTF-8.
use Rattle.std.proofs.Common.{◌≡◌, ℕ, zero, suc, ◌+◌, ◌≤◌, Bool, true, false, cond, ◌&&◌, ◌||◌, ◌==◌, List}
use Rattle.std.proofs.Common.{[]}
use Rattle.std.proofs.Common.{◌∷◌, drop, get_or, Option, Some, None, option_and_then, refl}
use Rattle.std.proofs.Common.{sym, ap, ◌∙◌, arith, eqb-true, lt-ltb}
use Rattle.std.proofs.Props.{props}
use Rattle.std.proofs.lemmas.Bool.{and_parts, leb-true}
use Rattle.std.proofs.lemmas.Str.{is_utf8-from_IsUtf8}
use Rattle.std.specs.Char.{is_ascii_digit}
use Rattle.std.specs.List.{prefix_len}
use Rattle.std.specs.Prelude.{nat_le, nat_lt}
use Rattle.json.specs.Print.{IsNumber, IsPrintableOrBad, ArePrintableOrBad}
use Rattle.json.specs.Word.{after_digits, after_minus, after_sign, after_whole, after_fraction}
use Rattle.json.specs.Word.{after_exponent, after_number}
use Rattle.json.proofs.Found.{Some_inj}
use Rattle.json.proofs.Printed.Utf8.{are_ascii, IsUtf8-are_ascii}
use Rattle.jp_doc.proofs.LineTexts.{IsText, AreTexts}
use Rattle.jp_flat.specs.inner.Held.{HasPiece}
use Rattle.jp_flat_nodes.specs.Nodes.{Source, piece, token_at, tokens_at, IsWithin, AreWithin}
use Rattle.jp_flat_nodes.specs.declared.node.FlatNode.{FlatNode}
use Rattle.jp_flat_nodes.specs.declared.node.FlatNode.TheVariants.{Object, EndObject, Array, EndArray, Key}
use Rattle.jp_flat_nodes.specs.declared.node.FlatNode.TheVariants.{Text, EscapedKey, Escaped}
use Rattle.jp_flat_nodes.specs.declared.node.FlatNode.TheVariants.{Number, Truth, Null}

pub HasPiece-IsProp : (text : Source) (n : FlatNode) → IsProp (HasPiece text n)
HasPiece-IsProp text (Object end) = hlevel props
HasPiece-IsProp text EndObject = hlevel props
HasPiece-IsProp text (Array end) = hlevel props
HasPiece-IsProp text EndArray = hlevel props
HasPiece-IsProp text (Key from count) = hlevel props
HasPiece-IsProp text (Text from count) = hlevel props
HasPiece-IsProp text (EscapedKey from count) = hlevel props
HasPiece-IsProp text (Escaped from count) = hlevel props
HasPiece-IsProp text (Number from count) = hlevel props
HasPiece-IsProp text (Truth b) = hlevel props
HasPiece-IsProp text Null = hlevel props

both_true : (a b : Bool) → a ≡ true → b ≡ true → (a && b) ≡ true
both_true a b h k = rw (h, k) refl

-- ---- the text of a number is ASCII

digit_is_ascii : (x : ℕ) → is_ascii_digit x ≡ true → nat_lt x 128 ≡ true
digit_is_ascii x h =
    let most : x ≤ 57 = leb-true x 57 (and_parts (nat_le 48 x) (nat_le x 57) h).1 in
    lt-ltb x 128 (omega arith)

-- where what is left is ASCII, so is all
abbrev Eats : List ℕ → Option (List ℕ) → Type 0
Eats t o = (u : List ℕ) → o ≡ Some u → are_ascii u ≡ true → are_ascii t ≡ true

digits_if : (b : Bool) (x : ℕ) (xs : List ℕ) → is_ascii_digit x ≡ b
    → (are_ascii (drop (prefix_len is_ascii_digit xs) xs) ≡ true → are_ascii xs ≡ true)
    → are_ascii (drop (prefix_len is_ascii_digit (x ∷ xs)) (x ∷ xs)) ≡ true → are_ascii (x ∷ xs) ≡ true
digits_if true x xs e others h =
    let more : 1 + prefix_len is_ascii_digit xs ≡ suc (prefix_len is_ascii_digit xs) = omega arith in
    let count : prefix_len is_ascii_digit (x ∷ xs) ≡ suc (prefix_len is_ascii_digit xs) =
    ap (λ b. cond b (1 + prefix_len is_ascii_digit xs) 0) e ∙ more in
    both_true _ _ (digit_is_ascii x e) (others (ap are_ascii (ap (λ k. drop k (x ∷ xs)) (sym count)) ∙ h))
digits_if false x xs e others h =
    let none : prefix_len is_ascii_digit (x ∷ xs) ≡ 0 =
    ap (λ b. cond b (1 + prefix_len is_ascii_digit xs) 0) e in
    ap are_ascii (ap (λ k. drop k (x ∷ xs)) (sym none)) ∙ h

digits_before : (t : List ℕ) → are_ascii (drop (prefix_len is_ascii_digit t) t) ≡ true → are_ascii t ≡ true
digits_before [] h = refl
digits_before (x ∷ xs) h = digits_if (is_ascii_digit x) x xs refl (digits_before xs) h

digits_eat : (t : List ℕ) → Eats t (after_digits t)
digits_eat t u e h = go (prefix_len is_ascii_digit t == 0) e
  where
    go : (b : Bool) → cond b None (Some (drop (prefix_len is_ascii_digit t) t)) ≡ Some u → are_ascii t ≡ true
    go true e = absurd (cc)
    go false e = digits_before t (ap are_ascii (Some_inj _ _ e) ∙ h)

-- one byte that is known
byte_eats : (x c : ℕ) (xs : List ℕ) → nat_lt c 128 ≡ true → x ≡ c → are_ascii xs ≡ true
    → are_ascii (x ∷ xs) ≡ true
byte_eats x c xs small e h = both_true _ _ (ap (λ y. nat_lt y 128) e ∙ small) h

sign_eats : (t : List ℕ) → are_ascii (after_sign t) ≡ true → are_ascii t ≡ true
sign_eats [] h = refl
sign_eats (x ∷ xs) h = go (x == 45) (x == 43) refl refl h
  where
    go : (a b : Bool) → (x == 45) ≡ a → (x == 43) ≡ b → are_ascii (cond (a || b) xs (x ∷ xs)) ≡ true
        → are_ascii (x ∷ xs) ≡ true
    go true b e f h = byte_eats x 45 xs refl (eqb-true x 45 e) h
    go false true e f h = byte_eats x 43 xs refl (eqb-true x 43 f) h
    go false false e f h = h

minus_eats : (t : List ℕ) → are_ascii (after_minus t) ≡ true → are_ascii t ≡ true
minus_eats [] h = refl
minus_eats (x ∷ xs) h = go (x == 45) refl h
  where
    go : (a : Bool) → (x == 45) ≡ a → are_ascii (cond a xs (x ∷ xs)) ≡ true → are_ascii (x ∷ xs) ≡ true
    go true e h = byte_eats x 45 xs refl (eqb-true x 45 e) h
    go false e h = h

whole_eats : (t : List ℕ) → Eats t (after_whole t)
whole_eats [] u e h = refl
whole_eats (x ∷ xs) u e h = go (x == 48) refl e
  where
    go : (a : Bool) → (x == 48) ≡ a → cond a (Some xs) (after_digits (x ∷ xs)) ≡ Some u
        → are_ascii (x ∷ xs) ≡ true
    go true is e = byte_eats x 48 xs refl (eqb-true x 48 is) (ap are_ascii (Some_inj xs u e) ∙ h)
    go false is e = digits_eat (x ∷ xs) u e h

fraction_eats : (t : List ℕ) → Eats t (after_fraction t)
fraction_eats [] u e h = refl
fraction_eats (x ∷ xs) u e h = go (x == 46) refl e
  where
    go : (a : Bool) → (x == 46) ≡ a → cond a (after_digits xs) (Some (x ∷ xs)) ≡ Some u
        → are_ascii (x ∷ xs) ≡ true
    go true is e = byte_eats x 46 xs refl (eqb-true x 46 is) (digits_eat xs u e h)
    go false is e = ap are_ascii (Some_inj (x ∷ xs) u e) ∙ h

exponent_eats : (t : List ℕ) → Eats t (after_exponent t)
exponent_eats [] u e h = refl
exponent_eats (x ∷ xs) u e h = go (x == 101) (x == 69) refl refl e
  where
    go : (a b : Bool) → (x == 101) ≡ a → (x == 69) ≡ b
        → cond (a || b) (after_digits (after_sign xs)) (Some (x ∷ xs)) ≡ Some u → are_ascii (x ∷ xs) ≡ true
    go true b is f e =
        byte_eats x 101 xs refl (eqb-true x 101 is) (sign_eats xs (digits_eat (after_sign xs) u e h))
    go false true is f e =
        byte_eats x 69 xs refl (eqb-true x 69 f) (sign_eats xs (digits_eat (after_sign xs) u e h))
    go false false is f e = ap are_ascii (Some_inj (x ∷ xs) u e) ∙ h

by_fraction : (t : List ℕ) → option_and_then after_exponent (after_fraction t) ≡ Some [] → are_ascii t ≡ true
by_fraction t e = go (after_fraction t) refl e
  where
    go : (o : Option (List ℕ)) → after_fraction t ≡ o → option_and_then after_exponent o ≡ Some []
        → are_ascii t ≡ true
    go None is e = absurd (cc)
    go (Some u) is e = fraction_eats t u is (exponent_eats u [] e refl)

pub number_is_ascii : (s : List ℕ) → IsNumber s → are_ascii s ≡ true
unfolding after_number
number_is_ascii s e = go (after_whole (after_minus s)) refl e
  where
    go : (o : Option (List ℕ)) → after_whole (after_minus s) ≡ o
        → option_and_then after_exponent (option_and_then after_fraction o) ≡ Some [] → are_ascii s ≡ true
    go None is e = absurd (cc)
    go (Some u) is e = minus_eats s (whole_eats (after_minus s) u is (by_fraction u e))

-- ---- of each node

one_piece : (src : Source) (n : FlatNode) → IsText (token_at src n) → IsPrintableOrBad (token_at src n)
    → IsWithin src n → HasPiece src n
one_piece src (Object end) h p w = tt
one_piece src EndObject h p w = tt
one_piece src (Array end) h p w = tt
one_piece src EndArray h p w = tt
one_piece src (Key from count) h p w = ((omega (arith, w.0.before), is_utf8-from_IsUtf8 _ h), w)
one_piece src (Text from count) h p w = ((omega (arith, w.before), is_utf8-from_IsUtf8 _ h), w)
one_piece src (EscapedKey from count) h p w = (w, is_utf8-from_IsUtf8 _ h)
one_piece src (Escaped from count) h p w = (w, is_utf8-from_IsUtf8 _ h)
one_piece src (Number from count) h p w =
    (w, is_utf8-from_IsUtf8 _ (IsUtf8-are_ascii _ (number_is_ascii (piece src.line from count) p)))
one_piece src (Truth b) h p w = tt
one_piece src Null h p w = tt

pub pieces_are : (src : Source) (ns : List FlatNode) → AreTexts (tokens_at src ns)
    → ArePrintableOrBad (tokens_at src ns) → AreWithin src ns → (i : ℕ) → HasPiece src (get_or ns i Null)
pieces_are src [] h p w i = tt
pieces_are src (n ∷ ns) h p w zero = one_piece src n h.0 p.0 w.0
pieces_are src (n ∷ ns) h p w (suc i) = pieces_are src ns h.1 p.1 w.1 i
