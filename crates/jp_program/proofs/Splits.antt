-- Which names look like a part of a query.
use Rattle.std.proofs.Common.{◌≡◌, ◌∙◌, ℕ, ◌<◌, ◌≤◌, ◌||◌, Bool, true, false, Bor, List, [], ◌∷◌, ◌++◌}
use Rattle.std.proofs.Common.{length, eqb, get_or, take, ap, arith, refl, subst, sym}
use Rattle.std.proofs.lemmas.Bool.Decides.{Decides-eqb, same_from_decides}
use Rattle.std.proofs.lemmas.List.{take_all}
use Rattle.std.proofs.lemmas.List.Folds.{list_any_at}
use Rattle.std.proofs.lemmas.Str.{byte_from_char, char_from_byte, encodes-chars, length-le-encodes}
use Rattle.std.specs.Bool.{Decides}
use Rattle.std.specs.List.{list_any}
use Rattle.std.specs.Prelude.{String, string_bytes}
use Rattle.std.specs.Str.{chars, encode_utf8_all, IsUtf8}
use Rattle.std.specs.declared.alloc.Global.{Global}
use Rattle.clap.specs.Walk.{texts}
use Rattle.jp_tree.specs.View.{text_of}
use Rattle.jp_explain.specs.Picture.{IsPicture}
use Rattle.jp_program.specs.Split.{begins_with_root, question}
use Rattle.jp_program.specs.Told.{IsExplained}
use Rattle.jp_program.specs.Wanted.{Wanted}

-- a test of what references lead to is one of the references
of_texts : (f : List ℕ → Bool) (names : List (Bor (List ℕ)))
    → list_any (λ (name : Bor (List ℕ)). f name.now) names ≡ list_any f (texts names)
of_texts f [] = refl
of_texts f (name ∷ names) = ap (λ t. f name.now || t) (of_texts f names)

pub some_of : (f : List ℕ → Bool) (names : List (Bor (List ℕ))) (i : ℕ) (d : Bor (List ℕ)) → i < length names
    → f (get_or names i d).now ≡ true → true ≡ list_any f (texts names)
some_of f names i d here is =
    sym (list_any_at (λ (name : Bor (List ℕ)). f name.now) names i d here is) ∙ of_texts f names

pub none_of : (f : List ℕ → Bool) (names : List (Bor (List ℕ))) (i : ℕ) → length names ≤ i
    → list_any (λ (name : Bor (List ℕ)). f name.now) (take i names) ≡ false → false ≡ list_any f (texts names)
none_of f names i all none = sym none
    ∙ ap (list_any (λ (name : Bor (List ℕ)). f name.now)) (take_all i names all) ∙ of_texts f names

-- a text begins with $ exactly where its first byte is that of $
begins_as : (cs bytes : List ℕ) → encode_utf8_all cs ≡ bytes → eqb (get_or bytes 0 0) 36 ≡ begins_with_root cs
begins_as [] bytes e = ap (λ b. eqb (get_or b 0 0) 36) (sym e)
begins_as (c ∷ cs) bytes e =
    let as_long = length-le-encodes (c ∷ cs) in
    let some : 0 < length bytes = omega (arith, as_long, ap length e) in
    let by_byte : Decides (eqb (get_or bytes 0 0) 36) (c ≡ 36) = (
      λ same. let is = (Decides-eqb (get_or bytes 0 0) 36).0 same in
          char_from_byte bytes (encode_utf8_all cs) c (sym e) (omega (arith, is)) some ∙ is,
      λ is. (Decides-eqb (get_or bytes 0 0) 36).1
          (byte_from_char bytes (encode_utf8_all cs) c (sym e) (omega (arith, is)) ∙ is),
    ) in
    same_from_decides _ _ by_byte (Decides-eqb c 36)

pub begins_byte : (bytes : List ℕ) → IsUtf8 bytes → eqb (get_or bytes 0 0) 36 ≡ begins_with_root (chars bytes)
begins_byte bytes utf8 = begins_as (chars bytes) bytes (encodes-chars bytes utf8)

-- the lines of a refused query, and the question behind them, by another name for what is wanted
pub explained : (v w : Wanted) → v ≡ w → (lines given : String Global) → IsPicture v.query (text_of lines)
    → string_bytes given ≡ string_bytes lines ++ question v.query v.files → IsExplained w (string_bytes given)
explained v w same lines given shown e =
    subst (λ (x : Wanted). IsExplained x (string_bytes given)) same (string_bytes lines, shown, e)
