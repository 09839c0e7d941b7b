-- What a line is read as, where its tokens are plain.
use Rattle.std.proofs.Common.{◌≡◌, ℕ, ◌≤◌, true, false, List, [], ◌++◌, length, Option, Some, None, IsSome}
use Rattle.std.proofs.Common.{option_and_then, refl, sym, ap, ◌∙◌, subst, append-nil, le-leb, arith}
use Rattle.std.proofs.lemmas.Bool.{leb-true}
use Rattle.std.specs.Prelude.{nat_le}
use Rattle.std.specs.Str.{IsUtf8}
use Rattle.json.specs.Token.{Token}
use Rattle.json.specs.Lex.{tokens}
use Rattle.json.specs.Json as text
use Rattle.json.specs.Tree as tree
use Rattle.json.specs.Tree.{json_tokens}
use Rattle.json.proofs.Printed.Trees.{value-json_tokens}
use Rattle.json.proofs.Unique.Spelling.{tokens-document, value-json_tokens_back}
use Rattle.json.proofs.Nesting.{value-depth}
use Rattle.serde_json.specs.Data.{Data}
use Rattle.serde_json.specs.Read.{of_json, read, max_depth}
use Rattle.jp_doc.specs.Json.{json_of}
use Rattle.jp_doc.specs.Reading.{max_line, unless_long, document_from, reading}
use Rattle.jp_doc.specs.Tree.{tree_json}
use Rattle.jp_doc.proofs.ReadLaws.{reading_read}
use Rattle.jp_doc.specs.ReadingIn.{has_long_number}
use Rattle.jp_doc.proofs.LineTexts.{names_are_texts}
use Rattle.jp_doc.proofs.TreeAgrees.{same_value}
use Rattle.jp_doc.proofs.TreeNesting.{shallow_tree, tree_has_numbers}
use Rattle.jp_flat.specs.Flat.{value_read, value_at}
use Rattle.jp_flat.specs.inner.Plain.{is_flat, is_small, is_plain_from, is_plain, is_fit}
use Rattle.jp_flat.proofs.FewTokens.{few_tokens}
use Rattle.jp_flat.proofs.Fit.{fit, plain_is_short}
use Rattle.jp_flat.proofs.Good.{is_good}
use Rattle.jp_flat.proofs.Numbers.{both, both_back}
use Rattle.jp_flat.proofs.PlainTokens.{plain_tokens, make, whole_numbers}

-- a value that the tokens begin with, with fit numbers and names
pub record Flat (ts : List Token) : Type 0 where
  pub source : text.Json
  pub rest : List Token
  pub spelled : ts ≡ json_tokens source ++ rest
  pub nests : tree.depth source ≤ 127
  pub few : length (json_tokens source) ≤ max_line
  pub fit : is_fit source ≡ true

pub read_of_flat : (ts : List Token) (f : Flat ts) → text.value max_depth ts ≡ Some (f.source, f.rest)
read_of_flat ts f = ap (text.value max_depth) f.spelled ∙ value-json_tokens f.source max_depth f.rest f.nests

pub flat_is : (ts : List Token) → Flat ts → is_flat ts ≡ true
flat_is ts f = ap is_small (read_of_flat ts f) ∙ both_back _ _ (le-leb _ max_line f.few) f.fit

opened : (ts : List Token) (o : Option (text.Json × List Token)) → text.value max_depth ts ≡ o
    → is_small o ≡ true → Flat ts
opened ts None e h = absurd (cc)
opened ts (Some p) e h =
    let b = both (nat_le (length (json_tokens p.0)) max_line) _ h in
    record {
      source = p.0;
      rest = p.1;
      spelled = value-json_tokens_back max_depth ts p.1 p.0 e;
      nests = value-depth max_depth ts p.1 p.0 e;
      few = leb-true _ max_line b.0;
      fit = b.1;
    }

pub flat_of : (ts : List Token) → is_flat ts ≡ true → Flat ts
flat_of ts h = opened ts (text.value max_depth ts) refl h

-- the value is that of the tree
pub value_is : (ts : List Token) (f : Flat ts) → value_at ts ≡ tree_json f.source
value_is ts f = ap value_read (read_of_flat ts f)

from_plain : (d : Data) → is_good d ≡ true → document_from (Some d) ≡ unless_long (json_of d)
from_plain d p = rw (whole_numbers d p) refl

whole_text : (line : List ℕ) (j : text.Json) (d : Data) → tokens line ≡ json_tokens j → tree.depth j ≤ 127
    → of_json j ≡ Some d → read line ≡ Some d
whole_text line j d e shallow made =
    ap (λ ts. option_and_then of_json (option_and_then (λ p. text.if_last p.0 p.1) (text.value max_depth ts)))
    (e ∙ sym (append-nil (json_tokens j)))
    ∙ ap (λ o. option_and_then of_json (option_and_then (λ p. text.if_last p.0 p.1) o))
    (value-json_tokens j max_depth [] shallow)
    ∙ made

-- the tree of a line is fit, where its numbers are within the limits
pub fit_tree : (line : List ℕ) (j : text.Json) → text.document line ≡ Some j → IsUtf8 line
    → tree.depth j ≤ 127 → has_long_number j ≡ false → is_fit j ≡ true
fit_tree line j e u shallow short =
    let found = shallow_tree line j e shallow in
    fit j (names_are_texts line j u found) (tree_has_numbers line j found) short

-- what is found of a line whose tokens are plain
pub record ReadFlat (line : List ℕ) : Type 0 where
  pub flat : Flat (tokens line)
  pub reads : reading line ≡ unless_long (value_at (tokens line))

-- of a line that holds a plain value
pub of_tree : (line : List ℕ) (j : text.Json) → text.document line ≡ Some j → IsUtf8 line
    → length line ≤ max_line → tree.depth j ≤ 127 → is_plain j ≡ true → ReadFlat line
of_tree line j e u short nests plain =
    let spelled = tokens-document line j e in
    let whole : tokens line ≡ json_tokens j ++ [] = spelled ∙ sym (append-nil (json_tokens j)) in
    let m = make j plain in
    let f : Flat (tokens line) = record {
      source = j;
      rest = [];
      spelled = whole;
      nests = nests;
      few = omega (arith, ap length spelled, few_tokens line, short);
      fit = fit_tree line j e u nests (plain_is_short j plain);
    } in
    let names = names_are_texts line j u (shallow_tree line j e nests) in
    let same : tree_json j ≡ json_of m.found =
    same_value j m.found names m.made (whole_numbers m.found m.plain) in
    record {
      flat = f;
      reads = reading_read line m.found short (u, whole_text line j m.found spelled nests m.made)
          ∙ from_plain m.found m.plain ∙ ap unless_long (sym (value_is (tokens line) f ∙ same));
    }

of_document : (line : List ℕ) (j : text.Json) → text.document line ≡ Some j → IsUtf8 line
    → length line ≤ max_line → is_plain_from 0 (tokens line) ≡ true → ReadFlat line
of_document line j e u short plain =
    let whole : tokens line ≡ json_tokens j ++ [] =
    tokens-document line j e ∙ sym (append-nil (json_tokens j)) in
    let p = plain_tokens j [] (subst (λ ts. is_plain_from 0 ts ≡ true) whole plain) in
    of_tree line j e u short p.0 p.1

of_some : (line : List ℕ) (o : Option text.Json) → text.document line ≡ o → IsSome o → IsUtf8 line
    → length line ≤ max_line → is_plain_from 0 (tokens line) ≡ true → ReadFlat line
of_some line None e h u short plain = absurd (cc)
of_some line (Some j) e h u short plain = of_document line j e u short plain

pub read_flat : (line : List ℕ) → IsSome (text.document line) → IsUtf8 line → length line ≤ max_line
    → is_plain_from 0 (tokens line) ≡ true → ReadFlat line
read_flat line h u short plain = of_some line (text.document line) refl h u short plain
