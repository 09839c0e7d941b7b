-- A JSON text, by the grammar of the JSON crate, is one document.
use Rattle.std.proofs.Common.{◌≡◌, ℕ, ◌==◌, ◌||◌, Bool, true, false}
use Rattle.std.proofs.Common.{List, [], ◌∷◌, ◌++◌}
use Rattle.std.proofs.Common.{refl, sym, ◌∙◌, ap, subst, Option, Some, None}
use Rattle.std.proofs.Common.{if◌then◌else◌}
use Rattle.json.specs.Token.{Token}
use Rattle.json.specs.Text.{content, plain}
use Rattle.json.specs.Word.{is_operator, word}
use Rattle.json.specs.Lex.{Lexeme, token}
use Rattle.json.specs.Lex.{string_token}
use Rattle.json.specs.Lex.{Mode, between, in_word, in_string, in_escape, lex, fresh, after_value}
use Rattle.json.specs.Lex.{begins_colon, place_token, punctuate}
use Rattle.jp_documents.specs.Documents.{CutAt, cut_between, cut_at, onto, onto_parts, behind, by_turn}
use Rattle.jp_documents.specs.Documents.{turn, is_blank_byte, is_opening, is_quote}
use Rattle.jp_documents.specs.Documents.{place_behind_first}
use Rattle.jp_doc.specs.Feeding.{last_line}
use Rattle.jp_doc.specs.Tree.{tree_of}
use Rattle.jp_documents.specs.Documents.{all_documents}
use Rattle.std.specs.List.{list_all}
use Rattle.jp_documents.specs.Whole.{IsOneDocument, IsJsonText}
use Rattle.json.specs.Json.{Json}
use Rattle.jp_documents.specs.declared.place.Lead.TheVariants.{MayBegin}
use Rattle.jp_documents.specs.declared.place.Place.{Place}
use Rattle.jp_documents.specs.declared.place.Place.TheVariants.{Between, InWord, InBrackets, InText, InEscape}
use Rattle.jp_documents.specs.declared.place.Turn.TheVariants.{Skipped, Taken, Behind}
use Rattle.std.proofs.Common.{◌⊎◌, inl, inr, append-nil}
use Rattle.jp_documents.proofs.CutLaws.{join_parts, further, cut_further}
use Rattle.jp_documents.proofs.ScanLaws.{first_between}
use Rattle.jp_documents.proofs.NestLaws.{Nests, IsWhole, whole}
use Rattle.jp_documents.proofs.QuietLaws.{◌Bool-cases, quiet, quiet_word, content_quiet, Scalar, IsBad}
use Rattle.jp_documents.proofs.QuietLaws.{word_fine}
use Rattle.jp_documents.proofs.LexLaws.{blanks_cut, Closes, closes_on, closes_last, at_code}
use Rattle.jp_documents.proofs.LexLaws.{operator_cases, space_cases, IsOther, byte_cases, not_open}
use Rattle.jp_documents.proofs.LexLaws.{punct_token, along, none_left}
use Rattle.jp_documents.proofs.LexLaws.{lex_blank}
use Rattle.jp_documents.proofs.InsideLaws.{lex_other, word_rest, lex_string, quiet_rest, text_other}
use Rattle.jp_documents.proofs.InsideLaws.{text_cases, escape_rest, sim}

-- ---- whole texts

-- how a text is cut_between that is one document: it has ended, or it is a number or a literal that may go on
abbrev Ends : Place → List ℕ → List ℕ → Type 0
Ends p text d = (cut_at p text ≡ record { ended = d ∷ []; open_document = []; place = Between })
    ⊎ (cut_at p text ≡ record { ended = []; open_document = d; place = InWord })

record One (text : List ℕ) : Type 0 where
  whole : IsOneDocument text
  ends : Ends Between text whole.document

-- a text that begins with a byte of a document
closed_document : (x : ℕ) (xs : List ℕ) (p : Place) → turn Between x ≡ Taken p → Closes p xs → One (x ∷ xs)
closed_document x xs p e c =
    let d = closes_on Between p x xs e c in
    record {
      whole = record {
        front = [];
        document = d.document;
        back = d.back;
        is = d.is;
        front_blank = refl;
        back_blank = d.blank;
        one = ap (λ (k : CutAt). k.ended ++ last_line k.open_document) d.cuts;
      };
      ends = inl d.cuts;
    }

skips : (x : ℕ) → is_blank_byte x ≡ true → turn Between x ≡ Skipped
skips x e = rw e refl

skipped : (x : ℕ) (xs d : List ℕ) → is_blank_byte x ≡ true → Ends Between xs d → Ends Between (x ∷ xs) d
skipped x xs d e (inl c) = inl (ap (λ t. by_turn t x (λ n. cut_at n xs)) (skips x e) ∙ c)
skipped x xs d e (inr c) = inr (ap (λ t. by_turn t x (λ n. cut_at n xs)) (skips x e) ∙ c)

blank_whole : (x : ℕ) (xs : List ℕ) → is_blank_byte x ≡ true → IsOneDocument xs → IsOneDocument (x ∷ xs)
blank_whole x xs e d = record {
  front = x ∷ d.front;
  document = d.document;
  back = d.back;
  is = ap (λ l. x ∷ l) d.is;
  front_blank = rw e d.front_blank;
  back_blank = d.back_blank;
  one = ap (λ t. let k = by_turn t x (λ n. cut_at n xs) in k.ended ++ last_line k.open_document) (skips x e)
      ∙ d.one;
}

blank_before : (x : ℕ) (xs : List ℕ) → is_blank_byte x ≡ true → One xs → One (x ∷ xs)
unfolding blank_whole
blank_before x xs e o = record {
  whole = blank_whole x xs e o.whole;
  ends = skipped x xs o.whole.document e o.ends;
}

-- a string that is the whole text
abbrev text_place : Bool → Place
text_place false = InText 0
text_place true = InEscape 0

abbrev text_mode : Bool → Mode
text_mode false = in_string
text_mode true = in_escape

abbrev Strings : List ℕ → Type 0
Strings xs = (b : Bool) → quiet b xs ≡ true → lex (text_mode b) xs ≡ [] → Closes (text_place b) xs

string_plain : (x : ℕ) (xs : List ℕ) → Strings xs → quiet false (x ∷ xs) ≡ true
    → lex in_string (x ∷ xs) ≡ [] → Closes (InText 0) (x ∷ xs)
unfolding lex
string_plain x xs s = text_cases (λ y. quiet false (y ∷ xs) ≡ true → lex in_string (y ∷ xs) ≡ []
    → Closes (InText 0) (y ∷ xs)) x
    (λ q e. closes_last (InText 0) 34 xs refl (lex_blank xs e))
    (λ q e. closes_on (InText 0) (InEscape 0) 92 xs refl (s true q e))
    (λ q e. absurd (let n : false ≡ true = q in cc))
    (λ a b c q e. closes_on (InText 0) (InText 0) x xs (text_other 0 x a b c)
    (s false (quiet_rest x xs a b c q) (sym (lex_string x xs a b) ∙ e)))

string_escape : (x : ℕ) (xs : List ℕ) → Strings xs → quiet true (x ∷ xs) ≡ true
    → lex in_escape (x ∷ xs) ≡ [] → Closes (InEscape 0) (x ∷ xs)
unfolding lex
string_escape x xs s = ◌Bool-cases (x == 10) (λ t. quiet true (x ∷ xs) ≡ true → lex in_escape (x ∷ xs) ≡ []
    → Closes (InEscape 0) (x ∷ xs))
    (at_code (λ y. quiet true (y ∷ xs) ≡ true → lex in_escape (y ∷ xs) ≡ []
    → Closes (InEscape 0) (y ∷ xs)) x 10 (λ q e. absurd (let n : false ≡ true = q in cc)))
    (λ a q e. closes_on (InEscape 0) (InText 0) x xs (rw a refl) (s false (escape_rest x xs a q) e))

string_step_top : (x : ℕ) (xs : List ℕ) → Strings xs → Strings (x ∷ xs)
string_step_top x xs s false = string_plain x xs s
string_step_top x xs s true = string_escape x xs s

no_string : (b : Bool) → quiet b [] ≡ true → ⊥
no_string false q = cc
no_string true q = cc

strings : (xs : List ℕ) → Strings xs
strings [] b q e = absurd (no_string b q)
strings (x ∷ xs) b q e = string_step_top x xs (λ c. strings xs c) b q e

-- a word that is the whole text
record Words (xs : List ℕ) : Type 0 where
  run : List ℕ
  back : List ℕ
  is : xs ≡ run ++ back
  blank : list_all is_blank_byte back ≡ true
  one : ((y : ℕ) → (let k = onto (y ∷ []) (cut_at InWord xs) in k.ended ++ last_line k.open_document)
      ≡ (y ∷ run) ∷ [])
  ends : Ends InWord xs run

word_ends : (p : Place) (x : ℕ) (xs run : List ℕ) → turn p x ≡ Taken InWord → Ends InWord xs run
    → Ends p (x ∷ xs) (x ∷ run)
word_ends p x xs run e (inl c) = inl (ap (λ t. by_turn t x (λ n. cut_at n xs)) e
    ∙ ap (λ k. onto (x ∷ []) k) c)
word_ends p x xs run e (inr c) = inr (ap (λ t. by_turn t x (λ n. cut_at n xs)) e
    ∙ ap (λ k. onto (x ∷ []) k) c)

abbrev put_first : ℕ → List (List ℕ) → List (List ℕ)
put_first y [] = []
put_first y (d ∷ ds) = (y ∷ d) ∷ ds

more_word : (y x : ℕ) (es : List (List ℕ)) (r : List ℕ) (p : Place) (run : List ℕ)
    → (let k = onto_parts (x ∷ []) es r p in k.ended ++ last_line k.open_document) ≡ (x ∷ run) ∷ []
    → (let k = onto (y ∷ []) (onto_parts (x ∷ []) es r p) in k.ended ++ last_line k.open_document)
    ≡ (y ∷ x ∷ run) ∷ []
more_word y x [] r p run e = ap (λ ds. put_first y ds) e
more_word y x (d ∷ es) r p run e = ap (λ ds. put_first y ds) e

word_on : (x : ℕ) (xs : List ℕ) → turn InWord x ≡ Taken InWord → Words xs → Words (x ∷ xs)
word_on x xs e w = record {
  run = x ∷ w.run;
  back = w.back;
  is = ap (λ l. x ∷ l) w.is;
  blank = w.blank;
  one = λ y. ap (λ t. let k = onto (y ∷ []) (by_turn t x (λ n. cut_at n xs)) in
      k.ended ++ last_line k.open_document) e
      ∙ more_word y x (cut_at InWord xs).ended (cut_at InWord xs).open_document
      (cut_at InWord xs).place w.run (w.one x);
  ends = word_ends InWord x xs w.run e w.ends;
}

ended_word : (x : ℕ) (xs : List ℕ) → turn InWord x ≡ Behind → is_blank_byte x ≡ true
    → list_all is_blank_byte xs ≡ true
    → cut_at InWord (x ∷ xs) ≡ record { ended = [] ∷ []; open_document = []; place = Between }
ended_word x xs t e h =
    let rest : Place → CutAt = λ n. cut_at n xs in
    ap (λ u. by_turn u x rest) t
    ∙ ap (λ u. behind [] (if u then rest Between else onto (x ∷ []) (rest (place_behind_first x)))) e
    ∙ ap (λ k. behind [] k) (blanks_cut xs h)

word_end : (x : ℕ) (xs : List ℕ) → turn InWord x ≡ Behind → is_blank_byte x ≡ true
    → list_all is_blank_byte xs ≡ true → Words (x ∷ xs)
word_end x xs t e h = record {
  run = [];
  back = x ∷ xs;
  is = refl;
  blank = rw e h;
  one = λ y. ap (λ c. let k = onto (y ∷ []) c in k.ended ++ last_line k.open_document)
      (ended_word x xs t e h);
  ends = inl (ended_word x xs t e h);
}

operator_lexed : (x : ℕ) (xs : List ℕ) → is_operator x ≡ true → lex in_word (x ∷ xs) ≡ [] → ⊥
unfolding lex
operator_lexed x xs o = operator_cases (λ y. lex in_word (y ∷ xs) ≡ [] → ⊥) x o (λ e. cc) (λ e. cc)
    (λ e. cc) (λ e. cc) (λ e. cc) (λ e. cc)

bare_other : (x : ℕ) → IsOther x → turn InWord x ≡ Taken InWord
bare_other x r = rw (r.no_space, not_open x r, r.no_quote) refl

words : (xs : List ℕ) → quiet_word xs ≡ true → lex in_word xs ≡ [] → Words xs
unfolding lex
words [] q e = record { run = []; back = []; is = refl; blank = refl; one = λ y. refl; ends = inr refl }
words (x ∷ xs) q e =
    byte_cases (λ y. quiet_word (y ∷ xs) ≡ true → lex in_word (y ∷ xs) ≡ [] → Words (y ∷ xs)) x
    (λ q e. absurd (let n : false ≡ true = q in cc))
    (λ q e. word_on 92 xs refl (words xs q e))
    (λ o q e. absurd (operator_lexed x xs o e))
    (λ s. space_cases (λ y. quiet_word (y ∷ xs) ≡ true → lex in_word (y ∷ xs) ≡ [] → Words (y ∷ xs)) x s
    (λ q e. word_end 32 xs refl refl (lex_blank xs e)) (λ q e. word_end 9 xs refl refl (lex_blank xs e))
    (λ q e. word_end 10 xs refl refl (lex_blank xs e)) (λ q e. word_end 13 xs refl refl (lex_blank xs e)))
    (λ r q e. word_on x xs (bare_other x r) (words xs (word_rest x xs r q)
    (sym (lex_other in_word x xs r) ∙ e)))
    q e

word_whole : (x : ℕ) (xs : List ℕ) → turn Between x ≡ Taken InWord → Words xs → One (x ∷ xs)
word_whole x xs e w = record {
  whole = record {
    front = [];
    document = x ∷ w.run;
    back = w.back;
    is = ap (λ l. x ∷ l) w.is;
    front_blank = refl;
    back_blank = w.blank;
    one = ap (λ t. let k = by_turn t x (λ n. cut_at n xs) in k.ended ++ last_line k.open_document) e
        ∙ w.one x;
  };
  ends = word_ends Between x xs w.run e w.ends;
}

between_other : (x : ℕ) → IsOther x → turn Between x ≡ Taken InWord
between_other x r = rw (r.no_space, not_open x r, r.no_quote) refl

whole_along : (ts us : List Token) → ts ≡ us → IsWhole ts → IsWhole us
whole_along ts us e h = subst IsWhole e h

nests_nil : (ts : List Token) → ts ≡ [] → Nests 0 ts
nests_nil ts e = along 0 [] ts (sym e) tt

whole_string : (o : Option (List ℕ)) (ls : List Lexeme) (bc : Bool)
    → IsWhole (place_token fresh (string_token o) bc (λ n. punctuate n ls))
    → (s : List ℕ) × (o ≡ Some s) × (ls ≡ [])
whole_string None ls bc h = absurd h
whole_string (Some s) ls true h = absurd h
whole_string (Some s) ls false h = (s, refl, none_left ls (nests_nil (punctuate after_value ls) h))

whole_scalar : (t : Token) (ls : List Lexeme) (bc : Bool) → Scalar t
    → IsWhole (place_token fresh t bc (λ n. punctuate n ls))
    → (IsBad t → ⊥) × (ls ≡ [])
whole_scalar Token.begin_object ls bc s h = absurd s
whole_scalar Token.end_object ls bc s h = absurd s
whole_scalar Token.begin_array ls bc s h = absurd s
whole_scalar Token.end_array ls bc s h = absurd s
whole_scalar (Token.key n) ls bc s h = absurd s
whole_scalar (Token.string n) ls bc s h = absurd s
whole_scalar (Token.number n) ls bc s h = (λ b. b, none_left ls (nests_nil (punctuate after_value ls) h))
whole_scalar (Token.boolean n) ls bc s h = (λ b. b, none_left ls (nests_nil (punctuate after_value ls) h))
whole_scalar Token.null ls bc s h = (λ b. b, none_left ls (nests_nil (punctuate after_value ls) h))
whole_scalar Token.bad ls bc s h = absurd h

abbrev Tops : List ℕ → Type 0
Tops xs = IsWhole (punctuate fresh (lex between xs)) → One xs

top_string : (xs : List ℕ) → IsWhole (punctuate fresh
    (token (string_token (content plain xs)) ∷ lex in_string xs)) → One (34 ∷ xs)
top_string xs h =
    let ls = lex in_string xs in
    let t = string_token (content plain xs) in
    let r = whole_string (content plain xs) ls (begins_colon ls)
    (whole_along (punctuate fresh (token t ∷ ls))
    (place_token fresh t (begins_colon ls) (λ n. punctuate n ls)) (punct_token fresh t ls) h) in
    closed_document 34 xs (InText 0) refl (strings xs false (content_quiet plain xs r.0 r.1) r.2)

top_word : (x : ℕ) (xs : List ℕ) → IsOther x → Tops (x ∷ xs)
top_word x xs r h =
    let ls = lex in_word xs in
    let t = word (x ∷ xs) in
    let w = word_fine (x ∷ xs) in
    let d = whole_scalar t ls (begins_colon ls) w.0
    (whole_along (punctuate fresh (lex between (x ∷ xs)))
    (place_token fresh t (begins_colon ls) (λ n. punctuate n ls))
    (ap (λ m. punctuate fresh m) (lex_other between x xs r) ∙ punct_token fresh t ls) h) in
    word_whole x xs (between_other x r) (words xs (word_rest x xs r (w.1 d.0)) d.1)

tops : (xs : List ℕ) → Tops xs
unfolding lex punctuate
tops [] h = absurd h
tops (x ∷ xs) h = byte_cases (λ y. Tops (y ∷ xs)) x
    (λ h. top_string xs h)
    (λ h. absurd h)
    (λ o. operator_cases (λ y. Tops (y ∷ xs)) x o
    (λ h. closed_document 123 xs (InBrackets 1 MayBegin) refl (sim xs between fresh 0 MayBegin (λ e. refl) h))
    (λ h. absurd h)
    (λ h. closed_document 91 xs (InBrackets 1 MayBegin) refl (sim xs between fresh 0 MayBegin (λ e. refl) h))
    (λ h. absurd h) (λ h. absurd h) (λ h. absurd h))
    (λ s. space_cases (λ y. Tops (y ∷ xs)) x s
    (λ h. blank_before 32 xs refl (tops xs h)) (λ h. blank_before 9 xs refl (tops xs h))
    (λ h. blank_before 10 xs refl (tops xs h)) (λ h. blank_before 13 xs refl (tops xs h)))
    (λ r. top_word x xs r) h

-- a JSON text is one document
pub json_text : (text : List ℕ) → IsJsonText text → IsOneDocument text
json_text text h = (tops text (whole text h)).whole

-- what has a tree is a JSON text
pub text_of_a_tree : (text : List ℕ) (tree : Json) → tree_of text ≡ Some tree → IsJsonText text
text_of_a_tree text tree e = record { depth = _; tree = tree; is = e }

-- ---- texts one behind another

begins_anew : (x : ℕ) → (is_blank_byte x || (is_opening x || is_quote x)) ≡ true → turn InWord x ≡ Behind
begins_anew x e = rw e refl

joined_closed : (d : List ℕ) (es : List (List ℕ)) (r : List ℕ) (p : Place)
    → (let k = join_parts (d ∷ []) [] es r p in k.ended ++ last_line k.open_document)
    ≡ d ∷ (es ++ last_line r)
joined_closed d [] r p = refl
joined_closed d (e ∷ es) r p = refl

row_ends : (a d : List ℕ) (x : ℕ) (b : List ℕ) → (is_blank_byte x || (is_opening x || is_quote x)) ≡ true
    → Ends Between a d
    → all_documents (a ++ x ∷ b) ≡ d ∷ all_documents (x ∷ b)
row_ends a d x b t (inl c) =
    let k = cut_between (x ∷ b) in
    ap (λ (c : CutAt). c.ended ++ last_line c.open_document)
    (cut_further Between a (x ∷ b) ∙ ap (λ c. further c (x ∷ b)) c)
    ∙ joined_closed d k.ended k.open_document k.place
row_ends a d x b t (inr c) =
    let k = cut_between (x ∷ b) in
    let anew : cut_at InWord (x ∷ b) ≡ behind [] k =
    ap (λ u. by_turn u x (λ n. cut_at n b)) (begins_anew x t)
    ∙ ap (λ c. behind [] c) (sym (first_between x b)) in
    ap (λ (c : CutAt). c.ended ++ last_line c.open_document)
    (cut_further Between a (x ∷ b) ∙ ap (λ c. further c (x ∷ b)) c
    ∙ ap (λ (c : CutAt). join_parts [] d c.ended c.open_document c.place) anew)
    ∙ ap (λ l. l ∷ all_documents (x ∷ b)) (append-nil d)

pub json_texts : (a b : List ℕ) (x : ℕ) → IsJsonText a
    → (is_blank_byte x || (is_opening x || is_quote x)) ≡ true
    → all_documents (a ++ x ∷ b) ≡ all_documents a ++ all_documents (x ∷ b)
json_texts a b x h t =
    let o = tops a (whole a h) in
    row_ends a o.whole.document x b t o.ends ∙ ap (λ l. l ++ all_documents (x ∷ b)) (sym o.whole.one)
