-- Parts of a line that are printed tokens, one behind another.
use Rattle.std.proofs.Common.{◌≡◌, ℕ, Bool, true, false, cond, List, [], ◌∷◌, ◌++◌}
use Rattle.std.proofs.Common.{map, drop, refl, sym, ap, ap₂, ◌∙◌, arith, append_assoc}
use Rattle.std.proofs.Common.{append-nil}
use Rattle.std.proofs.lemmas.List.{map-append}
use Rattle.json.specs.Json.{Json, null, boolean, number, string, array, object, Items, no_items, item}
use Rattle.json.specs.Json.{Members, no_members, member}
use Rattle.json.specs.Print.{separator, begins, ends}
use Rattle.json.specs.Token.{Token}
use Rattle.json.specs.Tree.{json_tokens, items_tokens, members_tokens}
use Rattle.json.proofs.Printed.Tokens.{IsGap-append}
use Rattle.jp_flat_nodes.specs.inner.Reads.{Prints, ended, begin, IsSpelling, Spelled, AreSpelled, spell}
use Rattle.jp_flat_nodes.proofs.Cuts.{Blanks}

abbrev tokens_in : List Spelled → List Token
tokens_in ps = map (λ p. p.token) ps

spelled_append : (ps qs : List Spelled) → AreSpelled ps → AreSpelled qs → AreSpelled (ps ++ qs)
spelled_append [] qs h k = k
spelled_append (p ∷ ps) qs h k = (h.0, h.1, spelled_append ps qs h.2 k)

printed_append : (c : Bool) (ps qs : List Spelled)
    → spell c (ps ++ qs) ≡ spell c ps ++ spell (ended c (tokens_in ps)) qs
unfolding spell
printed_append c [] qs = refl
printed_append c (p ∷ ps) qs =
    let comma = separator c p.token in
    let rest = spell (ends p.token) ps in
    let others = spell (ended (ends p.token) (tokens_in ps)) qs in
    ap (λ l. comma ++ (p.gap ++ (p.text ++ l))) (printed_append (ends p.token) ps qs)
    ∙ ap (λ l. comma ++ (p.gap ++ l)) (sym (append_assoc p.text rest others))
    ∙ ap (λ l. comma ++ l) (sym (append_assoc p.gap (p.text ++ rest) others))
    ∙ sym (append_assoc comma (p.gap ++ (p.text ++ rest)) others)

-- one part behind another
pub both : (line : List ℕ) (c : Bool) (from mid end : ℕ) (ts us : List Token) → Prints line c from mid ts
    → Prints line (ended c ts) mid end us → Prints line c from end (ts ++ us)
both line c from mid end ts us p q = record {
  printed = p.printed ++ q.printed;
  spelled = spelled_append p.printed q.printed p.spelled q.spelled;
  are = map-append (λ r. r.token) p.printed q.printed ∙ ap₂ (λ l m. l ++ m) p.are q.are;
  text = p.text ∙ ap (λ l. spell c p.printed ++ l) q.text
      ∙ sym (append_assoc (spell c p.printed) _ (drop end line))
      ∙ ap (λ ks. (spell c p.printed ++ spell (ended c ks) q.printed) ++ drop end line) (sym p.are)
      ∙ ap (λ l. l ++ drop end line) (sym (printed_append c p.printed q.printed));
}

abbrev spelled_so : List ℕ → Token → List ℕ → Spelled
spelled_so gap token text = record { gap = gap; token = token; text = text }

-- one token, behind blanks
pub one : (line : List ℕ) (c : Bool) (from at end : ℕ) (t : Token) (w : List ℕ) → separator c t ≡ []
    → IsSpelling t w → Blanks line from at → drop at line ≡ w ++ drop end line
    → Prints line c from end (t ∷ [])
unfolding spell
one line c from at end t w none is b text = record {
  printed = spelled_so b.gap t w ∷ [];
  spelled = (b.is, is, tt);
  are = refl;
  text = b.text ∙ ap (λ l. b.gap ++ l) (text ∙ ap (λ l. l ++ drop end line) (sym (append-nil w)))
      ∙ sym (append_assoc b.gap (w ++ []) (drop end line))
      ∙ ap (λ l. (l ++ (b.gap ++ (w ++ []))) ++ drop end line) (sym none);
}

no_blank : (line : List ℕ) (at : ℕ) → Blanks line at at
no_blank line at = record { gap = []; is = tt; text = refl; later = omega arith }

-- the same with no blank
pub here : (line : List ℕ) (c : Bool) (at end : ℕ) (t : Token) (w : List ℕ) → separator c t ≡ []
    → IsSpelling t w → drop at line ≡ w ++ drop end line → Prints line c at end (t ∷ [])
here line c at end t w none is text = one line c at at end t w none is (no_blank line at) text

-- blanks before a part
pub behind : (line : List ℕ) (from at end : ℕ) (ts : List Token) → begin ts ≡ true → Blanks line from at
    → Prints line false at end ts → Prints line false from end ts
unfolding spell
behind line from at end ts some b p = go p.printed p.spelled p.are p.text
  where
    go : (ps : List Spelled) → AreSpelled ps → tokens_in ps ≡ ts
        → drop at line ≡ spell false ps ++ drop end line → Prints line false from end ts
    go [] spelled are text = absurd (let none = ap begin are in cc)
    go (q ∷ qs) spelled are text = record {
      printed = spelled_so (b.gap ++ q.gap) q.token q.text ∷ qs;
      spelled = (IsGap-append b.gap q.gap b.is spelled.0, spelled.1, spelled.2);
      are = are;
      text = b.text ∙ ap (λ l. b.gap ++ l) text
          ∙ sym (append_assoc b.gap (q.gap ++ (q.text ++ spell (ends q.token) qs)) (drop end line))
          ∙ ap (λ l. l ++ drop end line)
          (sym (append_assoc b.gap q.gap (q.text ++ spell (ends q.token) qs)));
    }

-- a comma before a part
pub after_comma : (line : List ℕ) (from at end : ℕ) (ts : List Token) → begin ts ≡ true
    → drop from line ≡ 44 ∷ drop at line → Prints line false at end ts → Prints line true from end ts
unfolding spell
after_comma line from at end ts some comma p = go p.printed p.spelled p.are p.text
  where
    go : (ps : List Spelled) → AreSpelled ps → tokens_in ps ≡ ts
        → drop at line ≡ spell false ps ++ drop end line → Prints line true from end ts
    go [] spelled are text = absurd (let none = ap begin are in cc)
    go (q ∷ qs) spelled are text =
        let first : begins q.token ≡ true = ap begin are ∙ some in
        record {
          printed = q ∷ qs;
          spelled = spelled;
          are = are;
          text = comma ∙ ap (λ l. 44 ∷ l) text
              ∙ ap (λ b. (cond b (44 ∷ []) [] ++ (q.gap ++ (q.text ++ spell (ends q.token) qs)))
              ++ drop end line) (sym first);
        }

-- ---- values end, and begin

ended_append : (c : Bool) (ts us : List Token) → ended c (ts ++ us) ≡ ended (ended c ts) us
ended_append c [] us = refl
ended_append c (t ∷ ts) us = ended_append (ends t) ts us

mutual
  value_ends : (j : Json) (c : Bool) → ended c (json_tokens j) ≡ true
  value_ends null c = refl
  value_ends (boolean b) c = refl
  value_ends (number s) c = refl
  value_ends (string s) c = refl
  value_ends (array js) c = items_end js false
  value_ends (object ms) c = members_end ms false

  items_end : (js : Items) (c : Bool) → ended c (items_tokens js) ≡ true
  items_end no_items c = refl
  items_end (item j js) c = ended_append c (json_tokens j) (items_tokens js) ∙ items_end js _

  members_end : (ms : Members) (c : Bool) → ended c (members_tokens ms) ≡ true
  members_end no_members c = refl
  members_end (member k j ms) c =
      ended_append false (json_tokens j) (members_tokens ms) ∙ members_end ms _

-- a value has just ended where these tokens end with one
pub ends_with : (c : Bool) (ts : List Token) (j : Json) → ended c (ts ++ json_tokens j) ≡ true
ends_with c ts j = ended_append c ts (json_tokens j) ∙ value_ends j _

pub value_begins : (j : Json) → begin (json_tokens j) ≡ true
value_begins null = refl
value_begins (boolean b) = refl
value_begins (number s) = refl
value_begins (string s) = refl
value_begins (array js) = refl
value_begins (object ms) = refl
