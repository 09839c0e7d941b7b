-- A line that was read in one pass or laid, and what it is read as.
use Rattle.std.proofs.Common.{◌≡◌, ℕ, ◌<◌, ◌≤◌, ◌^◌, Bool, true, false, not, ◌&&◌, ◌==◌, List, [], ◌++◌}
use Rattle.std.proofs.Common.{length, drop, None, IsSome, refl, sym, ap, ◌∙◌, subst, arith}
use Rattle.std.proofs.Common.{if◌then◌else◌, append_assoc, append-nil, lt-ltb, le-leb}
use Rattle.std.proofs.lemmas.Bool.{leb-true}
use Rattle.std.proofs.lemmas.List.{length-map}
use Rattle.std.proofs.lemmas.Str.{is_utf8-from_IsUtf8}
use Rattle.std.specs.Prelude.{slice_index}
use Rattle.std.specs.Str.{IsUtf8}
use Rattle.std.specs.Str.Parse.{digits_value}
use Rattle.json.specs.Json as text
use Rattle.json.specs.Lex.{tokens}
use Rattle.json.specs.Print.{ArePrintableOrBad}
use Rattle.json.specs.Token.{Token}
use Rattle.json.specs.Tree.{json_tokens, items_tokens, members_tokens}
use Rattle.json.proofs.Numbered.{ArePrintableOrBad-tokens}
use Rattle.json.proofs.Unique.Spelling.{tokens-document}
use Rattle.jp_doc.specs.Reading.{max_line, unless_long, reading}
use Rattle.jp_doc.specs.ReadingIn.{reading_in}
use Rattle.jp_doc.proofs.LineTexts.{AreTexts, tokens_are_texts}
use Rattle.jp_flat.specs.Flat.{value_at}
use Rattle.jp_flat.specs.inner.Held.{IsHeld, IsReadAs}
use Rattle.jp_flat.specs.inner.Plain.{is_flat, is_plain, items_are_plain, members_are_plain, is_plain_from}
use Rattle.jp_flat.specs.inner.Plain.{is_whole_text, is_unsigned_text, is_minus_text}
use Rattle.jp_flat.specs.inner.Rows.{pass_fault}
use Rattle.jp_flat.proofs.Close.{none_is_long}
use Rattle.jp_flat.proofs.Decimal.{value_of_pass, short_passes}
use Rattle.jp_flat.proofs.FewTokens.{few_tokens}
use Rattle.jp_flat.proofs.Numbers.{below, both, both_back}
use Rattle.jp_flat.proofs.Pieces.{pieces_are}
use Rattle.jp_flat.proofs.Reading.{of_tree, flat_is, read_flat}
use Rattle.jp_flat_nodes.specs.Digits.{are_digits, are_few_digits, is_short_whole}
use Rattle.jp_flat_nodes.specs.Nodes.{Source, tokens_at, token_at, AreLinked, AreWithin, IsRead, are_taken}
use Rattle.jp_flat_nodes.specs.Nodes.{items_are_taken, members_are_taken}
use Rattle.jp_flat_nodes.specs.declared.node.FlatNode.{FlatNode}
use Rattle.jp_number.specs.declared.numbers.Numbers.TheVariants.{Decimals}

-- ---- short whole numbers have 64 bits

few_digits : (ds : List ℕ) → are_few_digits ds ≡ true → (are_digits ds ≡ true) ×
    (digits_value 10 ds < 10 ^ 18)
few_digits ds h =
    let b = both (are_digits ds) _ h in
    (b.0, below ds 18 b.0 (leb-true (length ds) 18 b.1))

minus_text : (ds : List ℕ) → (are_few_digits ds && not (slice_index ds 0 == 48)) ≡ true
    → is_minus_text ds ≡ true
minus_text ds h =
    let b = both (are_few_digits ds) _ h in
    let d = few_digits ds b.0 in
    let value : digits_value 10 ds ≤ 2 ^ 63 = omega (arith, d.1) in
    both_back _ _ (both_back _ _ d.0 b.1) (le-leb _ (2 ^ 63) value)

unsigned_text : (ds : List ℕ) → are_few_digits ds ≡ true → is_unsigned_text ds ≡ true
unsigned_text ds h =
    let d = few_digits ds h in
    let value : digits_value 10 ds < 2 ^ 64 = omega (arith, d.1) in
    both_back _ _ d.0 (lt-ltb _ (2 ^ 64) value)

whole_if : (b : Bool) (s : List ℕ)
    → (if b then are_few_digits (drop 1 s) && not (slice_index
    (drop 1 s) 0 == 48) else are_few_digits s) ≡ true
    → (if b then is_minus_text (drop 1 s) else is_unsigned_text s) ≡ true
whole_if true s h = minus_text (drop 1 s) h
whole_if false s h = unsigned_text s h

short_is_whole : (s : List ℕ) → is_short_whole s ≡ true → is_whole_text s ≡ true
short_is_whole s h = whole_if (slice_index s 0 == 45) s h

-- ---- so a tree of such numbers is plain, where its texts are texts

mutual
  plain_tree : (j : text.Json) (r : List Token) → AreTexts (json_tokens j ++ r) → are_taken false j ≡ true
      → (is_plain j ≡ true) × AreTexts r
  plain_tree text.null r h s = (refl, h.1)
  plain_tree (text.boolean b) r h s = (refl, h.1)
  plain_tree (text.number t) r h s = (short_is_whole t s, h.1)
  plain_tree (text.string t) r h s = (is_utf8-from_IsUtf8 t h.0, h.1)
  plain_tree (text.array js) r h s = plain_items js r h.1 s
  plain_tree (text.object ms) r h s = plain_members ms r h.1 s

  plain_items : (js : text.Items) (r : List Token) → AreTexts (items_tokens js ++ r)
      → items_are_taken false js ≡ true → (items_are_plain js ≡ true) × AreTexts r
  plain_items text.no_items r h s = (refl, h.1)
  plain_items (text.item j js) r h s =
      let b = both (are_taken false j) _ s in
      let one = plain_tree j (items_tokens js ++ r)
      (subst AreTexts (append_assoc (json_tokens j) (items_tokens js) r) h) b.0 in
      let others = plain_items js r one.1 b.1 in
      (both_back _ _ one.0 others.0, others.1)

  plain_members : (ms : text.Members) (r : List Token) → AreTexts (members_tokens ms ++ r)
      → members_are_taken false ms ≡ true → (members_are_plain ms ≡ true) × AreTexts r
  plain_members text.no_members r h s = (refl, h.1)
  plain_members (text.member k j ms) r h s =
      let b = both (are_taken false j) _ s in
      let one = plain_tree j (members_tokens ms ++ r)
      (subst AreTexts (append_assoc (json_tokens j) (members_tokens ms) r) h.1) b.0 in
      let others = plain_members ms r one.1 b.1 in
      (both_back _ _ (is_utf8-from_IsUtf8 k h.0) (both_back _ _ one.0 others.0), others.1)

plain_line : (src : Source) (nodes : List FlatNode) (r : IsRead false src nodes) → IsUtf8 src.line
    → is_plain r.value ≡ true
plain_line src nodes r u =
    let spelled = tokens-document src.line r.value r.is ∙ sym (append-nil (json_tokens r.value)) in
    (plain_tree r.value [] (subst AreTexts spelled (tokens_are_texts src.line u)) r.numbers).0

-- ---- nodes that are the tokens of a line

pub few_nodes : (line : List ℕ) (bytes : Source) (nodes : List FlatNode) → tokens_at bytes nodes ≡ tokens line
    → length line ≤ max_line → length nodes ≤ 268435456
few_nodes line bytes nodes are short =
    omega (arith, ap length are, length-map nodes (token_at bytes), few_tokens line, short)

pub held : (line : List ℕ) (bytes : Source) (nodes : List FlatNode) → tokens_at bytes nodes ≡ tokens line
    → IsUtf8 line
    → AreLinked (tokens line) nodes → AreWithin bytes nodes → is_flat (tokens line) ≡ true
    → IsHeld bytes nodes
held line bytes nodes are u linked within flat = record {
  flat = ap is_flat are ∙ flat;
  linked = subst (λ ts. AreLinked ts nodes) (sym are) linked;
  pieces = pieces_are bytes nodes (subst AreTexts (sym are) (tokens_are_texts line u))
      (subst ArePrintableOrBad (sym are) (ArePrintableOrBad-tokens line)) within;
}

-- a line that was read in one pass
pub read_whole : (src : Source) (nodes : List FlatNode) → IsRead false src nodes → IsUtf8 src.line
    → length src.line ≤ max_line
    → IsReadAs (reading src.line) src nodes
read_whole src nodes r u short =
    let line = src.line in
    let flat = of_tree line r.value r.is u short r.nests (plain_line src nodes r u) in
    record {
      few = r.few;
      held = held line src nodes r.are u r.linked r.within (flat_is (tokens line) flat.flat);
      value = flat.reads ∙ ap (λ ts. unless_long (value_at ts)) (sym r.are);
    }

pub read_grammar : (src : Source) (nodes : List FlatNode) → IsRead true src nodes → IsUtf8 src.line
    → length src.line ≤ max_line → IsReadAs (reading_in Decimals src.line) src nodes
read_grammar src nodes r u short =
    let line = src.line in
    let value = value_of_pass line u (subst IsSome (sym r.is) refl) short
    (short_passes line r.value r.is r.nests (none_is_long r.value r.spelled r.numbers)) in
    record {
      few = r.few;
      held = held line src nodes r.are u r.linked r.within value.0;
      value = value.1 ∙ ap (λ ts. unless_long (value_at ts)) (sym r.are);
    }

-- a line that the kit has read, and whose nodes were laid
pub laid_whole : (line : List ℕ) (bytes : Source) (nodes : List FlatNode) (tape : List Token)
    → tape ≡ tokens line
    → IsSome (text.document line) → tokens_at bytes nodes ≡ tape → AreLinked tape nodes
    → AreWithin bytes nodes → IsUtf8 line → length line ≤ max_line
    → is_plain_from 0 tape ≡ true → IsReadAs (reading line) bytes nodes
laid_whole line bytes nodes tape is some same linked within u short plain =
    let are = same ∙ is in
    let flat = read_flat line some u short (subst (λ ts. is_plain_from 0 ts ≡ true) is plain) in
    record {
      few = few_nodes line bytes nodes are short;
      held = held line bytes nodes are u (subst (λ ts. AreLinked ts nodes) is linked) within
          (flat_is (tokens line) flat.flat);
      value = flat.reads ∙ ap (λ ts. unless_long (value_at ts)) (sym are);
    }

pub laid_grammar : (line : List ℕ) (bytes : Source) (nodes : List FlatNode) (tape : List Token)
    → tape ≡ tokens line
    → IsSome (text.document line) → tokens_at bytes nodes ≡ tape → AreLinked tape nodes
    → AreWithin bytes nodes → IsUtf8 line → length line ≤ max_line
    → pass_fault tape ≡ None → IsReadAs (reading_in Decimals line) bytes nodes
laid_grammar line bytes nodes tape is some same linked within u short none =
    let are = same ∙ is in
    let value = value_of_pass line u some short (ap pass_fault (sym is) ∙ none) in
    record {
      few = few_nodes line bytes nodes are short;
      held = held line bytes nodes are u (subst (λ ts. AreLinked ts nodes) is linked) within value.0;
      value = value.1 ∙ ap (λ ts. unless_long (value_at ts)) (sym are);
    }
