-- What the JSON crate prints for the value of a document has a plain tree.
use Rattle.std.proofs.Common.{◌≡◌, ◌≢◌, ℕ, ◌<◌, ◌≤◌, Bool, true, false, ◌&&◌, List, [], ◌++◌, length, Option}
use Rattle.std.proofs.Common.{Some, None, Result, Ok, Err, option_and_then, refl, sym, ap, ◌∙◌, subst}
use Rattle.std.proofs.Common.{append-nil}
use Rattle.std.proofs.Common.{append_assoc, arith}
use Rattle.std.proofs.lemmas.Str.{is_utf8-from_IsUtf8}
use Rattle.std.specs.Prelude.{is_some}
use Rattle.std.specs.Result.{OnOk}
use Rattle.std.specs.Str.{IsUtf8}
use Rattle.json.specs.Json as text
use Rattle.json.specs.Lex.{tokens}
use Rattle.json.specs.Print.{IsNumber}
use Rattle.json.specs.Token.{Token}
use Rattle.json.specs.Tree as tree
use Rattle.json.specs.Tree.{json_tokens, items_tokens, members_tokens, HasNumbers, ItemsHaveNumbers}
use Rattle.json.specs.Tree.{MembersHaveNumbers}
use Rattle.json.specs.Word.{after_number}
use Rattle.json.specs.declared.error.Error as tape
use Rattle.json.specs.declared.error.Error.TheVariants.{Invalid, OutOfMemory, TooLong, DuplicateKey}
use Rattle.json.proofs.Found.{not_found, one_reading, Some_inj}
use Rattle.json.proofs.Printed.Trees.{value-json_tokens}
use Rattle.serde_json.specs.Data.{Num, unsigned, negative, float, Data, null, boolean, number, string, array}
use Rattle.serde_json.specs.Data.{object, Items, no_items, item, Members, no_members, member, depth}
use Rattle.serde_json.specs.Read.{number_of, of_json, read, max_depth}
use Rattle.serde_json.specs.Written.{number_text, unless_float, outline, items_outline, members_outline}
use Rattle.serde_json.specs.Written.{blank}
use Rattle.serde_json.specs.Written.{blank_items, blank_members, IsInOrder, has_float}
use Rattle.serde_json.specs.View.{view}
use Rattle.serde_json.specs.declared.value.Value.{Value}
use Rattle.serde_json.proofs.Texts.{unless_float-number_of, tokens_from_order}
use Rattle.jp_doc.specs.DocumentValue.{IsDocumentValue}
use Rattle.jp_doc.specs.Json.{Json, json_of, value_of}
use Rattle.jp_doc.specs.Reading.{max_line, max_items, has_long_array, unless_long}
use Rattle.jp_doc.specs.Tree.{tree_of}
use Rattle.jp_doc.proofs.LineTexts.{AreTexts, tokens_are_texts, names_are_texts}
use Rattle.jp_doc.proofs.TreeAgrees.{same_value}
use Rattle.jp_doc.proofs.TreeNesting.{no_tree, spelled_tree, tree_has_numbers}
use Rattle.jp_flat.specs.Flat.{value_at}
use Rattle.jp_flat.specs.inner.Decimals.{is_readable, are_readable}
use Rattle.jp_flat.specs.inner.Held.{IsReadAs}
use Rattle.jp_flat.specs.inner.Plain.{is_whole_text, is_plain, items_are_plain, members_are_plain, is_fit}
use Rattle.jp_flat.specs.inner.Printed.{IsPrinted}
use Rattle.jp_flat.specs.inner.Rows.{is_whole_number}
use Rattle.jp_flat.proofs.FewTokens.{few_tokens}
use Rattle.jp_flat.proofs.Fit.{fit, plain_is_short}
use Rattle.jp_flat.proofs.Numbers.{both, both_back}
use Rattle.jp_flat.proofs.ReadNodes.{few_nodes, held}
use Rattle.jp_flat.proofs.Reading.{Flat, flat_is, value_is}
use Rattle.jp_flat.proofs.WholeFaults.{number_read, is_read}
use Rattle.jp_flat.proofs.WholeTexts.{tells_row}
use Rattle.jp_flat_nodes.specs.Nodes.{Source, tokens_at, AreLinked, AreWithin}
use Rattle.jp_flat_nodes.specs.declared.node.FlatNode.{FlatNode}

-- ---- a number that is printed, and that is no float when it is read, is whole

whole_if : (o : Option Num) (s : List ℕ) → IsNumber s → number_of s ≡ o → s ≢ [] → unless_float s ≡ s
    → is_some o ≡ true → is_whole_text s ≡ true
whole_if None s grammar e some kept found = absurd (cc)
whole_if (Some (unsigned n)) s grammar e some kept found = tells_row s grammar ∙ ap is_whole_number e
whole_if (Some (negative z)) s grammar e some kept found = tells_row s grammar ∙ ap is_whole_number e
whole_if (Some (float x)) s grammar e some kept found =
    absurd (some (sym kept ∙ unless_float-number_of s (float x) e))

whole_number : (s : List ℕ) → IsNumber s → s ≢ [] → unless_float s ≡ s → is_readable s ≡ true
    → is_whole_text s ≡ true
whole_number s grammar some kept read_so =
    whole_if (number_of s) s grammar refl some kept (sym (number_read s grammar) ∙ read_so)

-- a number's text is not empty, by the grammar
no_empty_number : IsNumber [] → ⊥
unfolding after_number
no_empty_number h = cc

some_text : (s : List ℕ) → IsNumber s → s ≢ []
some_text s grammar e = no_empty_number (subst IsNumber e grammar)

-- what tokens tell, and those behind them
record Told (plain : Bool) (r : List Token) : Type 0 where
  is : plain ≡ true
  texts : AreTexts r
  readable : are_readable r ≡ true

mutual
  told : (d : Data) (r : List Token) → blank (outline d) ≡ outline d → HasNumbers (outline d)
      → AreTexts (json_tokens (outline d) ++ r) → are_readable (json_tokens (outline d) ++ r) ≡ true
      → Told (is_plain (outline d)) r
  told null r b n t h = record { is = refl; texts = t.1; readable = h }
  told (boolean x) r b n t h = record { is = refl; texts = t.1; readable = h }
  told (number x) r b n t h =
      let p = both (is_readable (number_text x)) _ h in
      let kept : unless_float (number_text x) ≡ number_text x = cc in
      record {
        is = whole_number (number_text x) n (some_text (number_text x) n) kept p.0;
        texts = t.1;
        readable = p.1;
      }
  told (string s) r b n t h = record { is = is_utf8-from_IsUtf8 s t.0; texts = t.1; readable = h }
  told (array ds) r b n t h = told_items ds r (cc) n t.1 h
  told (object ms) r b n t h = told_members ms r (cc) n t.1 h

  told_items : (ds : Items) (r : List Token) → blank_items (items_outline ds) ≡ items_outline ds
      → ItemsHaveNumbers (items_outline ds) → AreTexts (items_tokens (items_outline ds) ++ r)
      → are_readable (items_tokens (items_outline ds) ++ r) ≡ true
      → Told (items_are_plain (items_outline ds)) r
  told_items no_items r b n t h = record { is = refl; texts = t.1; readable = h }
  told_items (item d ds) r b n t h =
      let regroup = append_assoc (json_tokens (outline d)) (items_tokens (items_outline ds)) r in
      let one = told d (items_tokens (items_outline ds) ++ r) (cc) n.0 (subst AreTexts regroup t)
      (sym (ap are_readable regroup) ∙ h) in
      let others = told_items ds r (cc) n.1 one.texts one.readable in
      record {
        is = both_back _ _ one.is others.is;
        texts = others.texts;
        readable = others.readable;
      }

  told_members : (ms : Members) (r : List Token) → blank_members (members_outline ms) ≡ members_outline ms
      → MembersHaveNumbers (members_outline ms) → AreTexts (members_tokens (members_outline ms) ++ r)
      → are_readable (members_tokens (members_outline ms) ++ r) ≡ true
      → Told (members_are_plain (members_outline ms)) r
  told_members no_members r b n t h = record { is = refl; texts = t.1; readable = h }
  told_members (member k d ms) r b n t h =
      let regroup = append_assoc (json_tokens (outline d)) (members_tokens (members_outline ms)) r in
      let one = told d (members_tokens (members_outline ms) ++ r) (cc) n.0 (subst AreTexts regroup t.1)
      (sym (ap are_readable regroup) ∙ h) in
      let others = told_members ms r (cc) n.1 one.texts one.readable in
      record {
        is = both_back _ _ (is_utf8-from_IsUtf8 k t.0) (both_back _ _ one.is others.is);
        texts = others.texts;
        readable = others.readable;
      }

-- ---- the tree of what is printed

same_tree : (i j : text.Json) → json_tokens i ≡ json_tokens j → i ≡ j
same_tree i j e =
    let first = ap (λ ts. text.value (tree.depth i) (ts ++ [])) (sym e)
    ∙ value-json_tokens i (tree.depth i) [] (omega arith) in
    let second = value-json_tokens j (tree.depth j) [] (omega arith) in
    ap (λ p. p.0)
    (Some_inj _ _ (one_reading (tree.depth i) (tree.depth j) (json_tokens j ++ []) _ _ first second))

-- so the printed numbers are no floats when they are read
printed_kept : (s : List ℕ) (d : Data) → IsInOrder s d → has_float d ≡ false → blank (outline d) ≡ outline d
printed_kept s d order whole =
    let same = same_tree order.0 (outline d) (sym order.1 ∙ tokens_from_order s d order whole) in
    subst (λ j. blank j ≡ outline d) same order.2

of_tree : (s : List ℕ) (d : Data) (o : Option text.Json) → tree_of s ≡ o → option_and_then of_json o ≡ Some d
    → IsInOrder s d → has_float d ≡ false → IsUtf8 s → length s ≤ max_line
    → has_long_array max_items (json_of d) ≡ false → IsPrinted s (json_of d)
of_tree s d None is h order whole u few short = not_found d h
of_tree s d (Some j) is h order whole u few short =
    let spelled = (spelled_tree s j is).0 in
    let same : j ≡ outline d = same_tree j (outline d)
    (sym spelled ∙ tokens_from_order s d order whole) in
    let found : tree_of s ≡ Some (outline d) = is ∙ ap Some same in
    let behind : tokens s ≡ json_tokens (outline d) ++ [] =
    spelled ∙ ap json_tokens same ∙ sym (append-nil (json_tokens (outline d))) in
    let readable : are_readable (tokens s) ≡ true =
    is_read s j is ∙ ap (λ o. is_some o && true) h in
    let t = told d [] (printed_kept s d order whole) (tree_has_numbers s (outline d) found)
    (subst AreTexts behind (tokens_are_texts s u)) (sym (ap are_readable behind) ∙ readable) in
    record {
      tree = outline d;
      found = found;
      plain = t.is;
      value = same_value (outline d) d (names_are_texts s (outline d) u found)
          (sym (ap of_json same) ∙ h) whole;
      short_arrays = short;
      utf8 = u;
      short = few;
    }

pub printed : (s : List ℕ) (d : Data) → IsInOrder s d → read s ≡ Some d → has_float d ≡ false → IsUtf8 s
    → length s ≤ max_line → has_long_array max_items (json_of d) ≡ false → IsPrinted s (json_of d)
printed s d order back whole u few short = of_tree s d (tree_of s) refl back order whole u few short

-- the same of a document's value, by what is true of it
pub printed_value : (s bytes : List ℕ) (v : Value) (root : Json) → IsDocumentValue v → IsInOrder s (view v)
    → (depth (view v) ≤ max_depth → read s ≡ Some (view v)) → bytes ≡ s → IsUtf8 bytes
    → length bytes ≤ max_line → value_of v ≡ root → IsPrinted bytes root
printed_value s bytes v root kept order back same u few is =
    subst (IsPrinted bytes) is
    (printed bytes (view v) (subst (λ t. IsInOrder t (view v)) (sym same) order)
    (ap read same ∙ back kept.nesting) kept.whole_numbers u few kept.short_arrays)

-- ---- its nodes

printed_fits : (s : List ℕ) (v : Json) (p : IsPrinted s v) → is_fit p.tree ≡ true
printed_fits s v p =
    fit p.tree (names_are_texts s p.tree p.utf8 p.found) (tree_has_numbers s p.tree p.found)
    (plain_is_short p.tree p.plain)

printed_flat : (s : List ℕ) (v : Json) → IsPrinted s v → Flat (tokens s)
printed_flat s v p =
    let spelled = spelled_tree s p.tree p.found in
    record {
      source = p.tree;
      rest = [];
      spelled = spelled.0 ∙ sym (append-nil (json_tokens p.tree));
      nests = spelled.1;
      few = omega (arith, ap length spelled.0, few_tokens s, p.short);
      fit = printed_fits s v p;
    }

pub laid_printed : (s : List ℕ) (bytes : Source) (nodes : List FlatNode) (tape : List Token) (v : Json)
    → IsPrinted s v
    → tape ≡ tokens s → tokens_at bytes nodes ≡ tape → AreLinked tape nodes → AreWithin bytes nodes
    → IsReadAs (Ok v) bytes nodes
unfolding printed_flat
laid_printed s bytes nodes tape v p is same linked within =
    let are = same ∙ is in
    let f = printed_flat s v p in
    let value : value_at (tokens_at bytes nodes) ≡ v = ap value_at are ∙ value_is (tokens s) f ∙ p.value in
    record {
      few = few_nodes s bytes nodes are p.short;
      held = held s bytes nodes are p.utf8 (subst (λ ts. AreLinked ts nodes) is linked) within
          (flat_is (tokens s) f);
      value = sym (ap unless_long value ∙ rw p.short_arrays refl);
    }

pub laid_on : {E : Type 0} (r : Result (Unit {0}) E) (s : List ℕ) (bytes : Source) (nodes : List FlatNode)
    (tape laid : List Token) (v : Json) → IsPrinted s v → tape ≡ tokens s → laid ≡ tape
    → OnOk r (tokens_at bytes nodes ≡ laid) → OnOk r (AreLinked laid nodes)
    → OnOk r (AreWithin bytes nodes) → OnOk r (IsReadAs (Ok v) bytes nodes)
laid_on (Ok done) s bytes nodes tape laid v p is same are linked within =
    laid_printed s bytes nodes tape v p is (are ∙ same) (subst (λ ts. AreLinked ts nodes) same linked) within
laid_on (Err e) s bytes nodes tape laid v p is same are linked within = tt

-- the tape refuses none
pub some_tape : (s : List ℕ) (v : Json) → IsPrinted s v → text.document s ≡ None → ⊥
some_tape s v p none = not_found p.tree (sym (no_tree s none) ∙ p.found)

pub no_error : {T : Type 0} (s line : List ℕ) (v : Json) (r : Result T tape.Error) (e : tape.Error)
    → r ≡ Err e → (e ≡ OutOfMemory → ⊥) → (r ≡ Err Invalid → text.document s ≡ None)
    → (r ≡ Err TooLong → 4294967040 < length s) → (r ≡ Err DuplicateKey → ⊥) → s ≡ line → IsPrinted line v
    → ⊥
no_error s line v r Invalid e other invalid long twice same p =
    some_tape line v p (ap text.document (sym same) ∙ invalid e)
no_error s line v r OutOfMemory e other invalid long twice same p = other refl
no_error s line v r TooLong e other invalid long twice same p =
    omega (arith, long e, ap length same, p.short)
no_error s line v r DuplicateKey e other invalid long twice same p = twice e
