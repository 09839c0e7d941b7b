-- What is always true of the values of a flat document.
use Rattle.std.proofs.Common.{◌≡◌, ℕ, ◌+◌, ◌-◌, ◌<◌, ◌≤◌, Bool, true, false, List, length, drop, Some}
use Rattle.std.proofs.Common.{Result, Ok, Err, if◌then◌else◌}
use Rattle.std.proofs.Common.{sym, ap, subst}
use Rattle.std.proofs.Common.{◌∙◌, arith, length-append, length-drop}
use Rattle.std.proofs.lemmas.Bool.{ltb-false}
use Rattle.json.specs.Json.{Json, value}
use Rattle.json.specs.Token.{Token}
use Rattle.json.specs.Tree.{json_tokens}
use Rattle.serde_json.specs.Read.{max_depth}
use Rattle.jp_doc.specs.Json as doc
use Rattle.jp_doc.specs.Reading.{max_line, max_items, has_long_array, unless_long}
use Rattle.jp_doc.specs.Rising.{IsRising}
use Rattle.jp_doc.specs.declared.fault.DocFault.{DocFault}
use Rattle.jp_doc.specs.declared.fault.DocFault.TheVariants.{LongArray}
use Rattle.jp_doc.proofs.Found.{first_false}
use Rattle.jp_doc.proofs.TreeFacts.{tree_rises, tree_is_short}
use Rattle.jp_flat.specs.Document.{document_tokens}
use Rattle.jp_flat.specs.Flat.{value_at}
use Rattle.jp_flat.specs.inner.Plain.{is_flat}
use Rattle.jp_flat.specs.Value.{tokens_of, flat_value, item_count}
use Rattle.jp_flat.specs.declared.value.FlatValue.{FlatValue}
use Rattle.jp_flat.proofs.Reading.{flat_of, read_of_flat, value_is}

pub value_rises : (v : FlatValue) → IsRising (flat_value v)
value_rises v =
    let f = flat_of (tokens_of v) v.flat in
    subst IsRising (sym (value_is (tokens_of v) f)) (tree_rises f.source)

pub flat_is_short : (ts : List Token) → is_flat ts ≡ true → has_long_array max_line (value_at ts) ≡ false
flat_is_short ts h =
    let f = flat_of ts h in
    ap (has_long_array max_line) (value_is ts f) ∙ tree_is_short f.source max_line (omega (arith, f.few))

-- so many items at most has a value without a longer array
pub few_items : (v : doc.Json) (n : ℕ) → has_long_array n v ≡ false → item_count v ≤ n
few_items doc.null n h = omega arith
few_items (doc.truth b) n h = omega arith
few_items (doc.number m) n h = omega arith
few_items (doc.text s) n h = omega arith
few_items (doc.array vs) n h = ltb-false n (length (doc.item_list vs)) (first_false _ _ h)
few_items (doc.object ms) n h = omega arith

-- no array in a value has more items than the value has nodes, up to its end
pub short_by_nodes : (v : FlatValue) (end n : ℕ)
    → ((depth : ℕ) (j : Json) (rest : List Token) → value depth (tokens_of v) ≡ Some (j, rest)
    → rest ≡ drop end (document_tokens v.document.now))
    → v.at < end → end - v.at ≤ n → has_long_array n (flat_value v) ≡ false
short_by_nodes v end n passes later few =
    let all = document_tokens v.document.now in
    let f = flat_of (tokens_of v) v.flat in
    let behind = passes max_depth f.source f.rest (read_of_flat (tokens_of v) f) in
    let most : length (json_tokens f.source) ≤ n + 2 = omega (
      arith,
      few,
      ap length f.spelled,
      length-append (json_tokens f.source) f.rest,
      ap length behind,
      length-drop v.at all,
      length-drop end all,
    ) in
    ap (has_long_array n) (value_is (tokens_of v) f) ∙ tree_is_short f.source n most

-- a value that is no longer than it may be is told as it is
told_if : (b : Bool) (v w : doc.Json)
    → ◌≡◌ {A = Result doc.Json DocFault} (Ok v) (if b then Err LongArray else Ok w) → w ≡ v
told_if true v w h = absurd (cc)
told_if false v w h = cc

pub told_value : (v w : doc.Json) → Ok v ≡ unless_long w → w ≡ v
told_value v w h = told_if (has_long_array max_items w) v w h
