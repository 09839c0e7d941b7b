-- A line that is one value's text, and its nodes.
use Rattle.std.proofs.Common.{◌≡◌, ℕ, ◌+◌, ◌<◌, ◌≤◌, Bool, false, List, [], ◌∷◌, ◌++◌, length, drop}
use Rattle.std.proofs.Common.{option_map, option_and_then, Some, refl, sym, ap, ◌∙◌, subst, arith, append-nil}
use Rattle.std.proofs.Common.{length-append, append_assoc}
use Rattle.std.proofs.lemmas.List.{drop_all}
use Rattle.json.specs.Json.{Json, value, if_last, max_depth}
use Rattle.json.specs.Lex.{tokens}
use Rattle.json.specs.Print.{ArePrintable}
use Rattle.json.specs.Tape.{Passes}
use Rattle.json.specs.Token.{Token}
use Rattle.json.specs.Tree as tree
use Rattle.json.specs.Tree.{json_tokens}
use Rattle.json.proofs.Printed.Trees.{value-json_tokens, ArePrintable-json_tokens}
use Rattle.jp_flat_nodes.specs.Nodes.{Source, IsRead, tokens_at, AreWithin}
use Rattle.jp_flat_nodes.specs.inner.Reads.{Reads, Spans, spell}
use Rattle.jp_flat_nodes.specs.declared.node.FlatNode.{FlatNode}
use Rattle.jp_flat_nodes.proofs.Cuts.{Blanks}
use Rattle.jp_flat_nodes.proofs.Spelling.{tokens_spelled}
use Rattle.jp_flat_nodes.proofs.Printing.{behind, value_begins}

some_token : (j : Json) → 0 < length (json_tokens j)
some_token Json.null = omega arith
some_token (Json.boolean b) = omega arith
some_token (Json.number s) = omega arith
some_token (Json.string s) = omega arith
some_token (Json.array js) = omega arith
some_token (Json.object ms) = omega arith

behind_front : (front back : List Token) → drop (length front) (front ++ back) ≡ back
behind_front [] back = refl
behind_front (t ∷ ts) back = behind_front ts back

-- where one whole value stands, the grammar passes it
passes : (all : List Token) (i end : ℕ) → Spans all i end → Passes all i end
passes all i end s =
    let ts = json_tokens s.value in
    let here : drop i all ≡ ts ++ s.back = ap (λ k. drop k all) (sym s.begins)
    ∙ ap (drop (length s.front)) s.whole ∙ behind_front s.front (ts ++ s.back) in
    let past : drop end all ≡ s.back = ap (λ k. drop k all) (s.ends
    ∙ ap (λ k. k + length ts) (sym s.begins) ∙ sym (length-append s.front ts))
    ∙ ap (drop (length (s.front ++ ts))) (s.whole ∙ sym (append_assoc s.front ts s.back))
    ∙ behind_front (s.front ++ ts) s.back in
    let size : length all ≡ length s.front + (length ts + length s.back) = ap length s.whole
    ∙ length-append s.front (ts ++ s.back) ∙ ap (λ k. length s.front + k) (length-append ts s.back) in (
      tree.depth s.value,
      ap (λ l. option_map (λ p. p.1) (value (tree.depth s.value) l)) here
          ∙ ap (option_map (λ p. p.1)) (value-json_tokens s.value (tree.depth s.value) s.back (omega arith))
          ∙ ap Some (sym past),
      omega (arith, s.ends, some_token s.value),
      omega (arith, s.ends, s.begins, size),
    )

-- the line is a value's text, behind blanks
pub whole_line : (src : Source) (decimals : Bool) (from end : ℕ) (empty nodes : List FlatNode)
    → Blanks src.line 0 from
    → Reads src decimals from end 127 empty nodes → end ≡ length src.line → empty ≡ []
    → length nodes ≤ 268435456
    → IsRead decimals src nodes
whole_line src decimals from end empty nodes blanks r all none few =
    let p = behind src.line 0 from end (json_tokens r.value) (value_begins r.value) blanks r.text in
    let printed = ArePrintable-json_tokens r.value r.numbers in
    let rest : drop end src.line ≡ [] = drop_all end src.line (omega arith) in
    let whole : src.line ≡ spell false p.printed = p.text
    ∙ ap (λ l. spell false p.printed ++ l) rest ∙ append-nil (spell false p.printed) in
    let spelled : tokens src.line ≡ json_tokens r.value = ap tokens whole
    ∙ tokens_spelled p.printed p.spelled (subst ArePrintable (sym p.are) printed) ∙ p.are in
    let are : tokens_at src nodes ≡ tokens src.line = r.grows.tokens
    ∙ ap (λ ns. tokens_at src ns ++ json_tokens r.value) none ∙ sym spelled in
    record {
      value = r.value;
      is = document_is r.value (tokens src.line) spelled r.nests;
      spelled = r.numbers;
      nests = r.nests;
      numbers = r.taken;
      are = are;
      linked = λ i e link. subst (λ ts. Passes ts i e) are (passes (tokens_at src nodes) i e
          (r.grows.linked i e (omega (arith, ap length none)) link));
      within = r.grows.within (nothing_within empty none);
      few = few;
    }
  where
    document_is : (j : Json) (ts : List Token) → ts ≡ json_tokens j → tree.depth j ≤ 127
        → option_and_then (λ p. if_last p.0 p.1) (value max_depth ts) ≡ Some j
    document_is j ts e shallow =
        ap (λ l. option_and_then (λ p. if_last p.0 p.1) (value max_depth l)) (e
        ∙ sym (append-nil (json_tokens j)))
        ∙ ap (option_and_then (λ p. if_last p.0 p.1))
        (value-json_tokens j max_depth [] (omega arith))

    nothing_within : (ns : List FlatNode) → ns ≡ [] → AreWithin src ns
    nothing_within ns e = subst (AreWithin src) (sym e) tt
