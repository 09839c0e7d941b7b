-- A line of three fields behind a name and a tab has four.
use Rattle.std.proofs.Common.{◌≡◌, ℕ, List, [], ◌∷◌, ◌++◌, refl, ap, sym, ◌∙◌, subst, arith, append_assoc}
use Rattle.std.proofs.Common.{length}
use Rattle.jp_doc.specs.Lines.{Line}
use Rattle.jp_doc.specs.Location.{Node}
use Rattle.jp_doc.specs.declared.fault.DocFault.{DocFault}
use Rattle.jp_output.specs.FaultLine.{fault_line}
use Rattle.jp_output.specs.Fields.{times, HasThreeFields, HasFourFields, AreLinesOfFour, IsFieldName}
use Rattle.jp_output.specs.Fields.{NodesHaveJsonNumbers}
use Rattle.jp_output.specs.OutputForm.{node_lines_behind}
use Rattle.jp_output.specs.OutputLine.{node_line}
use Rattle.jp_output.proofs.Fields.{times_both, times_first, times_none, node_fields, fault_fields}

module _ (name : List ℕ) (h : IsFieldName name) where
  pub behind_a_name : (line : List ℕ) → HasThreeFields line → HasFourFields (name ++ 9 ∷ line)
  behind_a_name line k = record {
    tabs = omega (arith, times_both 9 name (9 ∷ line), times_first 9 9 line, h.0, k.tabs);
    line_feeds = omega (arith, times_both 10 name (9 ∷ line), times_first 10 9 line, h.1, k.line_feeds);
    ends = (
      name ++ 9 ∷ k.ends.0,
      ap (λ (l : List ℕ). name ++ 9 ∷ l) k.ends.1 ∙ sym (append_assoc name (9 ∷ k.ends.0) (10 ∷ [])),
    );
  }

  abbrev head : List ℕ
  head = name ++ 9 ∷ []

  behind_head : (line : List ℕ) → HasThreeFields line → HasFourFields (head ++ line)
  behind_head line k = subst HasFourFields (sym (append_assoc name (9 ∷ []) line)) (behind_a_name line k)

  pub fault_behind : (number : ℕ) (f : DocFault) → HasFourFields ((node_lines_behind head).of_fault number f)
  fault_behind number f = behind_head (fault_line number f) (fault_fields number f)

  pub nodes_behind : (l : Line) (ns : List Node) → NodesHaveJsonNumbers ns
      → AreLinesOfFour ((node_lines_behind head).of_document l ns)
  nodes_behind l [] k = ([], tt, refl)
  nodes_behind l (n ∷ ns) k =
      let line = head ++ node_line l.0 n in
      let rest = nodes_behind l ns k.1 in (
        line ∷ rest.0,
        (behind_head (node_line l.0 n) (node_fields l.0 n k.0), rest.1),
        ap (λ (bytes : List ℕ). line ++ bytes) rest.2,
      )

  pub counted_behind : (l : Line) (ns : List Node) → NodesHaveJsonNumbers ns
      → times 10 ((node_lines_behind head).of_document l ns) ≡ length ns
  counted_behind l [] k = times_none 10
  counted_behind l (n ∷ ns) k = omega (
    arith,
    times_both 10 (head ++ node_line l.0 n) ((node_lines_behind head).of_document l ns),
    (behind_head (node_line l.0 n) (node_fields l.0 n k.0)).line_feeds,
    counted_behind l ns k.1,
  )
