-- What is asked of lines whose numbers are whole: a query of every document.
use Rattle.std.proofs.Common.{◌≡◌, ◌∙◌, ℕ, List, [], ap, sym}
use Rattle.jp_doc.specs.Lines.{Line}
use Rattle.jp_number.specs.declared.numbers.Numbers.TheVariants.{Whole}
use Rattle.jp_tree.specs.Tree.{Query}
use Rattle.jp_pattern.specs.Tests.{Tests}
use Rattle.jp_output.specs.OutputForm.{node_lines_behind}
use Rattle.jp_output.specs.declared.layout.Layout.{Layout}
use Rattle.jp_answer.specs.Answer.{answer_by}
use Rattle.jp_answer.specs.Asking.{asked_query}
use Rattle.jp_answer.specs.FilteredQuery.{FilteredQuery, unfiltered}
use Rattle.jp_answer.specs.Policy.{policy}
use Rattle.jp_answer.specs.declared.asked.Asked.{Asked}
use Rattle.jp_answer.specs.declared.on_fault.OnFault.{OnFault}
use Rattle.jp_answer.specs.declared.policy.LinePolicy.{LinePolicy}

pub asked_so : (asked : Asked) (layout : Layout) (q : Query) (k : OnFault) (t : Tests) (lines : List Line)
    → asked_query asked ≡ unfiltered q → asked.layout.now ≡ layout → asked.policy ≡ policy Whole k
    → layout.head ≡ []
    → answer_by (node_lines_behind []) (policy Whole k) t (unfiltered q) lines
    ≡ answer_by (node_lines_behind asked.layout.now.head) asked.policy t (asked_query asked) lines
asked_so asked layout q k t lines same layouts policies none =
    let head = asked.layout.now.head in
    ap (λ (h : List ℕ). answer_by (node_lines_behind h) (policy Whole k) t (unfiltered q) lines)
    (sym (ap (λ (l : Layout). l.head) layouts ∙ none))
    ∙ ap (λ (p : LinePolicy). answer_by (node_lines_behind head) p t (unfiltered q) lines) (sym policies)
    ∙ ap (λ (r : FilteredQuery). answer_by (node_lines_behind head) asked.policy t r lines) (sym same)
