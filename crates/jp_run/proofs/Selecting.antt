-- An answer without a byte, and documents of which nothing is selected.
use Rattle.std.proofs.Common.{◌≡◌, ℕ, List, [], ◌∷◌, ◌++◌, Option, None, Result, Ok, Err, IfOk}
use Rattle.std.proofs.Common.{refl, sym, ◌∙◌, ap, subst, flat_map, decimal}
use Rattle.std.proofs.lemmas.List.Elements.{All-nil, All-cons, All-head, All-tail}
use Rattle.jp_number.specs.declared.numbers.Numbers.{Numbers}
use Rattle.jp_doc.specs.Json.{Json}
use Rattle.jp_doc.specs.Lines.{Line}
use Rattle.jp_doc.specs.Location.{Node}
use Rattle.jp_doc.specs.ReadingIn.{reading_in}
use Rattle.jp_doc.specs.declared.fault.DocFault.{DocFault}
use Rattle.jp_answer.specs.FilteredQuery.{FilteredQuery, selected_nodes}
use Rattle.jp_pattern.specs.Tests.{Tests}
use Rattle.jp_output.specs.Layouts.{ending_byte}
use Rattle.jp_output.specs.OutputLine.{ended_by, node_line, value_text}
use Rattle.jp_output.specs.RawText.{raw_text}
use Rattle.jp_output.specs.Rows.{Path, behind_tabs, field_at, row, row_line}
use Rattle.jp_output.specs.UnquotedText.{unquoted_text}
use Rattle.jp_answer.specs.Answer.{Answer, document_bytes, joined}
use Rattle.jp_answer.specs.Faults.{fault_or, first_fault}
use Rattle.jp_answer.specs.declared.on_fault.OnFault.{OnFault}
use Rattle.jp_answer.specs.declared.on_fault.OnFault.TheVariants.{Stop, KeepGoing}
use Rattle.jp_answer.proofs.Joining.{answer_on, cons_on, line_answer, none_on}
use Rattle.jp_output.specs.declared.layout.Layout.{Layout}
use Rattle.jp_run.specs.Forms.{form_of}
use Rattle.jp_run.specs.Selecting.{SelectsNothing}
use Rattle.jp_run.specs.declared.output.Output.{Output}
use Rattle.jp_run.specs.declared.output.Output.TheVariants.{Nodes, Values, Texts, Raw, Rows, Lines}

has_byte : (xs ys : List ℕ) (b : ℕ) → xs ++ b ∷ ys ≡ [] → ⊥
has_byte [] ys b e = cc
has_byte (x ∷ xs) ys b e = cc

front_none : (xs ys : List ℕ) → xs ++ ys ≡ [] → xs ≡ []
front_none [] ys e = refl
front_none (x ∷ xs) ys e = absurd (cc)

back_none : (xs ys : List ℕ) → xs ++ ys ≡ [] → ys ≡ []
back_none [] ys e = e
back_none (x ∷ xs) ys e = absurd (cc)

-- each form says something of a document exactly where a node is selected
says_nothing : (o : Output) (layout : Layout) (l : Line) → (form_of o layout).of_document l [] ≡ []
says_nothing Nodes layout l = refl
says_nothing Values layout l = refl
says_nothing Texts layout l = refl
says_nothing Raw layout l = refl
says_nothing Rows layout l = refl
says_nothing Lines layout l = refl

values_some : (ending : ℕ) (text : Json → List ℕ) (ns : List Node)
    → flat_map (ended_by ending text) ns ≡ [] → ns ≡ []
values_some ending text [] e = refl
values_some ending text (n ∷ ns) e =
    absurd (has_byte (text n.value) [] ending
    (front_none (ended_by ending text n) (flat_map (ended_by ending text) ns) e))

row_some : (fs : List Path) (v : Json) → row fs v ≡ [] → ⊥
row_some [] v e = has_byte [] [] 10 e
row_some (f ∷ fs) v e =
    has_byte (behind_tabs fs v) [] 10 (back_none (field_at v f) (behind_tabs fs v ++ 10 ∷ []) e)

rows_some : (fs : List Path) (ns : List Node) → flat_map (row_line fs) ns ≡ [] → ns ≡ []
rows_some fs [] e = refl
rows_some fs (n ∷ ns) e = absurd (row_some fs n.value (front_none (row_line fs n) (flat_map (row_line fs)
    ns) e))

nothing_said : (o : Output) (layout : Layout) (l : Line) (ns : List Node)
    → (form_of o layout).of_document l ns ≡ [] → ns ≡ []
nothing_said Nodes layout l [] e = refl
nothing_said Nodes layout l (n ∷ ns) e =
    let rest = flat_map (λ (m : Node). layout.head ++ node_line l.0 m) ns in
    absurd (has_byte (decimal l.0) _ 9
    (back_none layout.head (node_line l.0 n) (front_none (layout.head ++ node_line l.0 n) rest e)))
nothing_said Values layout l ns e = values_some (ending_byte layout.ending) value_text ns e
nothing_said Texts layout l ns e = values_some (ending_byte layout.ending) unquoted_text ns e
nothing_said Raw layout l ns e = values_some (ending_byte layout.ending) raw_text ns e
nothing_said Rows layout l ns e = rows_some layout.fields ns e
nothing_said Lines layout l [] e = refl
nothing_said Lines layout l (n ∷ ns) e = absurd (has_byte l.1 [] 10 e)

rest_none : (number : ℕ) (r : Result Json DocFault) (o : Option (ℕ × DocFault)) → fault_or number r o ≡ None
    → o ≡ None
rest_none number (Ok root) o h = h
rest_none number (Err fault) o h = absurd (cc)

read_here : (number : ℕ) (r : Result Json DocFault) (o : Option (ℕ × DocFault)) → fault_or number r o ≡ None
    → (root : Json) × (r ≡ Ok root)
read_here number (Ok root) o h = (root, refl)
read_here number (Err f) o h = absurd (cc)

module _ (o : Output) (layout : Layout) (n : Numbers) (t : Tests) (q : FilteredQuery) where
  no_lines : (k : OnFault) → (answer_on n (form_of o layout) t q k []).bytes ≡ []
  no_lines k = ap (λ (a : Answer). a.bytes) (none_on n (form_of o layout) t q k)

  said_first : (k : OnFault) (l : Line) (root : Json) (a : Answer)
      → (joined (line_answer (form_of o layout) t q k l (Ok root)) a).bytes
      ≡ document_bytes (form_of o layout) t q l root ++ a.bytes
  said_first Stop l root a = refl
  said_first KeepGoing l root a = refl

  bytes_first : (k : OnFault) (l : Line) (ls : List Line) (root : Json) → reading_in n l.1 ≡ Ok root
      → (answer_on n (form_of o layout) t q k (l ∷ ls)).bytes
      ≡ document_bytes (form_of o layout) t q l root ++ (answer_on n (form_of o layout) t q k ls).bytes
  bytes_first k l ls root is =
      let later : Answer = answer_on n (form_of o layout) t q k ls in
      ap (λ (a : Answer). a.bytes) (cons_on n (form_of o layout) t q k l ls)
      ∙ ap (λ r. (joined (line_answer (form_of o layout) t q k l r) later).bytes) is
      ∙ said_first k l root later

  abbrev Nothing : Line → Type 0
  Nothing l = IfOk (reading_in n l.1) (λ root. selected_nodes t root q ≡ [])

  pub nothing_so : (k : OnFault) (ls : List Line) → first_fault n ls ≡ None
      → (answer_on n (form_of o layout) t q k ls).bytes ≡ [] → SelectsNothing n t q ls
  nothing_so k [] h e = All-nil Nothing
  nothing_so k (l ∷ ls) h e =
      let (root, is) = read_here l.0 (reading_in n l.1) (first_fault n ls) h in
      let both = sym (bytes_first k l ls root is) ∙ e in
      All-cons Nothing l ls
      (subst (λ (r : Result Json DocFault). IfOk r (λ root. selected_nodes t root q ≡ [])) (sym is)
      (nothing_said o layout l (selected_nodes t root q)
      (front_none (document_bytes (form_of o layout) t q l root)
      (answer_on n (form_of o layout) t q k ls).bytes both)))
      (nothing_so k ls (rest_none l.0 (reading_in n l.1) (first_fault n ls) h)
      (back_none (document_bytes (form_of o layout) t q l root)
      (answer_on n (form_of o layout) t q k ls).bytes both))

  pub nothing_written : (k : OnFault) (ls : List Line) → first_fault n ls ≡ None → SelectsNothing n t q ls
      → (answer_on n (form_of o layout) t q k ls).bytes ≡ []
  nothing_written k [] h all = no_lines k
  nothing_written k (l ∷ ls) h all =
      let (root, is) = read_here l.0 (reading_in n l.1) (first_fault n ls) h in
      let none : selected_nodes t root q ≡ [] =
      subst (λ (r : Result Json DocFault). IfOk r (λ root. selected_nodes t root q ≡ [])) is
      (All-head Nothing l ls all) in
      bytes_first k l ls root is
      ∙ ap (λ ns. (form_of o layout).of_document l ns ++ (answer_on n (form_of o layout) t q k ls).bytes) none
      ∙ ap (λ bs. bs ++ (answer_on n (form_of o layout) t q k ls).bytes) (says_nothing o layout l)
      ∙ nothing_written k ls (rest_none l.0 (reading_in n l.1) (first_fault n ls) h)
      (All-tail Nothing l ls all)
