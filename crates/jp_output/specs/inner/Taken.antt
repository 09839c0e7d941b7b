-- A working file, which nobody has to believe: the lines of several nodes, for proofs alone.
use Rattle.std.proofs.Common.{◌≡◌, ℕ, Bool, true, false, ◌||◌, List, [], ◌∷◌, ◌++◌, refl, ap, sym, ◌∙◌}
use Rattle.std.proofs.Common.{append_assoc, append-nil, ap₂}
use Rattle.std.specs.List.{fold, flat_map}
use Rattle.jp_doc.specs.Json.{Json}
use Rattle.jp_doc.specs.Location.{Node}
use Rattle.jp_output.specs.InputLine.{input_line, put_selected, end_line}
use Rattle.jp_output.specs.OutputForm.{node_lines_behind, row_lines, values_ended_by}
use Rattle.jp_output.specs.OutputLine.{node_line, put_line, ended_by, put_ended}
use Rattle.jp_output.specs.Rows.{Path, row_line, put_row}

-- the lines of nodes, each behind a head
abbrev pub lines_behind : List ℕ → ℕ → List Node → List ℕ
lines_behind head number ns = flat_map (λ n. head ++ node_line number n) ns

pub lines_fold : (head : List ℕ) (number : ℕ) (bytes : List ℕ) (ns : List Node)
    → fold put_line (head, number, bytes) ns ≡ (head, number, bytes ++ lines_behind head number ns)
lines_fold head number bytes [] = ap (λ bs. (head, number, bs)) (sym (append-nil bytes))
lines_fold head number bytes (n ∷ ns) =
    lines_fold head number (bytes ++ (head ++ node_line number n)) ns
    ∙ ap (λ bs. (head, number, bs))
    (append_assoc bytes (head ++ node_line number n) (lines_behind head number ns))

-- the lines of one visitor behind those of another, of the same document
pub lines_append : (head : List ℕ) (number : ℕ) (bytes : List ℕ) (more : List ℕ × ℕ × List ℕ)
    (ns : List Node) → more ≡ fold put_line (head, number, []) ns
    → (head, number, bytes ++ more.2) ≡ fold put_line (head, number, bytes) ns
lines_append head number bytes more ns e =
    ap (λ (k : List ℕ × ℕ × List ℕ). (head, number, bytes ++ k.2)) (e ∙ lines_fold head number [] ns)
    ∙ sym (lines_fold head number bytes ns)

-- the head stays, and so does what the form says
pub head_stays : (begun visited : List ℕ × ℕ × List ℕ) (ns : List Node) → visited ≡ fold put_line begun ns
    → node_lines_behind visited.0 ≡ node_lines_behind begun.0
head_stays (head, number, bytes) visited ns v =
    ap (λ (l : List ℕ × ℕ × List ℕ). node_lines_behind l.0) (v ∙ lines_fold head number bytes ns)

-- a line that was begun and visited has the lines of its nodes
pub lines_written : (begun visited : List ℕ × ℕ × List ℕ) (number : ℕ) (before line : List ℕ)
    (ns : List Node) → (begun.1 ≡ number) × (begun.2 ≡ before) → visited ≡ fold put_line begun ns
    → visited.2 ≡ before ++ lines_behind begun.0 number ns
lines_written (head, begun, bytes) visited number before line ns b v =
    ap (λ (l : List ℕ × ℕ × List ℕ). l.2) (v ∙ lines_fold head begun bytes ns)
    ∙ ap₂ (λ (k : ℕ) (bs : List ℕ). bs ++ lines_behind head k ns) b.0 b.1

-- where each node gives the text of its value, and a byte
module _ (text : Json → List ℕ) where
  values_fold : (ending : ℕ) (bytes : List ℕ) (ns : List Node)
      → fold (put_ended text) (ending, bytes) ns ≡ (ending, bytes ++ flat_map (ended_by ending text) ns)
  values_fold ending bytes [] = ap (λ bs. (ending, bs)) (sym (append-nil bytes))
  values_fold ending bytes (n ∷ ns) =
      values_fold ending (bytes ++ ended_by ending text n) ns
      ∙ ap (λ bs. (ending, bs))
      (append_assoc bytes (ended_by ending text n) (flat_map (ended_by ending text) ns))

  -- the bytes of one visitor behind those of another
  pub values_append : (ending : ℕ) (bytes : List ℕ) (more : ℕ × List ℕ) (ns : List Node)
      → more ≡ fold (put_ended text) (ending, []) ns
      → (ending, bytes ++ more.1) ≡ fold (put_ended text) (ending, bytes) ns
  values_append ending bytes more ns e =
      ap (λ (k : ℕ × List ℕ). (ending, bytes ++ k.1)) (e ∙ values_fold ending [] ns)
      ∙ sym (values_fold ending bytes ns)

  -- the byte stays, and so does what the form says
  pub ending_stays : (begun visited : ℕ × List ℕ) (ns : List Node)
      → visited ≡ fold (put_ended text) begun ns
      → values_ended_by visited.0 text ≡ values_ended_by begun.0 text
  ending_stays (ending, bytes) visited ns v =
      ap (λ (k : ℕ × List ℕ). values_ended_by k.0 text) (v ∙ values_fold ending bytes ns)

  pub values_written : (begun visited : ℕ × List ℕ) (before : List ℕ) (ns : List Node) → begun.1 ≡ before
      → visited ≡ fold (put_ended text) begun ns
      → visited.1 ≡ before ++ flat_map (ended_by begun.0 text) ns
  values_written (ending, bytes) visited before ns b v =
      ap (λ (k : ℕ × List ℕ). k.1) (v ∙ values_fold ending bytes ns)
      ∙ ap (λ (k : List ℕ). k ++ flat_map (ended_by ending text) ns) b

-- where each node gives a row
rows_fold : (fs : List Path) (bytes : List ℕ) (ns : List Node)
    → fold put_row (fs, bytes) ns ≡ (fs, bytes ++ flat_map (row_line fs) ns)
rows_fold fs bytes [] = ap (λ bs. (fs, bs)) (sym (append-nil bytes))
rows_fold fs bytes (n ∷ ns) =
    rows_fold fs (bytes ++ row_line fs n) ns
    ∙ ap (λ bs. (fs, bs)) (append_assoc bytes (row_line fs n) (flat_map (row_line fs) ns))

-- the rows of one visitor behind those of another
pub rows_append : (fs : List Path) (bytes : List ℕ) (more : List Path × List ℕ) (ns : List Node)
    → more ≡ fold put_row (fs, []) ns
    → (fs, bytes ++ more.1) ≡ fold put_row (fs, bytes) ns
rows_append fs bytes more ns e =
    ap (λ (k : List Path × List ℕ). (fs, bytes ++ k.1)) (e ∙ rows_fold fs [] ns)
    ∙ sym (rows_fold fs bytes ns)

-- the fields stay, and so does what the form says
pub fields_stay : (begun visited : List Path × List ℕ) (ns : List Node) → visited ≡ fold put_row begun ns
    → row_lines visited.0 ≡ row_lines begun.0
fields_stay (fs, bytes) visited ns v =
    ap (λ (k : List Path × List ℕ). row_lines k.0) (v ∙ rows_fold fs bytes ns)

pub rows_written : (begun visited : List Path × List ℕ) (before : List ℕ) (ns : List Node)
    → begun.1 ≡ before → visited ≡ fold put_row begun ns
    → visited.1 ≡ before ++ flat_map (row_line begun.0) ns
rows_written (fs, bytes) visited before ns b v =
    ap (λ (k : List Path × List ℕ). k.1) (v ∙ rows_fold fs bytes ns)
    ∙ ap (λ (k : List ℕ). k ++ flat_map (row_line fs) ns) b

-- where the first node decides
selected_stays : (bytes : List ℕ) (ns : List Node) → fold put_selected (true, bytes) ns ≡ (true, bytes)
selected_stays bytes [] = refl
selected_stays bytes (n ∷ ns) = selected_stays bytes ns

pub selected_append : (selected : Bool) (bytes : List ℕ) (more : Bool × List ℕ) (ns : List Node)
    → more ≡ fold put_selected (false, []) ns
    → (selected || more.0, bytes) ≡ fold put_selected (selected, bytes) ns
selected_append true bytes more ns e = sym (selected_stays bytes ns)
selected_append false bytes more [] e = ap (λ (k : Bool × List ℕ). (k.0, bytes)) e
selected_append false bytes more (n ∷ ns) e =
    ap (λ (k : Bool × List ℕ). (k.0, bytes)) (e ∙ selected_stays [] ns) ∙ sym (selected_stays bytes ns)

pub selected_written : (begun visited : Bool × List ℕ) (before line : List ℕ) (ns : List Node)
    → begun ≡ (false, before) → visited ≡ fold put_selected begun ns
    → end_line visited line ≡ before ++ input_line line ns
selected_written begun visited before line [] b v =
    ap (λ (k : Bool × List ℕ). end_line k line) (v ∙ b) ∙ sym (append-nil before)
selected_written begun visited before line (n ∷ ns) b v =
    ap (λ (k : Bool × List ℕ). end_line k line)
    (v ∙ ap (λ (k : Bool × List ℕ). fold put_selected k (n ∷ ns)) b ∙ selected_stays before ns)
