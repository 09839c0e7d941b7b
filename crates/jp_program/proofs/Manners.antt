-- The manner of a run, by its settings and by what was wanted; and what a run tells, by its manner.
use Rattle.std.proofs.Common.{◌≡◌, ◌∙◌, ℕ, ◌+◌, ◌<◌, ◌⊎◌, Bool, true, false, List, [], ◌∷◌, ◌++◌}
use Rattle.std.proofs.Common.{Option, Some, None, IfSome, if◌then◌else◌, length, ap, sym, option_map, subst}
use Rattle.std.specs.Borrow.{Bor}
use Rattle.std.specs.Io.KnownBytes.{Appends, Consumes}
use Rattle.clap.specs.Walk.{Text}
use Rattle.jp_doc.specs.declared.fault.DocFault.{DocFault}
use Rattle.jp_answer.specs.Answer.{Answer}
use Rattle.jp_answer.specs.FilteredQuery.{FilteredQuery}
use Rattle.jp_answer.specs.Policy.{policy}
use Rattle.jp_answer.specs.declared.on_fault.OnFault.{OnFault}
use Rattle.jp_number.specs.declared.numbers.Numbers.{Numbers}
use Rattle.jp_output.specs.Layouts.{laid_out}
use Rattle.jp_output.specs.OutputForm.{OutputForm, row_lines}
use Rattle.jp_output.specs.Rows.{Path}
use Rattle.jp_output.specs.declared.layout.Ending.{Ending}
use Rattle.jp_run.specs.AskedTexts.{AreAcceptedIn, AskedTexts}
use Rattle.jp_run.specs.Answered.{IsAnswerBy, head_behind}
use Rattle.jp_run.specs.Counts.{counted}
use Rattle.jp_run.specs.Cutting.{Numbering, documents_in, last_number}
use Rattle.jp_run.specs.Handed.{IsHandedBy}
use Rattle.jp_run.specs.Limits.{max_lines, max_reads}
use Rattle.jp_run.specs.Forms.{form_of}
use Rattle.jp_run.specs.Manner.{Manner, manner}
use Rattle.jp_run.specs.Written.{AppendsFront}
use Rattle.jp_run.specs.declared.cutting.Cutting.{Cutting}
use Rattle.jp_run.specs.declared.output.Output.{Output}
use Rattle.jp_run.specs.declared.output.Output.TheVariants.{Rows}

-- a numbering is one by what it is made of
pub numbering_so : (c d : Cutting) (m n : ℕ) → c ≡ d → m ≡ n
    → ◌≡◌ {A = Numbering} (record { cutting = c; before = m }) (record { cutting = d; before = n })
numbering_so c d m n cutting before =
    ap (λ (z : Cutting). record { cutting = z; before = m }) cutting
    ∙ ap (λ (z : ℕ). record { cutting = d; before = z }) before

-- and so is a manner
pub manner_so : (c d : Numbering) (o p : Output) (h k : List ℕ) (e f : Ending) (r s : List Path) (a b :
    Numbers)
    (x y : OnFault) → c ≡ d → o ≡ p → h ≡ k → e ≡ f → r ≡ s → a ≡ b → x ≡ y
    → manner c (form_of o (laid_out h e r)) (policy a x) ≡ manner d (form_of p (laid_out k f s)) (policy b y)
manner_so c d o p h k e f r s a b x y numbering output head ending fields numbers on_fault =
    ap (λ (z : Numbering). manner z (form_of o (laid_out h e r)) (policy a x)) numbering
    ∙ ap (λ (z : Output). manner d (form_of z (laid_out h e r)) (policy a x)) output
    ∙ ap (λ (z : List ℕ). manner d (form_of p (laid_out z e r)) (policy a x)) head
    ∙ ap (λ (z : Ending). manner d (form_of p (laid_out k z r)) (policy a x)) ending
    ∙ ap (λ (z : List Path). manner d (form_of p (laid_out k f z)) (policy a x)) fields
    ∙ ap (λ (z : Numbers). manner d (form_of p (laid_out k f s)) (policy z x)) numbers
    ∙ ap (λ (z : OnFault). manner d (form_of p (laid_out k f s)) (policy b z)) on_fault

-- where nodes are not counted the wanted form is that which is named, and where they are it is rows of no
-- fields
module _ (counts : Bool) (other : OutputForm) where
  pub uncounted_so : (m : Manner) (d : Numbering) (b : Numbers) (y : OnFault) → counts ≡ false
      → m ≡ manner d other (policy b y)
      → m ≡ manner d (if counts then row_lines [] else other) (policy b y)
  uncounted_so m d b y off is = is
      ∙ sym (ap (λ (k : Bool). manner d (if k then row_lines [] else other) (policy b y)) off)

  pub counted_so : (c d : Numbering) (o : Output) (h : List ℕ) (e : Ending) (r : List Path) (a b : Numbers)
      (x y : OnFault) → counts ≡ true → c ≡ d → o ≡ Rows → r ≡ [] → a ≡ b → x ≡ y
      → manner c (form_of o (laid_out h e r)) (policy a x)
      ≡ manner d (if counts then row_lines [] else other) (policy b y)
  counted_so c d o h e r a b x y on numbering output fields numbers on_fault =
      ap (λ (z : Numbering). manner z (form_of o (laid_out h e r)) (policy a x)) numbering
      ∙ ap (λ (z : Output). manner d (form_of z (laid_out h e r)) (policy a x)) output
      ∙ ap (λ (z : List Path). manner d (row_lines z) (policy a x)) fields
      ∙ ap (λ (z : Numbers). manner d (row_lines []) (policy z x)) numbers
      ∙ ap (λ (z : OnFault). manner d (row_lines []) (policy b z)) on_fault
      ∙ sym (ap (λ (k : Bool). manner d (if k then row_lines [] else other) (policy b y)) on)

-- what each line stands behind, where lines are to name their file, and where they are not
module _ (names : Bool) (name : Bor Text) (given : Option (Bor Text)) where
  pub head_named : names ≡ true → given ≡ Some name → head_behind (option_map (λ n. n.now) given)
      ≡ (if names then name.now ++ 9 ∷ [] else [])
  head_named on is = ap (λ (o : Option (Bor Text)). head_behind (option_map (λ n. n.now) o)) is
      ∙ sym (ap (λ (b : Bool). if b then name.now ++ 9 ∷ [] else []) on)

  pub head_unnamed : names ≡ false → given ≡ None → head_behind (option_map (λ n. n.now) given)
      ≡ (if names then name.now ++ 9 ∷ [] else [])
  head_unnamed off is = ap (λ (o : Option (Bor Text)). head_behind (option_map (λ n. n.now) o)) is
      ∙ sym (ap (λ (b : Bool). if b then name.now ++ 9 ∷ [] else []) off)

-- what is accepted with the numbers that are wanted is accepted with those of the settings
pub accepted_so : {n m : Numbers} {asked : AskedTexts} {q : FilteredQuery} → n ≡ m
    → AreAcceptedIn m asked q → AreAcceptedIn n asked q
accepted_so {asked = asked} {q = q} same = subst (λ (k : Numbers). AreAcceptedIn k asked q) (sym same)

-- what a run tells of an input, by its manner

abbrev pub ToldBy : Manner → AskedTexts → Option (ℕ × DocFault) → Option (List ℕ) → Option (List ℕ)
    → Option (List ℕ) → Type 0
ToldBy m asked stopped input old new = IfSome input (λ bytes. (a : Answer) × IsAnswerBy m asked bytes a
    × (a.stopped ≡ stopped) × Appends old new a.bytes)

abbrev pub WroteBy : Manner → AskedTexts → Option (List ℕ) → ℕ → Type 0
WroteBy m asked input wrote = IfSome input (λ bytes. (a : Answer) × IsAnswerBy m asked bytes a
    × (wrote ≡ counted 0 (length a.bytes)))

abbrev pub FrontBy : Manner → AskedTexts → Option (List ℕ) → Option (List ℕ) → Option (List ℕ) → Type 0
FrontBy m asked input old new = IfSome input (λ bytes. (a : Answer) → IsAnswerBy m asked bytes a
    → AppendsFront old new a.bytes)

abbrev pub CutBy : Manner → AskedTexts → Bool → Option (List ℕ) → Option (List ℕ) → Option (List ℕ)
    → Option (List ℕ) → Type 0
CutBy m asked failed input rest old new = (failed ≡ true) × (bytes : List ℕ) × Consumes input rest bytes
    × IsHandedBy m asked (documents_in m.numbering bytes) None old new

abbrev pub LimitBy : Manner → ℕ → ℕ → Option (List ℕ) → Option (List ℕ) → Type 0
LimitBy m reads reads_new input rest = (reads_new ≡ reads + max_reads)
    ⊎ ((bytes : List ℕ) × Consumes input rest bytes × (max_lines < last_number m.numbering bytes))
