-- What a query text is answered with over a byte stream, and what the answers of `src/` stand for.
use Rattle.std.specs.Prelude.{◌≡◌, ℕ, List, [], ◌∷◌, ◌++◌, Option, None, Some}
use Rattle.std.specs.Prelude.{map, option_map}
use Rattle.jp_doc.specs.Lines.{Line}
use Rattle.jp_tree.specs.Tree.{Text, Query}
use Rattle.jp_pattern.specs.Tests.{Tests, AreRight}
use Rattle.jp_check.specs.Verdict.{IsAccepted}
use Rattle.jp_answer.specs.Answer.{Answer, answer_by, stream_answer}
use Rattle.jp_answer.specs.FilteredQuery.{FilteredQuery}
use Rattle.jp_output.specs.Layouts.{laid_out}
use Rattle.jp_output.specs.OutputForm.{OutputForm}
use Rattle.jp_output.specs.Rows.{field_of}
use Rattle.jp_output.specs.declared.layout.Layout.{Layout}
use Rattle.jp_answer.specs.Policy.{policy, passed_in as lines_passed}
use Rattle.jp_run.specs.AskedTexts.{AskedTexts, AreAcceptedIn}
use Rattle.jp_run.specs.Cutting.{Numbering, documents}
use Rattle.jp_run.specs.Forms.{form_of}
use Rattle.jp_run.specs.Manner.{Manner, manner}
use Rattle.jp_run.specs.declared.settings.Settings.{Settings}
use Rattle.jp_run.specs.declared.outcome.Answer as stopping
use Rattle.jp_run.specs.declared.outcome.Whole as going_on

-- what each line stands behind: the name and a tab, if there is a name
abbrev pub head_behind : Option (List ℕ) → List ℕ
head_behind None = []
head_behind (Some name) = name ++ 9 ∷ []

abbrev pub head_of : Settings → List ℕ
head_of s = head_behind (option_map (λ name. name.now) s.name)

-- and besides what stands behind each value, and what each row has
abbrev pub layout_of : Settings → Layout
layout_of s = laid_out (head_of s) s.ending (map field_of s.fields.now)

-- how input is cut and numbered by the settings
abbrev pub numbering_of : Settings → Numbering
numbering_of s = record { cutting = s.cutting; before = s.before }

-- by the settings, in their form and in some form
abbrev pub manner_of : Settings → Manner
manner_of s = manner (numbering_of s) (form_of s.output (layout_of s)) (policy s.numbers s.on_fault)

abbrev pub manner_in : (Layout → OutputForm) → Settings → Manner
manner_in form s = manner (numbering_of s) (form (layout_of s)) (policy s.numbers s.on_fault)

-- how many faulty lines the answer passes
abbrev pub passed_in : Settings → List Line → ℕ
passed_in s ls = lines_passed (policy s.numbers s.on_fault) ls

-- the text is accepted, its numbers whole, and this is the answer to the stream of the query that it spells
abbrev pub IsAnswerTo : Text → List ℕ → Answer → Type 0
IsAnswerTo text input a = (q : Query) × IsAccepted text q
    × ((t : Tests) → AreRight t → stream_answer t q input ≡ a)

-- what is asked is accepted with the numbers of the manner, and this is the answer in that manner to the
-- input, which is cut and numbered as the manner says
abbrev pub IsAnswerBy : Manner → AskedTexts → List ℕ → Answer → Type 0
IsAnswerBy going asked input a = (q : FilteredQuery) × AreAcceptedIn going.policy.numbers asked q
    × ((t : Tests) → AreRight t → answer_by going.form going.policy t q (documents going.numbering input) ≡ a)

-- what an `Answer` of `src/` stands for, and a `Whole`
abbrev pub answer_of : stopping.Answer → Answer
answer_of a = record {
  bytes = a.bytes.items;
  stopped = option_map (λ s. (s.line, s.fault)) a.stopped;
  faulty = 0;
}

abbrev pub whole_of : going_on.Whole → Answer
whole_of w = record { bytes = w.bytes.items; stopped = None; faulty = w.faulty }
