use Rattle.std.proofs.Common.{◌≡◌, ◌∙◌, ℕ, ◌≤◌, ◌<◌, true, length, List, refl, sym, ap, arith, inr, [], ◌∷◌}
use Rattle.std.proofs.Common.{Some, Option, codes}
use Rattle.std.proofs.Common.{subst, unwrap_or}
use Rattle.std.proofs.lemmas.List.Elements.{All-head}
use Rattle.std.specs.List.{All}
use Rattle.std.specs.Str.{chars}
use Rattle.std.specs.Str.Parse.{digits_value, without_leading_plus}
use Rattle.clap.specs.Walk.{Text, all_of, one_of, first_of}
use Rattle.clap.proofs.OnLiterals.{clap_on_literals}
use Rattle.jp_output.specs.declared.layout.Ending.{Ending}
use Rattle.jp_output.specs.declared.layout.Ending.TheVariants.{LineFeed, Null}
use Rattle.jp_run.specs.declared.output.Output.{Output}
use Rattle.jp_run.specs.declared.output.Output.TheVariants.{Nodes, Values, Texts, Raw, Rows, Lines}
use Rattle.jp_program.specs.CommandLine.{said, refusals}
use Rattle.jp_program.specs.Wanted.{GoesWith, IsName, ends_with_null, flag_text, is_of_values, output_text}
use Rattle.jp_program.proofs.Naming.{controlled}
use Rattle.jp_program.proofs.examples.out_of_range.Goals as goal

some_same : (x y : Text) → ◌≡◌ (Some x) (Some y) → x ≡ y
some_same x y e = cc

words : List Text
words = codes "jp" ∷ codes "--workers" ∷ codes "65" ∷ codes "$" ∷ []

workers_are : one_of (codes "workers") (said words) ≡ Some (codes "65")
unfolding clap_on_literals said refusals words
workers_are = refl

pub returns-clause-workers : goal.returns-clause-workers
unfolding clap_on_literals said refusals words
returns-clause-workers c = inr (
  refl,
  λ w s.
      let text = s.settings.0.0 in
      let is : codes "65" ≡ text = some_same (codes "65") text (sym workers_are ∙ s.settings.0.1) in
      let number : digits_value 10 (without_leading_plus text) ≡ 65 =
      ap (λ t. digits_value 10 (without_leading_plus t)) (sym is) in
      absurd (omega (arith, number, s.settings.0.3, s.settings.3.0.1)),
)

zero : List Text
zero = codes "jp" ∷ codes "--first" ∷ codes "0" ∷ codes "$" ∷ []

zero_is : one_of (codes "first") (said zero) ≡ Some (codes "0")
unfolding clap_on_literals said refusals zero
zero_is = refl

pub returns-clause-first : goal.returns-clause-first
unfolding clap_on_literals said refusals zero
returns-clause-first c = inr (
  refl,
  λ w s.
      let text = s.settings.4.0.0 in
      let is : codes "0" ≡ text = some_same (codes "0") text (sym zero_is ∙ s.settings.4.0.1) in
      let number : digits_value 10 (without_leading_plus text) ≡ 0 =
      ap (λ t. digits_value 10 (without_leading_plus t)) (sym is) in
      absurd (omega (arith, number, s.settings.4.0.3)),
)

above : List Text
above = codes "jp" ∷ codes "--first" ∷ codes "4294967296" ∷ codes "$" ∷ []

above_is : one_of (codes "first") (said above) ≡ Some (codes "4294967296")
unfolding clap_on_literals said refusals above
above_is = refl

pub returns-clause-first_above : goal.returns-clause-first_above
unfolding clap_on_literals said refusals above
returns-clause-first_above c = inr (
  refl,
  λ w s.
      let text = s.settings.4.0.0 in
      let is : codes "4294967296" ≡ text =
      some_same (codes "4294967296") text (sym above_is ∙ s.settings.4.0.1) in
      let number : digits_value 10 (without_leading_plus text) ≡ 4294967296 =
      ap (λ t. digits_value 10 (without_leading_plus t)) (sym is) in
      absurd (omega (arith, number, s.settings.4.0.3, s.settings.4.1.1)),
)

-- a word that names a form begins with a letter behind `k`

abbrev first : Text → ℕ
first [] = 0
first (b ∷ bs) = b

word_begins : (o : Output) → 107 < first (output_text o)
word_begins Nodes = let is : first (output_text Nodes) ≡ 110 = refl in omega (arith, is)
word_begins Values = let is : first (output_text Values) ≡ 118 = refl in omega (arith, is)
word_begins Texts = let is : first (output_text Texts) ≡ 116 = refl in omega (arith, is)
word_begins Raw = let is : first (output_text Raw) ≡ 114 = refl in omega (arith, is)
word_begins Rows = let is : first (output_text Rows) ≡ 114 = refl in omega (arith, is)
word_begins Lines = let is : first (output_text Lines) ≡ 108 = refl in omega (arith, is)

no_form : (word : Text) (o : Output) (said : Option Text) → said ≡ Some word → said ≡ Some (output_text o)
    → first word < 107 → ⊥
no_form word o said e s few =
    let same : first word ≡ first (output_text o) = ap first (some_same word (output_text o) (sym e ∙ s)) in
    omega (arith, same, few, word_begins o)

csv : List Text
csv = codes "jp" ∷ codes "--output" ∷ codes "csv" ∷ codes "$" ∷ []

csv_is : first_of (codes "output") (said csv) ≡ Some (codes "csv")
unfolding clap_on_literals said refusals csv
csv_is = refl

pub returns-clause-form : goal.returns-clause-form
unfolding clap_on_literals said refusals csv
returns-clause-form c =
    inr (
      refl,
      λ w s. no_form (codes "csv") w.output (first_of (codes "output") (said csv)) csv_is s.output
          (let is : first (codes "csv") ≡ 99 = refl in omega (arith, is)),
    )

capital : List Text
capital = codes "jp" ∷ codes "--output=Nodes" ∷ codes "$" ∷ []

capital_is : first_of (codes "output") (said capital) ≡ Some (codes "Nodes")
unfolding clap_on_literals said refusals capital
capital_is = refl

pub returns-clause-letters : goal.returns-clause-letters
unfolding clap_on_literals said refusals capital
returns-clause-letters c = inr (
  refl,
  λ w s. no_form (codes "Nodes") w.output (first_of (codes "output") (said capital)) capital_is s.output
      (let is : first (codes "Nodes") ≡ 78 = refl in omega (arith, is)),
)

-- U+0000 behind what is no value

high_word : (o : Output) → is_of_values o ≡ true → 114 ≤ first (output_text o)
high_word Values h = let is : first (output_text Values) ≡ 118 = refl in omega (arith, is)
high_word Texts h = let is : first (output_text Texts) ≡ 116 = refl in omega (arith, is)
high_word Raw h = let is : first (output_text Raw) ≡ 114 = refl in omega (arith, is)
high_word Nodes h = absurd (cc)
high_word Rows h = absurd (cc)
high_word Lines h = absurd (cc)

not_ended : (word : Text) (o : Output) (e : Ending) (said null : Option Text) → said ≡ Some word
    → said ≡ Some (output_text o) → null ≡ Some (codes "true") → null ≡ Some (flag_text (ends_with_null e))
    → GoesWith e o → first word < 114 → ⊥
not_ended word o Null said null is says there flag goes low =
    let same : first word ≡ first (output_text o) = ap first (some_same word (output_text o) (sym is ∙ says))
    in
    omega (arith, same, low, high_word o goes)
not_ended word o LineFeed said null is says there flag goes low =
    let no : codes "true" ≡ codes "false" = some_same (codes "true") (codes "false") (sym there ∙ flag) in
    absurd (omega (arith, ap length no))

nodes : List Text
nodes = codes "jp" ∷ codes "-0" ∷ codes "$" ∷ []

nodes_is : first_of (codes "output") (said nodes) ≡ Some (codes "nodes")
unfolding clap_on_literals said refusals nodes
nodes_is = refl

nodes_null : one_of (codes "null") (said nodes) ≡ Some (codes "true")
unfolding clap_on_literals said refusals nodes
nodes_null = refl

pub returns-clause-null_behind_nodes : goal.returns-clause-null_behind_nodes
unfolding clap_on_literals said refusals nodes
returns-clause-null_behind_nodes c = inr (
  refl,
  λ w s. not_ended (codes "nodes") w.output w.ending (first_of (codes "output") (said nodes))
      (one_of (codes "null") (said nodes)) nodes_is s.output nodes_null s.ending.0 s.ending.1
      (let is : first (codes "nodes") ≡ 110 = refl in omega (arith, is)),
)

lines : List Text
lines = codes "jp" ∷ codes "--null" ∷ codes "-o" ∷ codes "lines" ∷ codes "$" ∷ []

lines_is : first_of (codes "output") (said lines) ≡ Some (codes "lines")
unfolding clap_on_literals said refusals lines
lines_is = refl

lines_null : one_of (codes "null") (said lines) ≡ Some (codes "true")
unfolding clap_on_literals said refusals lines
lines_null = refl

pub returns-clause-null_behind_lines : goal.returns-clause-null_behind_lines
unfolding clap_on_literals said refusals lines
returns-clause-null_behind_lines c = inr (
  refl,
  λ w s. not_ended (codes "lines") w.output w.ending (first_of (codes "output") (said lines))
      (one_of (codes "null") (said lines)) lines_is s.output lines_null s.ending.0 s.ending.1
      (let is : first (codes "lines") ≡ 108 = refl in omega (arith, is)),
)

line_feed : List Text
line_feed = codes "jp" ∷ codes "$" ∷ codes "x\n" ∷ []

files_are : unwrap_or (all_of (codes "file") (said line_feed)) [] ≡ codes "x\n" ∷ []
unfolding clap_on_literals said refusals line_feed
files_are = refl

pub returns-clause-name : goal.returns-clause-name
unfolding clap_on_literals said refusals line_feed
returns-clause-name c = inr (
  refl,
  λ w s.
      let names : All IsName (codes "x\n" ∷ []) = subst (All IsName) (sym s.files.0 ∙ files_are) s.files.1 in
      controlled (chars (codes "x\n")) 1 10 (omega arith) refl refl (All-head IsName (codes "x\n") [] names),
)
