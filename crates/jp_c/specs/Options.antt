-- What the options of C mean.
use Rattle.std.specs.Prelude.{◌≡◌, ℕ, ◌-◌, ◌==◌, ◌<◌, ◌⊎◌, List, [], Option, Some, None, if◌then◌else◌}
use Rattle.std.specs.Str.{chars}
use Rattle.jp_number.specs.declared.numbers.Numbers.{Numbers}
use Rattle.jp_number.specs.declared.numbers.Numbers.TheVariants.{Whole, Decimals}
use Rattle.jp_answer.specs.Policy.{policy}
use Rattle.jp_answer.specs.declared.on_fault.OnFault.{OnFault}
use Rattle.jp_answer.specs.declared.on_fault.OnFault.TheVariants.{Stop, KeepGoing}
use Rattle.jp_output.specs.Layouts.{laid_out}
use Rattle.jp_output.specs.declared.layout.Ending.TheVariants.{LineFeed}
use Rattle.jp_run.specs.AskedTexts.{AskedTexts}
use Rattle.jp_run.specs.Forms.{form_of}
use Rattle.jp_run.specs.Limits.{max_lines}
use Rattle.jp_run.specs.Manner.{Manner, manner}
use Rattle.jp_run.specs.declared.cutting.Cutting.{Cutting}
use Rattle.jp_run.specs.declared.cutting.Cutting.TheVariants as cutting
use Rattle.jp_run.specs.declared.output.Output.{Output}
use Rattle.jp_run.specs.declared.output.Output.TheVariants.{Nodes, Values, Texts, Raw, Lines}
use Rattle.jp_tree.specs.Tree.{Text}
use Rattle.jp_c.specs.declared.options.Options.{Options}

-- the numbers that documents and literals may be
abbrev pub numbers_by : ℕ → Numbers
numbers_by n = if n == 0 then Whole else Decimals

abbrev pub cutting_by : ℕ → Cutting
cutting_by n = if n == 0 then cutting.Lines else cutting.Documents

abbrev pub on_fault_by : ℕ → OnFault
on_fault_by n = if n == 0 then Stop else KeepGoing

-- the form that is named so, if there is one
abbrev pub form_named : ℕ → Option Output
form_named n =
    if n == 0 then Some Nodes else if n == 1 then Some Values else if n == 2 then Some Texts
    else if n == 3 then Some Raw else if n == 4 then Some Lines else None

abbrev pub AreOutOfRange : Options → Type 0
AreOutOfRange o = (form_named o.form ≡ None) ⊎ (max_lines < o.first)

-- the manner that they ask for, in this form: no name stands before a line
abbrev pub manner_by : Options → Output → Manner
manner_by o output = manner (record { cutting = cutting_by o.documents; before = o.first - 1 })
    (form_of output (laid_out [] LineFeed [])) (policy (numbers_by o.decimals) (on_fault_by o.keep_going))

-- the filter that they ask for, of these bytes, if there is one
abbrev pub filter_by : ℕ → List ℕ → Option Text
filter_by n filter = if n == 0 then None else Some (chars filter)

-- what is asked, in these bytes
abbrev pub texts_by : Options → List ℕ → List ℕ → AskedTexts
texts_by o query filter = record { query = chars query; filter = filter_by o.has_filter filter }
