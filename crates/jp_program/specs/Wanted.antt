-- What a command line wants.
use Rattle.std.specs.Prelude.{◌≡◌, ◌≤◌, ◌+◌, ◌⊎◌, ◌||◌, ℕ, Bool, true, false, List, [], Option, Some, length}
use Rattle.std.specs.Prelude.{option_map}
use Rattle.std.specs.Prelude.{unwrap_or, codes, nat_lt}
use Rattle.std.specs.Char.{is_control}
use Rattle.std.specs.List.{All}
use Rattle.std.specs.Str.{chars}
use Rattle.std.specs.Str.Parse.{IsNumeral, digits_value, without_leading_plus}
use Rattle.clap.specs.Walk.{Text, Row, all_of, first_of, one_of}
use Rattle.jp_answer.specs.declared.on_fault.OnFault.{OnFault}
use Rattle.jp_answer.specs.declared.on_fault.OnFault.TheVariants.{Stop, KeepGoing}
use Rattle.jp_number.specs.declared.numbers.Numbers.{Numbers}
use Rattle.jp_number.specs.declared.numbers.Numbers.TheVariants.{Whole, Decimals}
use Rattle.jp_output.specs.declared.layout.Ending.{Ending}
use Rattle.jp_output.specs.declared.layout.Ending.TheVariants.{LineFeed, Null}
use Rattle.jp_field.specs.FieldText.{AreFields}
use Rattle.jp_output.specs.Rows.{Path}
use Rattle.jp_run.specs.Settings.{AreSettings, IsFirst}
use Rattle.jp_run.specs.declared.cutting.Cutting.{Cutting}
use Rattle.jp_run.specs.declared.cutting.Cutting.TheVariants as cutting
use Rattle.jp_run.specs.declared.output.Output.{Output}
use Rattle.jp_run.specs.declared.output.Output.TheVariants.{Nodes, Values, Texts, Raw, Rows, Lines}
use Rattle.jp_program.specs.CommandLine.{said, refusals, IsRefused}

-- the query's text in scalar values, and that of a filter of documents, if there is one, the files by their
-- names in bytes, whether lines are to name theirs, how each is cut into documents, whether what is asked is
-- only checked, whether nodes are only counted, what is written, what ends values, which fields rows have,
-- which numbers documents, the query and the filter may have, what is done where a line is faulty, whether
-- faulty lines are to be explained, whether the status tells that nothing was selected, the settings, and how
-- many lines, or documents, stand before the first of each input
pub record Wanted : Type 0 where
  pub query : List ℕ
  pub filter : Option (List ℕ)
  pub files : List Text
  pub names : Bool
  pub cutting : Cutting
  pub check : Bool
  pub counts : Bool
  pub output : Output
  pub ending : Ending
  pub fields : List Path
  pub numbers : Numbers
  pub on_fault : OnFault
  pub explain : Bool
  pub exit_status : Bool
  pub workers : ℕ
  pub piece : ℕ
  pub batch : ℕ
  pub before : ℕ

-- an option's text is this number in decimal, perhaps behind a plus
abbrev pub SaysNumber : Text → List Row → ℕ → Type 0
SaysNumber name rows n = (text : Text) × (one_of name rows ≡ Some text)
    × IsNumeral 10 (without_leading_plus text) × (digits_value 10 (without_leading_plus text) ≡ n)

abbrev pub flag_text : Bool → Text
flag_text true = codes "true"
flag_text false = codes "false"

-- the text of the option that takes a filter is this, where the option is there
abbrev pub SaysFilter : List Row → Option (List ℕ) → Type 0
SaysFilter rows filter = option_map chars (first_of (codes "where") rows) ≡ filter

-- an option is there or not
abbrev pub SaysFlag : Text → List Row → Bool → Type 0
SaysFlag name rows is_there = one_of name rows ≡ Some (flag_text is_there)

-- an input is cut into documents over lines, or into lines, by whether that option is there
abbrev pub cuts_documents : Cutting → Bool
cuts_documents cutting.Lines = false
cuts_documents cutting.Documents = true

abbrev pub SaysCutting : List Row → Cutting → Type 0
SaysCutting rows cutting = SaysFlag (codes "documents") rows (cuts_documents cutting)

-- every number of JSON, or whole ones, by whether that option is there
abbrev pub has_decimals : Numbers → Bool
has_decimals Whole = false
has_decimals Decimals = true

abbrev pub SaysNumbers : List Row → Numbers → Type 0
SaysNumbers rows numbers = SaysFlag (codes "decimals") rows (has_decimals numbers)

-- a faulty line ends the answer, or that keeps going, by whether that option is there
abbrev pub keeps_going : OnFault → Bool
keeps_going Stop = false
keeps_going KeepGoing = true

abbrev pub SaysOnFault : List Row → OnFault → Type 0
SaysOnFault rows on_fault = SaysFlag (codes "keep-going") rows (keeps_going on_fault)

-- the word for a form of the answer
abbrev pub output_text : Output → Text
output_text Nodes = codes "nodes"
output_text Values = codes "values"
output_text Texts = codes "texts"
output_text Raw = codes "raw"
output_text Rows = codes "rows"
output_text Lines = codes "lines"

-- the option's text is the word for this form
abbrev pub SaysOutput : List Row → Output → Type 0
SaysOutput rows output = first_of (codes "output") rows ≡ Some (output_text output)

-- the form of nodes
abbrev pub is_of_nodes : Output → Bool
is_of_nodes Nodes = true
is_of_nodes Values = false
is_of_nodes Texts = false
is_of_nodes Raw = false
is_of_nodes Rows = false
is_of_nodes Lines = false

-- nodes are counted, and nothing of them is written, so that no other form is asked for
abbrev pub CountsIn : Output → Bool → Type 0
CountsIn output false = Unit {0}
CountsIn output true = is_of_nodes output ≡ true

-- nodes are counted, or not, by whether that option is there, and that goes with the form
abbrev pub SaysCounts : List Row → Output → Bool → Type 0
SaysCounts rows output counts = SaysFlag (codes "count") rows counts × CountsIn output counts

-- a form of values, each of which has an ending of its own
abbrev pub is_of_values : Output → Bool
is_of_values Nodes = false
is_of_values Values = true
is_of_values Texts = true
is_of_values Raw = true
is_of_values Rows = false
is_of_values Lines = false

-- U+0000 ends values, or a line feed does, by whether that option is there
abbrev pub ends_with_null : Ending → Bool
ends_with_null LineFeed = false
ends_with_null Null = true

-- a line feed goes with every form, and U+0000 with those of values alone
abbrev pub GoesWith : Ending → Output → Type 0
GoesWith LineFeed output = Unit {0}
GoesWith Null output = is_of_values output ≡ true

-- what ends values is this, and goes with the form
abbrev pub SaysEnding : List Row → Output → Ending → Type 0
SaysEnding rows output ending = SaysFlag (codes "null") rows (ends_with_null ending)
    × GoesWith ending output

-- the form whose lines have fields
abbrev pub has_fields : Output → Bool
has_fields Nodes = false
has_fields Values = false
has_fields Texts = false
has_fields Raw = false
has_fields Rows = true
has_fields Lines = false

-- the most fields
abbrev pub max_fields : ℕ
max_fields = 64

-- the texts are these fields, in their order: one at least with the form of rows, and none with any other
abbrev pub AreFieldsOf : List Text → Output → List Path → Type 0
AreFieldsOf texts output fields = AreFields texts fields × (nat_lt 0 (length fields) ≡ has_fields output)
    × (length fields ≤ max_fields)

-- the option's texts are these fields, in the order of the words
abbrev pub SaysFields : List Row → Output → List Path → Type 0
SaysFields rows output fields = AreFieldsOf (unwrap_or (all_of (codes "field") rows) []) output fields

-- no character of a file's name is a control character: U+0000 to U+001F, U+007F to U+009F
abbrev pub IsName : Text → Type 0
IsName name = All (λ c. is_control c ≡ false) (chars name)

-- the files are these, in the order of the words, each by its name as it was typed
abbrev pub SaysFiles : List Row → List Text → Type 0
SaysFiles rows files = (unwrap_or (all_of (codes "file") rows) [] ≡ files) × All IsName files

-- lines name their file where the option is there, and where two files or more are named
abbrev pub SaysNames : List Row → List Text → Bool → Type 0
SaysNames rows files names = (there : Bool) × SaysFlag (codes "with-filename") rows there
    × (names ≡ (there || nat_lt 1 (length files)))

-- the number of the first line, or document, of each input, in its range: so many stand before it
abbrev pub SaysFirst : List Row → ℕ → Type 0
SaysFirst rows before = SaysNumber (codes "first") rows (before + 1) × IsFirst (before + 1)

-- the numbers of the four options, in their ranges
abbrev pub AreSaid : List Row → ℕ → ℕ → ℕ → ℕ → Type 0
AreSaid rows workers piece batch before = SaysNumber (codes "workers") rows workers
    × SaysNumber (codes "piece") rows piece × SaysNumber (codes "batch") rows batch
    × AreSettings workers piece batch × SaysFirst rows before

-- what is said of each option is this
pub record Says (rows : List Row) (w : Wanted) : Type 0 where
  pub query : option_map chars (first_of (codes "query") rows) ≡ Some w.query
  pub filter : SaysFilter rows w.filter
  pub files : SaysFiles rows w.files
  pub names : SaysNames rows w.files w.names
  pub cutting : SaysCutting rows w.cutting
  pub check : SaysFlag (codes "check") rows w.check
  pub counts : SaysCounts rows w.output w.counts
  pub output : SaysOutput rows w.output
  pub ending : SaysEnding rows w.output w.ending
  pub fields : SaysFields rows w.output w.fields
  pub numbers : SaysNumbers rows w.numbers
  pub on_fault : SaysOnFault rows w.on_fault
  pub explain : SaysFlag (codes "explain") rows w.explain
  pub exit_status : SaysFlag (codes "exit-status") rows w.exit_status
  pub settings : AreSaid rows w.workers w.piece w.batch w.before

-- the words are taken, and want this
abbrev pub Wants : List Text → Wanted → Type 0
Wants words w = (refusals words ≡ []) × Says (said words) w

-- a check alone is wanted
abbrev pub WantsCheck : List Text → Wanted → Type 0
WantsCheck words w = Wants words w × (w.check ≡ true)

-- a run is wanted
abbrev pub WantsRun : List Text → Wanted → Type 0
WantsRun words w = Wants words w × (w.check ≡ false)

-- the words are wrong, or a number is out of its range, or there is no such form, or nodes are to be counted
-- in another one, or U+0000 is to end what is no value, or a text is no field, or there are fields without
-- rows, or rows without fields, or a file's name has a control character
abbrev pub IsWrong : List Text → Type 0
IsWrong words = IsRefused words ⊎ ((refusals words ≡ []) × ((w : Wanted) → Says (said words) w → ⊥))
