-- The command line, as data: which options there are, and what the words of one say. What `clap` makes of
-- words is its own definition (`matches_of`, `fault_of`).
use Rattle.std.specs.Prelude.{ℕ, ◌≡◌, ◌≢◌, ◌⊎◌, true, List, [], ◌∷◌, Option, Some, None, is_some, codes}
use Rattle.std.specs.Prelude.{if◌then◌else◌}
use Rattle.std.specs.Str.{bytes_eq}
use Rattle.clap.specs.Walk.{Rule, Row, Text}
use Rattle.clap.specs.Simple.{App, new_app, new_rule, with_rule, on_top, matches_of}
use Rattle.clap.specs.Kinds.{Kinds, IsAmong}
use Rattle.clap.specs.Lexer.{usize_max}
use Rattle.clap.specs.Faults.{fault_of}
use Rattle.clap.specs.declared.builder.action.ArgAction.TheVariants.{Append, SetTrue}
use Rattle.clap.specs.declared.builder.value_parser.ValueParser.TheVariants as vp
use Rattle.clap.specs.declared.error.kind.ErrorKind.{ErrorKind}
use Rattle.clap.specs.declared.error.kind.ErrorKind.TheVariants.{DisplayHelp, DisplayVersion}

-- an option that takes a number of 64 bits
abbrev pub number_rule : Text → Text → Rule
number_rule name default = record (new_rule name) {
  long = Some name;
  value_names = 1;
  parser = Some (vp.Unsigned 0 18446744073709551615);
  defaults = default ∷ [];
}

-- the option that takes a word for a form, `-o` too
abbrev pub output_rule : Rule
output_rule = record (new_rule (codes "output")) {
  long = Some (codes "output");
  short = Some 111;
  value_names = 1;
  defaults = codes "nodes" ∷ [];
}

-- the option that takes a filter of documents
abbrev pub filter_rule : Rule
filter_rule = record (new_rule (codes "where")) { long = Some (codes "where"); value_names = 1 }

-- the option that takes a field, as often as it is there
abbrev pub field_rule : Rule
field_rule = record (new_rule (codes "field")) {
  long = Some (codes "field");
  value_names = 1;
  action = Some Append;
}

-- an option that is there or not
abbrev pub flag_rule : Text → Rule
flag_rule name = record (new_rule name) { long = Some name; action = Some SetTrue }

-- the same by a letter too
abbrev pub letter_rule : Text → ℕ → Rule
letter_rule name letter = record (flag_rule name) { short = Some letter }

abbrev pub query_rule : Rule
query_rule = record (new_rule (codes "query")) { value_names = 1; required = true }

-- the files behind the query, as many as there are
abbrev pub files_rule : Rule
files_rule = record (new_rule (codes "file")) {
  value_names = 1;
  range = Some (record { start_inclusive = 0; end_inclusive = usize_max });
}

abbrev pub with_version : App → App
with_version = on_top (λ s. record s { has_version = true })

abbrev pub with_output : App → App
with_output a = with_rule a output_rule

abbrev pub with_filter : App → App
with_filter a = with_rule (with_rule a field_rule) filter_rule

abbrev pub with_numbers : App → App
with_numbers a = with_rule (with_rule (with_rule (with_rule a (number_rule (codes "workers") (codes "4")))
    (number_rule (codes "piece") (codes "64"))) (number_rule (codes "batch") (codes "4096")))
    (number_rule (codes "first") (codes "1"))

abbrev pub with_flags : App → App
with_flags a = with_rule (with_rule (with_rule (with_rule (with_rule (with_rule (with_rule (with_rule
    (with_rule a (flag_rule (codes "check"))) (letter_rule (codes "decimals") 100))
    (letter_rule (codes "keep-going") 107)) (flag_rule (codes "explain")))
    (letter_rule (codes "exit-status") 101)) (flag_rule (codes "documents")))
    (flag_rule (codes "with-filename"))) (letter_rule (codes "null") 48)) (letter_rule (codes "count") 99)

abbrev pub with_query : App → App
with_query a = with_rule (with_rule a query_rule) files_rule

-- `jp [-o FORM] [--field QUERY]... [--where FILTER] [--workers N] [--piece N] [--batch N] [--first N]
-- [--check] [-d] [-k] [--explain] [-e] [--documents] [--with-filename] [-0] [-c] QUERY [FILE]...`, where `-o`
-- is `--output`, `-d` is `--decimals`, `-k` is `--keep-going`, `-e` is `--exit-status`, `-0` is `--null` and
-- `-c` is `--count`; with `--help` and `--version`
abbrev pub jp_app : App
jp_app = with_query (with_flags (with_numbers (with_filter (with_output (with_version
    (new_app (codes "jp")))))))

-- what the words say of each option, the first of which is the program's name
unfoldable pub said : List Text → List Row
said words = matches_of jp_app words

-- what is wrong with the words, or what they ask to be shown; nothing where they are taken
unfoldable pub refusals : List Text → Kinds
refusals words = fault_of jp_app words

-- the words ask for the help or the version
abbrev pub AsksToShow : List Text → Type 0
AsksToShow words = IsAmong DisplayHelp (refusals words) ⊎ IsAmong DisplayVersion (refusals words)

-- the words are wrong
abbrev pub IsRefused : List Text → Type 0
IsRefused words = (kind : ErrorKind) × IsAmong kind (refusals words) × (kind ≢ DisplayHelp)
    × (kind ≢ DisplayVersion)

-- ---- a text to be quoted, which `clap` is not asked of: whatever the text begins with, it is no option

-- the text that the words ask to be quoted: they are three, and `--quote` stands before it
abbrev pub to_quote : List Text → Option Text
to_quote (name ∷ option ∷ value ∷ []) = if bytes_eq option (codes "--quote") then Some value else None
to_quote words = None

-- they ask for that
abbrev pub AsksToQuote : List Text → Type 0
AsksToQuote words = is_some (to_quote words) ≡ true
