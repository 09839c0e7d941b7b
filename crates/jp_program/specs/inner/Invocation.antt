-- A working file, which nobody has to believe: what is read of the words, for private clauses alone.
use Rattle.std.specs.Prelude.{◌≡◌, ◌⊎◌, List, map, option_map}
use Rattle.std.specs.Str.{chars}
use Rattle.clap.specs.Walk.{Text, texts}
use Rattle.jp_output.specs.Rows.{field_of}
use Rattle.jp_run.specs.AskedTexts.{AreAcceptedIn}
use Rattle.jp_run.specs.Prepared.{prepared_query}
use Rattle.jp_run.specs.declared.fault.RunFault.{RunFault}
use Rattle.jp_run.specs.declared.fault.RunFault.TheVariants.{Memory, Settings}
use Rattle.jp_run.specs.declared.prepared.Prepared.{Prepared}
use Rattle.jp_program.specs.CommandLine.{AsksToShow}
use Rattle.jp_program.specs.Outcome.{asked_in}
use Rattle.jp_program.specs.Wanted.{Wanted, Wants, IsWrong}
use Rattle.jp_program.specs.declared.command_line.Invocation.{Invocation}
use Rattle.jp_program.specs.declared.command_line.Invocation.TheVariants.{Show, Query}
use Rattle.jp_program.specs.declared.command_line.Wanted as code

-- what a `Wanted` of `src/` stands for
abbrev pub wanted_of : code.Wanted → Wanted
wanted_of w = record {
  query = chars w.query.now;
  filter = option_map (λ f. chars f.now) w.settings.filter;
  files = texts w.files.items;
  names = w.names;
  cutting = w.settings.cutting;
  check = w.check;
  counts = w.counts;
  output = w.settings.output;
  ending = w.settings.ending;
  fields = map field_of w.fields.items;
  numbers = w.settings.numbers;
  on_fault = w.settings.on_fault;
  explain = w.explain;
  exit_status = w.exit_status;
  workers = w.settings.workers;
  piece = w.settings.piece;
  batch = w.settings.batch;
  before = w.settings.before;
}

-- this is what was prepared of the wanted texts, by the wanted numbers
abbrev pub IsPrepared : code.Wanted → Prepared → Type 0
IsPrepared w p = AreAcceptedIn w.settings.numbers (asked_in (wanted_of w)) (prepared_query p)

-- what is asked for is what the words ask for
abbrev pub IsAsked : List Text → Invocation → Type 0
IsAsked words (Show text) = AsksToShow words
IsAsked words (Query w) = Wants words (wanted_of w)

-- nothing is asked for: the words are wrong, or memory was wanted
abbrev pub IsNotAsked : List Text → RunFault → Type 0
IsNotAsked words fault = ((fault ≡ Settings) × IsWrong words) ⊎ (fault ≡ Memory)
