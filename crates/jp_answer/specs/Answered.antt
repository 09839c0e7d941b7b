-- What an outcome stands for.
use Rattle.std.specs.Prelude.{option_map}
use Rattle.jp_output.specs.Chunks.{bytes_in}
use Rattle.jp_answer.specs.Answer.{Answer}
use Rattle.jp_answer.specs.declared.outcome.Outcome as either

-- what an `Outcome` of `src/` stands for
abbrev pub outcome_of : either.Outcome → Answer
outcome_of a = record {
  bytes = bytes_in a.chunks.items;
  stopped = option_map (λ s. (s.line, s.fault)) a.stopped;
  faulty = a.faulty;
}
