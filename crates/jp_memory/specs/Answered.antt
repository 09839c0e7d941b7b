-- What an answer of `src/` stands for.
use Rattle.std.specs.Prelude.{option_map}
use Rattle.jp_answer.specs.Answer.{Answer}
use Rattle.jp_memory.specs.declared.answered.Answered.{Answered}

-- what an `Answered` stands for
abbrev pub answered_of : Answered → Answer
answered_of a = record {
  bytes = a.bytes.items;
  stopped = option_map (λ s. (s.line, s.fault)) a.stopped;
  faulty = a.faulty;
}
