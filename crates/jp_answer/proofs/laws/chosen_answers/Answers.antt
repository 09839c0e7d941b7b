use Rattle.jp_answer.proofs.Chosen.{chosen_answer}
use Rattle.jp_answer.proofs.laws.chosen_answers.Goals as goal

pub returns : goal.returns
returns c = λ f k t q ls silent. chosen_answer f silent t q k ls
