use Rattle.std.proofs.lemmas.Option.{slice_get-map}
use Rattle.jp_doc.specs.Location.{step_of}
use Rattle.jp_doc.proofs.laws.steps_of_a_location.Goals as goal

pub returns : goal.returns
returns c = record { steps = λ l i. slice_get-map step_of l.steps.items i }
