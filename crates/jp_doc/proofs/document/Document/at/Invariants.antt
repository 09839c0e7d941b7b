use Rattle.std.proofs.Common.{◌≡◌, drop, map}
use Rattle.jp_doc.specs.DocumentValue.{IsDocumentValue}
use Rattle.jp_doc.specs.Json.{value_of}
use Rattle.jp_doc.specs.Location.{step_of, value_at}
use Rattle.jp_doc.proofs.document.Document.at.Given as goal

abbrev pub invariant-loop-step : goal.invariant-loop-step
invariant-loop-step l =
    (value_at (map step_of (drop l.step-index l.steps)) (value_of l.value) ≡ value_at (map step_of l.steps)
    (value_of l.initial.value)) × IsDocumentValue l.value
