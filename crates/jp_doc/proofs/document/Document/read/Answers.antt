use Rattle.std.proofs.Common.{arith, ◌≡◌, ◌≢◌, ◌≤◌, List, ℕ, length, Result, Ok, Err, IfOk, IfErr, ap, sym}
use Rattle.std.proofs.Common.{◌∙◌}
use Rattle.serde_json.specs.Errors.{IsMemory}
use Rattle.serde_json.specs.View.{view}
use Rattle.jp_doc.specs.Document.{answer_of, document_value}
use Rattle.jp_doc.specs.Reading.{max_line, reading}
use Rattle.jp_doc.specs.Rising.{IsRising}
use Rattle.jp_doc.specs.declared.document.Document.{Document}
use Rattle.jp_doc.specs.declared.fault.DocFault.{DocFault}
use Rattle.jp_doc.specs.declared.fault.DocFault.TheVariants.{Memory}
use Rattle.jp_doc.proofs.ReadLaws.{reading_unread, reading_read}
use Rattle.jp_doc.proofs.ReadRising.{read_rises}
use Rattle.jp_doc.proofs.RisingProps.{had}
use Rattle.jp_doc.proofs.TextLaws.{value_has}
use Rattle.jp_doc.proofs.document.Document.read.Goals as goal

ok_answer : (line : List ℕ) (r : Result Document DocFault) → reading line ≡ answer_of r
    → IfOk r (λ d. reading line ≡ Ok (document_value d))
ok_answer line (Ok d) e = e
ok_answer line (Err f) e = tt

err_answer : (line : List ℕ) (r : Result Document DocFault) → reading line ≡ answer_of r
    → IfErr r (λ f. f ≢ Memory → reading line ≡ Err f)
err_answer line (Ok d) e = tt
err_answer line (Err f) e = λ _. e

rising_answer : (r : Result Document DocFault) → IfOk r (λ d. IsRising (document_value d))
rising_answer (Ok d) = (had d.root d.is_document).rising_names
rising_answer (Err f) = tt

pub returns-in-Err-clause-fault : goal.returns-in-Err-clause-fault
returns-in-Err-clause-fault c = λ other.
    let short : length c.args.line.now ≤ max_line = omega arith in
    let spared = λ (m : IsMemory c.in-Err.error). other (c.fault_of.ensures.memory m) in
    reading_unread c.args.line.now short (c.in-Err.ensures.err spared)
    ∙ ap Err (sym (c.fault_of.ensures.other spared))

pub of_value-requires-clause-rising : goal.of_value-requires-clause-rising
of_value-requires-clause-rising c =
    read_rises c.args.line.now (view c.in-Ok.root) c.in-Ok.ensures.ok.1 (value_has c.in-Ok.root)

pub returns-in-Ok-clause-ok : goal.returns-in-Ok-clause-ok
returns-in-Ok-clause-ok c =
    let short : length c.args.line.now ≤ max_line = omega arith in
    ok_answer c.args.line.now c.of_value.result
    (reading_read c.args.line.now (view c.in-Ok.root) short c.in-Ok.ensures.ok
    ∙ sym c.of_value.ensures.answer)

pub returns-in-Ok-clause-rising : goal.returns-in-Ok-clause-rising
returns-in-Ok-clause-rising c = rising_answer c.of_value.result

pub returns-in-Ok-clause-fault : goal.returns-in-Ok-clause-fault
returns-in-Ok-clause-fault c =
    let short : length c.args.line.now ≤ max_line = omega arith in
    err_answer c.args.line.now c.of_value.result
    (reading_read c.args.line.now (view c.in-Ok.root) short c.in-Ok.ensures.ok
    ∙ sym c.of_value.ensures.answer)
