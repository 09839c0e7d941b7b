use Rattle.std.proofs.Common.{refl}
use Rattle.jp_run.specs.Prepared.{prepared_query}
use Rattle.jp_run.proofs.Accepted.{spelled}
use Rattle.jp_run.proofs.Runs.{not_begun, run_of}
use Rattle.jp_run.proofs.prepared.Prepared.run.Goals as goal

pub returns-in_err-layout : goal.returns-in_err-layout
returns-in_err-layout g c = record { ran = λ asked accepted. not_begun asked _ c.from_residual.ensures.1 }

pub answer_in_form-requires-clause-working : goal.answer_in_form-requires-clause-working
answer_in_form-requires-clause-working g c = λ κs outlives. c.requires.working

pub answer_in_form-requires-clause-few : goal.answer_in_form-requires-clause-few
answer_in_form-requires-clause-few g c = λ κs outlives. c.requires.few.0

pub returns : goal.returns
returns g c = record {
  ran = λ asked accepted. run_of asked (spelled _ _ asked _ _ (prepared_query c.args.self.now) refl
      c.compiled.ensures c.document_filter.ensures accepted) c.answer_in_form.ensures.ran;
}
