use Rattle.std.proofs.Common.{refl, rules}
use Rattle.jp_run.proofs.Ending.{waiting_ended}
use Rattle.jp_run.proofs.Going.{none_out, goes_none}
use Rattle.jp_run.proofs.Handing.{told}
use Rattle.jp_run.proofs.Standing.{are_counted, answered_all}
use Rattle.jp_run.proofs.fronts.answer_behind.Goals as goal

pub answer_come-requires-clause-counted : goal.answer_come-requires-clause-counted
answer_come-requires-clause-counted g c κs within =
    let h = c.requires.serving.going in
    are_counted _ _ h.0 h.1 h.2 _ c.args.stream.now
    (none_out _ _ h.0 h.1 h.2 _ c.args.stream.now c.args.out.now.sent.items c.args.out.now.bytes
    c.requires.none h.3) c.requires.serving.few_lines

pub returns-in_err-answer_come-clause-served : goal.returns-in_err-answer_come-clause-served
returns-in_err-answer_come-clause-served g c = record {
  ready = search rules;
  going = search rules;
  progress = search rules;
  asked = search rules;
  left = search rules;
  fault = told _ _ _ c.from_residual.ensures.1 (λ old now sink reads_old reads_new failed h.
      waiting_ended _ _ _ now _ c.args.stream.now _ (none_out _ _ old now sink _ c.args.stream.now
      c.args.out.now.sent.items c.args.out.now.bytes c.requires.none h) c.in_err-answer_come.ensures.fault);
}

pub returns-clause-served : goal.returns-clause-served
returns-clause-served g c = record {
  ready = search rules;
  going = λ old now sink h.
      goes_none _ _ old now sink _ c.answer_come.new.stream c.args.out.now.sent.items 0 c.requires.none refl
      (answered_all _ _ old now sink _ c.args.stream.now (none_out _ _ old now sink _ c.args.stream.now
      c.args.out.now.sent.items c.args.out.now.bytes c.requires.none h) now _ c.answer_come.new.stream refl
      c.in_ok-answer_come.ensures.answered);
  progress = search rules;
  asked = search rules;
  left = search rules;
  fault = search rules;
}
