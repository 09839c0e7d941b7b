use Rattle.std.proofs.KnownBytes.{Keeps-refl}
use Rattle.std.proofs.Common.{◌+◌, ap, arith, inl, refl, rules, subst}
use Rattle.jp_run.specs.Answered.{numbering_of}
use Rattle.jp_run.specs.Cutting.{documents_in}
use Rattle.jp_run.specs.Limits.{max_lines}
use Rattle.jp_run.specs.inner.Input.{Input}
use Rattle.jp_run.specs.inner.Turning.{CameSo}
use Rattle.jp_run.proofs.Ending.{stands_front, failure_ended, rest_ok, totals_ok, faulty_ok, wrote_ok}
use Rattle.jp_run.proofs.Ending.{none_ok, rest_ended}
use Rattle.jp_run.proofs.Handing.{told_so}
use Rattle.jp_run.proofs.Readings.{none_yet}
use Rattle.jp_run.proofs.Runs.{not_run}
use Rattle.jp_run.proofs.Standing.{stands_start, few_lines, few_faulty, are_counted}
use Rattle.jp_run.proofs.Standing.{behind_others}
use Rattle.jp_run.proofs.running.answer_stream.Goals as goal

pub loop-stream-init : goal.loop-stream-init
loop-stream-init g c = record {
  source_working = c.requires.working.0;
  ready = record {
    working = c.in_ok-pass_on.ensures.working;
    flushed = c.in_ok-pass_on.ensures.flushed;
  };
  stands = stands_start _ _ _ _ _ _ c.pass_on.ensures.bytes c.in_ok-stream.ensures.buffer
      c.in_ok-stream.ensures.come c.in_ok-stream.ensures.answered;
  few_lines = omega (
    arith,
    ap (λ (b : Input). b.progress.count) c.in_ok-stream.ensures.buffer,
    c.args.job.now.settings.few_before,
  );
  reads = ap (λ n. g.S.Supply.reads c.args.source.now + n) c.in_ok-stream.ensures.left;
  prompt = none_yet _ _ _ refl;
  window = none_yet _ _ _ refl;
}

pub turn-requires-clause-turning : goal.turn-requires-clause-turning
turn-requires-clause-turning g c κs within =
    let inv = c.loop-stream.invariant in
    record {
      working = inv.source_working;
      ready = inv.ready;
      standing = (_, _, inv.stands);
      few_lines = inv.few_lines;
      some_left = search rules;
      few = search rules;
    }

pub returns-in_err-turn : goal.returns-in_err-turn
returns-in_err-turn g c =
    let inv = c.loop-stream.invariant in
    let turned = c.turn.ensures.turned in
    record {
      ran = not_run _ c.from_residual-in_err-turn.ensures.1
          (c.in_err-turn.ensures.turned.fault _ _ _ _ _ inv.stands) turned.ready.passed_on
          (turned.prompt _ _ _ inv.stands inv.prompt) (turned.window _ _ _ inv.stands inv.window)
          (search rules);
    }

pub answer_rest-ended-requires-clause-behind : goal.answer_rest-ended-requires-clause-behind
answer_rest-ended-requires-clause-behind g c κs within =
    let done = c.in_ok-turn.ensures.turned.stands _ _ c.loop-stream.invariant.stands in
    behind_others _ _ _ _ _ _ _ done

pub answer_rest-ended-requires-clause-few : goal.answer_rest-ended-requires-clause-few
answer_rest-ended-requires-clause-few g c κs within =
    let done = c.in_ok-turn.ensures.turned.stands _ _ c.loop-stream.invariant.stands in
    few_lines _ _ _ _ _ _ _ done max_lines c.in_ok-turn.ensures.turned.few_lines

pub answer_rest-ended-requires-clause-few_faulty : goal.answer_rest-ended-requires-clause-few_faulty
answer_rest-ended-requires-clause-few_faulty g c κs within =
    let done = c.in_ok-turn.ensures.turned.stands _ _ c.loop-stream.invariant.stands in
    few_faulty _ _ _ _ _ _ _ done

pub returns-in-End : goal.returns-in-End
returns-in-End g c =
    let inv = c.loop-stream.invariant in
    let turned = c.turn.ensures.turned in
    let done = c.in_ok-turn.ensures.turned.stands _ _ inv.stands in
    let end = subst (CameSo _ _) c.in-End.is c.in_ok-turn.ensures.turned.came in
    let rest = c.answer_rest-ended.ensures in
    let settings = c.args.job.now.settings in
    record {
      ran = record {
        handed = rest_ok _ _ _ _ _ _ _ _ done end.1 c.answer_rest-ended.result rest.handed;
        counts = totals_ok _ _ _ _ _ _ (g.K.Sink.contents c.answer_rest-ended.new.sink) _ done end.1
            c.answer_rest-ended.result rest.lines rest.documents;
        passed = faulty_ok _ _ _ _ _ _ (g.K.Sink.contents c.answer_rest-ended.new.sink) _ done end.1
            c.answer_rest-ended.result rest.passed;
        none_passed = none_ok settings.on_fault settings.numbers
            (documents_in (numbering_of settings) done.front)
            _ _ c.answer_rest-ended.result done.faulty rest.passed;
        wrote = wrote_ok _ _ _ _ _ _ (g.K.Sink.contents c.answer_rest-ended.new.sink) _ done end.1
            c.answer_rest-ended.result rest.wrote;
        few_lines = search rules;
        end = search rules;
        flushed = search rules;
        still_working = search rules;
        passed_on = search rules;
        fault = told_so c.answer_rest-ended.result _ _ (λ f k. rest_ended _ _ _ _ _ f done end.1 k)
            rest.fault;
        prompt = turned.prompt _ _ _ inv.stands inv.prompt;
        window = turned.window _ _ _ inv.stands inv.window;
        few = search rules;
      };
    }

pub loop-stream-preserved : goal.loop-stream-preserved
loop-stream-preserved g c =
    let inv = c.loop-stream.invariant in
    let turned = c.in_ok-turn.ensures.turned in
    record {
      source_working = subst (CameSo _ _) c.in-More.is turned.came;
      ready = record { working = turned.ready.working; flushed = turned.ready.flushed };
      stands = turned.stands _ _ inv.stands;
      few_lines = turned.few_lines;
      reads = omega (arith, turned.reads, inv.reads);
      prompt = turned.prompt _ _ _ inv.stands inv.prompt;
      window = turned.window _ _ _ inv.stands inv.window;
    }

pub answer_before_failure-requires-clause-counted : goal.answer_before_failure-requires-clause-counted
answer_before_failure-requires-clause-counted g c κs within =
    let done = c.in_ok-turn.ensures.turned.stands _ _ c.loop-stream.invariant.stands in
    are_counted _ _ _ _ _ _ _ done c.in_ok-turn.ensures.turned.few_lines

pub returns-in-Failure : goal.returns-in-Failure
returns-in-Failure g c =
    let inv = c.loop-stream.invariant in
    let turned = c.turn.ensures.turned in
    let done = c.in_ok-turn.ensures.turned.stands _ _ inv.stands in
    let failed = subst (CameSo _ _) c.in-Failure.is c.in_ok-turn.ensures.turned.came in
    record {
      ran = not_run _ refl
          (failure_ended _ _ _ _ _ _ _ done failed (Keeps-refl _) c.answer_before_failure.ensures.fault)
          c.answer_before_failure.ensures.passed_on (turned.prompt _ _ _ inv.stands inv.prompt)
          (turned.window _ _ _ inv.stands inv.window) (search rules);
    }

pub returns : goal.returns
returns g c =
    let inv = c.loop-stream.invariant in
    record {
      ran = not_run _ refl (
        inl (omega (arith, inv.reads, c.loop-stream-test.false)),
        stands_front _ _ _ _ _ _ _ inv.stands,
      )
          (inl inv.ready.flushed) inv.prompt inv.window (search rules);
    }
