use Rattle.std.proofs.Common.{rules}
use Rattle.jp_run.proofs.Going.{goes_memory, goes_sent}
use Rattle.jp_run.proofs.Handing.{told}
use Rattle.jp_run.proofs.Serving.{both_served, passed_up, served_on}
use Rattle.jp_run.proofs.sending.send_come.Goals as goal

pub returns-in_err-write_all : goal.returns-in_err-write_all
returns-in_err-write_all g c = record {
  served = passed_up c.from_residual.ensures.1 c.in_err-write_all.ensures.served;
}

pub answer_behind-requires-clause-serving : goal.answer_behind-requires-clause-serving
answer_behind-requires-clause-serving g c κs within =
    served_on c.requires.serving c.in_ok-write_all.ensures.served

pub returns-then-len-job : goal.returns-then-len-job
returns-then-len-job g c = record {
  served = both_served c.in_ok-write_all.ensures.served c.answer_behind.ensures.served;
}

pub returns-in_err-send_block : goal.returns-in_err-send_block
returns-in_err-send_block g c = record {
  served = record {
    ready = search rules;
    going = search rules;
    progress = search rules;
    asked = search rules;
    left = search rules;
    fault = told _ _ _ c.from_residual-in_err-send_block.ensures.1
        (λ old now sink reads_old reads_new failed h. goes_memory _ _ (record {
          source_old = old;
          source_new = now;
          reads_old = reads_old;
          reads_new = reads_new;
          source_failed = failed;
          sink_old = sink;
          sink_new = g.K.Sink.contents c.args.sink.now;
          sink_failed = g.K.Sink.failed c.args.sink.now;
        }) c.args.stream.now c.args.out.now.sent.items c.args.out.now.bytes h);
  };
}

pub returns : goal.returns
returns g c = record {
  served = record {
    ready = search rules;
    going = λ old now sink h. goes_sent _ _ old now sink _ c.args.stream.now
        c.send_block.new.stream c.args.out.now c.send_block.new.out h c.requires.serving.going.4
        c.in_ok-send_block.ensures.sent;
    progress = search rules;
    asked = search rules;
    left = search rules;
    fault = search rules;
  };
}
