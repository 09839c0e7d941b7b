use Rattle.jp_program.specs.inner.Invocation.{wanted_of}
use Rattle.jp_program.specs.Outcome.{asked_in}
use Rattle.jp_program.proofs.Manners.{accepted_so}
use Rattle.jp_program.proofs.turn.run_over.Goals as goal

pub returns : goal.returns
returns g c =
    let settings = c.settings_for-settings.ensures in
    record {
      ran = record {
        settings = c.settings_for-settings.result;
        manner = settings.manner;
        on_fault = settings.on_fault;
        ran = c.run.ensures.ran (asked_in (wanted_of c.args.search.now.wanted.now))
            (accepted_so settings.numbers c.requires.taken);
      };
    }
