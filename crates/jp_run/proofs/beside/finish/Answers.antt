use Rattle.jp_run.proofs.Serving.{passed_up}
use Rattle.jp_run.proofs.beside.finish.Goals as goal

pub returns-in_err-write_all-clause-served : goal.returns-in_err-write_all-clause-served
returns-in_err-write_all-clause-served g c =
    passed_up c.from_residual.ensures.1 c.in_err-write_all.ensures.served
