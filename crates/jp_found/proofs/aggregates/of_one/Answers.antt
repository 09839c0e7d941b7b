use Rattle.jp_found.proofs.Telling.{one_first, one_only, one_different}
use Rattle.jp_found.proofs.aggregates.of_one.Goals as goal

pub returns-in-First : goal.returns-in-First
returns-in-First c = one_first c.args.want c.args.value c.in-First.is

pub returns-in-Only : goal.returns-in-Only
returns-in-Only c = one_only c.args.want c.args.value c.in-Only.is

pub returns-in-Distinct : goal.returns-in-Distinct
returns-in-Distinct c = one_different c.args.want c.args.value c.in-Distinct.is
