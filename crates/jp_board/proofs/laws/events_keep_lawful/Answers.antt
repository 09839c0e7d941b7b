use Rattle.jp_board.proofs.Reaching.{happens_lawful, led_lawful, reached_lawful}
use Rattle.jp_board.proofs.laws.events_keep_lawful.Goals as goal

pub returns-clause-one : goal.returns-clause-one
returns-clause-one c = happens_lawful

pub returns-clause-some : goal.returns-clause-some
returns-clause-some c = led_lawful

pub returns-clause-reached : goal.returns-clause-reached
returns-clause-reached c = reached_lawful
