use Rattle.std.specs.Str.{chars}
use Rattle.jp_tree.specs.Numbers.{IsInt}
use Rattle.jp_tokens.specs.Reading as reading
use Rattle.jp_tokens.proofs.LeavesRead.{int_sound}
use Rattle.jp_tokens.proofs.Cuts.{some_front, front_read}
use Rattle.jp_tokens.proofs.numbers.int_at.Goals as goal

pub up_to-requires : goal.up_to-requires
up_to-requires c = some_front IsInt (reading.int_at (chars c.args.text.now)) (chars c.args.text.now)
    (chars c.in_ok-rest.rest.now) c.in_ok-rest.ensures (int_sound (chars c.args.text.now))

pub returns : goal.returns
returns c = front_read IsInt (reading.int_at (chars c.args.text.now)) (chars c.args.text.now)
    (chars c.in_ok-rest.rest.now) c.in_ok-rest.ensures (int_sound (chars c.args.text.now))
    (chars c.up_to.result.now) c.up_to.ensures
