use Rattle.std.proofs.Common.{Some, None, refl}
use Rattle.jp_program.proofs.Manners.{head_named, head_unnamed}
use Rattle.jp_program.proofs.turn.head_name.Goals as goal

pub returns-then-wanted : goal.returns-then-wanted
returns-then-wanted c =
    head_named c.args.wanted.now.names c.args.name (Some c.args.name) c.if-wanted.true refl

pub returns-else-wanted : goal.returns-else-wanted
returns-else-wanted c = head_unnamed c.args.wanted.now.names c.args.name None c.if-wanted.false refl
