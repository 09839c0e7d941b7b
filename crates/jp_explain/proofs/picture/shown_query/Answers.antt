use Rattle.std.specs.Str.{chars}
use Rattle.jp_tree.specs.View.{text_of}
use Rattle.jp_explain.proofs.Pictures.{cut_short, whole_short}
use Rattle.jp_explain.proofs.picture.shown_query.Goals as goal

pub returns-then-has_room : goal.returns-then-has_room
returns-then-has_room c =
    whole_short c.whole_query.result (λ x. text_of x.line.text) (chars c.args.query.now) c.whole_query.ensures

pub returns : goal.returns
returns c =
    cut_short c.cut_query.result (λ x. text_of x.line.text) (chars c.args.query.now) c.has_room.result
    c.if-has_room.false c.has_room.ensures
