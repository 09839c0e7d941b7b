use Rattle.jp_doc.proofs.CutLaws.{first_here, none_here}
use Rattle.jp_doc.proofs.cutting.first_line.Goals as goal

pub returns-in_default-clause-none : goal.returns-in_default-clause-none
returns-in_default-clause-none c = none_here _ c.in_default.ensures

pub returns-clause-some : goal.returns-clause-some
returns-clause-some c =
    let e = c.in-Some.ensures in
    rw (c.split_at.ensures.front, c.split_at-2.ensures.back, c.split_at.ensures.back)
    (first_here c.args.bytes.now c.in-Some.at e.0.high e.0.before e.1)
