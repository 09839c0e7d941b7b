use Rattle.jp_tree.specs.View.{query_of}
use Rattle.jp_check.proofs.NumbersSpelled.{spelled_readable}
use Rattle.jp_check.proofs.Verdicts.{accepted_by, accepts_only}
use Rattle.jp_check.proofs.checking.check.Goals as goal

pub invariant_of-result : goal.invariant_of-result
invariant_of-result c =
    let q = query_of c.args.query in
    record {
      accepted = accepted_by c.args.numbers q c.requires.spelled c.in_ok-verdict.ensures.ok;
      known = c.in_ok-compiled.ensures.patterns;
      made = c.in_ok-compiled.ensures.made;
    }

pub make_query-requires : goal.make_query-requires
make_query-requires c =
    let q = query_of c.args.query in
    let accepted = accepts_only c.args.numbers q q c.in_ok-verdict.ensures.ok in
    (spelled_readable c.args.numbers q c.requires.spelled accepted.1 accepted.2, accepted.3)
