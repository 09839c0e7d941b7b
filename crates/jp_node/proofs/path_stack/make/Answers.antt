use Rattle.std.proofs.Common.{[], ◌∷◌, ap, length, length-append, arith}
use Rattle.jp_node.proofs.MadeLaws.{one_made, all_made}
use Rattle.jp_node.proofs.path_stack.make.Goals as goal

pub loop-place-preserved : goal.loop-place-preserved
loop-place-preserved c =
    let l = c.loop-place in record {
      made = one_made c.args.links.now l.text.items l.starts.items l.invariant.made _ _ l.place _
          l.invariant.count (omega arith)
          c.in_ok-make_one.ensures.text c.in_ok-make_one.ensures.starts;
      count = omega (
        arith,
        l.invariant.count,
        ap length c.in_ok-make_one.ensures.starts,
        length-append
            l.starts.items (length l.text.items ∷ []),
      );
    }

pub returns-clause-ok : goal.returns-clause-ok
returns-clause-ok c =
    let l = c.loop-place in
    all_made c.args.links.now l.text.items l.starts.items l.invariant.made (omega arith)
