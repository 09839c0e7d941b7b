use Rattle.std.proofs.Common.{rules}
use Rattle.std.proofs.Common.{◌≡◌, ℕ, ◌<◌, slice_index_or, subst, arith}
use Rattle.jp_automaton.proofs.PrefilterLemmas.{carried_more, passing_more}
use Rattle.jp_automaton.proofs.prefilter.Prefilter.find_slowly.Goals as goal

pub loop-i-preserved : goal.loop-i-preserved
loop-i-preserved c =
    let kept = c.loop-i.invariant in
    let bytes = c.args.bytes.now in
    let flags = c.args.self.now.flags.items in
    let m = c.index-flags.result.now in
    let i = c.loop-i.i in
    let at : m ≡ slice_index_or flags (slice_index_or bytes i 0) m =
    subst (λ n. m ≡ slice_index_or flags n m) c.from.ensures c.index-flags.ensures in
    let small : (k : ℕ) → slice_index_or bytes k 0 < 256 = λ k. omega (arith, c.type_inv.bytes k) in
    record {
      carried = carried_more i c.loop-i.one c.loop-i.two m kept.carried;
      passing = λ cells of. passing_more cells bytes flags of c.requires small i m
          c.loop-i-test.true at c.loop-i.one c.loop-i.two kept.carried (kept.passing cells of)
          c.if-two-flags-ne0.false;
    }

pub returns-then-two-flags-ne0-clause-same : goal.returns-then-two-flags-ne0-clause-same
returns-then-two-flags-ne0-clause-same c = search rules
