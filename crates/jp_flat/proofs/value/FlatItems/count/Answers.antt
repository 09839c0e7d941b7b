use Rattle.std.proofs.Common.{drop, ap, arith}
use Rattle.jp_flat.specs.Document.{document_tokens}
use Rattle.jp_flat.specs.Value.{item_count}
use Rattle.jp_flat.proofs.Inside.{few_items}
use Rattle.jp_flat.proofs.value.FlatItems.count.Goals as goal

pub overflow_add-count : goal.overflow_add-count
overflow_add-count c =
    let few = few_items (drop c.args.self.at (document_tokens c.args.self.document.now)) c.args.self.flat in
    let more = ap item_count c.in-Some.ensures.value.1 in
    omega (arith, few, more, c.loop-others.invariant)

pub returns-clause-short : goal.returns-clause-short
returns-clause-short c =
    let few = few_items (drop c.args.self.at (document_tokens c.args.self.document.now)) c.args.self.flat in
    omega (arith, few, c.loop-others.invariant)
