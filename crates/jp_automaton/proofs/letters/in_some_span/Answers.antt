use Rattle.std.proofs.Common.{rules, leb, arith}
use Rattle.std.proofs.lemmas.List.Sorted.{IsPartitionedBy-leb, IsPartitionPoint-from_clause}
use Rattle.jp_automaton.specs.inner.SpanOrder.{first_of}
use Rattle.jp_automaton.proofs.SpanLemmas.{found_none, found_at}
use Rattle.jp_automaton.proofs.letters.in_some_span.Goals as goal

pub returns-then-behind-eq0 : goal.returns-then-behind-eq0
returns-then-behind-eq0 c =
    let point = IsPartitionPoint-from_clause (λ y. leb (first_of y) c.args.c) c.args.spans.now
    c.partition_point-behind.result c.partition_point-behind.ensures.partitioned
    (IsPartitionedBy-leb first_of c.args.spans.now c.args.c c.requires.firsts) (λ a r q k. search rules) in
    found_none c.args.spans.now c.args.c c.partition_point-behind.result point c.if-behind-eq0.true

pub returns : goal.returns
returns c =
    let point = IsPartitionPoint-from_clause (λ y. leb (first_of y) c.args.c) c.args.spans.now
    c.partition_point-behind.result c.partition_point-behind.ensures.partitioned
    (IsPartitionedBy-leb first_of c.args.spans.now c.args.c c.requires.firsts) (λ a r q k. search rules) in
    found_at c.args.spans.now c.args.c c.partition_point-behind.result point c.requires.lasts (omega arith)
    (omega (arith, c.partition_point-behind.ensures.bound)) _
