use Rattle.std.proofs.Common.{◌≡◌, ◌++◌, map}
use Rattle.std.specs.Vec.Iter.{into_iter_items}
use Rattle.jp_compiled.specs.Parts.{logical_in}
use Rattle.jp_check.specs.inner.Making.{KeepsRoots, ReadsOn}
use Rattle.jp_check.proofs.listed.Listed.apart.Given as goal

abbrev pub invariant-loop-part : goal.invariant-loop-part
invariant-loop-part l = record {
  all : l.fn.parts.items ≡ l.yielded ++ into_iter_items l.part-iterator;
  made : ReadsOn l.fn.self l.self (λ every. map (logical_in every) l.yielded)
      (λ every. map (logical_in every) l.made.items);
  roots : KeepsRoots l.fn.self l.self;
  patterns : l.self.patterns.items ≡ l.fn.self.patterns.items;
}
