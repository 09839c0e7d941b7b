use Rattle.std.proofs.Common.{◌≡◌}
use Rattle.jp_tokens.specs.Depth as depth
use Rattle.jp_tokens.specs.inner.DepthView.{place_of}
use Rattle.jp_tokens.proofs.depth.bracket_depth.Given as goal

abbrev pub invariant-loop-c : goal.invariant-loop-c
invariant-loop-c l = (place_of l.quotes l.count ≡ depth.scan (depth.outside 0) l.yielded)
    × (l.deepest ≡ depth.bracket_depth l.yielded)
