use Rattle.std.proofs.Common.{◌≡◌, ◌≤◌, ◌&&◌, map, drop}
use Rattle.json.specs.Tape.{node_token}
use Rattle.jp_flat.specs.inner.Decimals.{are_readable}
use Rattle.jp_flat.specs.inner.Nesting.{nests_from}
use Rattle.jp_flat.proofs.nodes.are_readable.Given as goal

abbrev pub invariant-loop-node : goal.invariant-loop-node
invariant-loop-node l =
    ((nests_from l.level (map node_token (drop l.node-index l.nodes))
    && are_readable (map node_token (drop l.node-index l.nodes)))
    ≡ (nests_from 0 (map node_token l.nodes) && are_readable (map node_token l.nodes)))
    × (l.level ≤ 127)
