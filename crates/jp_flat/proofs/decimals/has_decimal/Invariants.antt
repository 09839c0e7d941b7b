use Rattle.std.proofs.Common.{◌≡◌, ◌≤◌, IfSome, None, [], map, drop}
use Rattle.json.specs.Tape.{node_token}
use Rattle.jp_flat.specs.inner.Decimals.{place, place_of, search}
use Rattle.jp_flat.proofs.decimals.has_decimal.Given as goal

abbrev pub invariant-loop-node : goal.invariant-loop-node
invariant-loop-node l =
    (search (map node_token (drop l.node-index l.nodes)) (place_of l.search)
    ≡ search (map node_token l.nodes) (place None [] []))
    × IfSome l.search.found (λ n. n ≤ l.node-index)
