use Rattle.std.proofs.Common.{◌≡◌, drop}
use Rattle.std.specs.List.{list_all}
use Rattle.jp_node.specs.Bare.{stands_bare}
use Rattle.jp_node.proofs.bare_text.is_short_bare.Given as goal

abbrev pub invariant-loop-byte : goal.invariant-loop-byte
invariant-loop-byte l =
    list_all (stands_bare l.quote) (drop l.byte-index l.bytes) ≡ list_all (stands_bare l.quote) l.bytes
