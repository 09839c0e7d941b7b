use Rattle.std.proofs.Common.{◌-◌, ◌≤◌, length}
use Rattle.jp_documents.proofs.ScanLaws.{Going}
use Rattle.jp_documents.proofs.first.first_document.Given as goal

abbrev pub invariant-bytes : goal.invariant-bytes
invariant-bytes l = Going l.fn.start l.place l.bytes l.from l.at × (l.at ≤ length l.bytes)

abbrev pub decreases-bytes : goal.decreases-bytes
decreases-bytes l = length l.bytes - l.at
