use Rattle.std.proofs.Common.{◌≡◌, drop}
use Rattle.jp_documents.specs.inner.Finding.{lead_over}
use Rattle.jp_documents.proofs.runs.lead_over.Given as goal

abbrev pub invariant-loop-byte : goal.invariant-loop-byte
invariant-loop-byte l = lead_over l.fn.lead l.run ≡ lead_over l.after (drop l.byte-index l.run)
