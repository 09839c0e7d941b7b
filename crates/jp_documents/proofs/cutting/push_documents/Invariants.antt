use Rattle.std.proofs.Common.{length}
use Rattle.jp_documents.proofs.FeedLaws.{Goes}
use Rattle.jp_documents.proofs.cutting.push_documents.Given as goal

abbrev pub invariant-documents : goal.invariant-documents
invariant-documents l = Goes l.fn.waiting l.waiting l.before l.count l.bytes l.rest

abbrev pub decreases-documents : goal.decreases-documents
decreases-documents l = length l.rest
