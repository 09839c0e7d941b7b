use Rattle.jp_documents.proofs.FeedLaws as feeding
use Rattle.jp_documents.proofs.laws.cut_in_two.Goals as goal

pub returns-clause-both : goal.returns-clause-both
returns-clause-both c = feeding.cut_in_two

pub returns-clause-documents : goal.returns-clause-documents
returns-clause-documents c = feeding.documents_both

pub returns-clause-still_open : goal.returns-clause-still_open
returns-clause-still_open c = feeding.still_open
