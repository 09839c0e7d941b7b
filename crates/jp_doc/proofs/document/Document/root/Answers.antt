use Rattle.jp_doc.proofs.RisingProps.{had}
use Rattle.jp_doc.proofs.document.Document.root.Goals as goal

pub returns-clause-kept : goal.returns-clause-kept
returns-clause-kept c = had c.args.self.now.root c.args.self.now.is_document
