use Rattle.std.proofs.Common.{arith}
use Rattle.std.proofs.lemmas.Grind.{common_steps}
use Rattle.std.proofs.Common.{refl}
use Rattle.jp_doc.proofs.RisingProps.{had}
use Rattle.jp_doc.proofs.document.Document.at.Goals as goal

pub loop-step-init : goal.loop-step-init
loop-step-init c = (refl, had c.args.self.now.root c.args.self.now.is_document)

pub loop-step-preserved : goal.loop-step-preserved
loop-step-preserved c = grind (arith, common_steps)

pub returns-in_err-value-clause-value : goal.returns-in_err-value-clause-value
returns-in_err-value-clause-value c = grind (arith, common_steps)

pub returns-clause-value : goal.returns-clause-value
returns-clause-value c = grind (arith, common_steps)
