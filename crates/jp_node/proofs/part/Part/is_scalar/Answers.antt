use Rattle.std.proofs.Common.{not, subst}
use Rattle.std.specs.Prelude.{IsTrue}
use Rattle.jp_node.specs.Part.{part_value}
use Rattle.jp_node.proofs.Structured.{scalar_is}
use Rattle.jp_node.proofs.part.Part.is_scalar.Goals as goal

pub returns : goal.returns
returns c = λ t. scalar_is (part_value c.args.self) (subst (λ b. IsTrue (not b)) c.is_structured.ensures t)
