use Rattle.std.proofs.Common.{refl}
use Rattle.jp_node.proofs.Emptiness.{none_inside, none_in_line}
use Rattle.jp_node.proofs.members.Members.is_empty.Goals as goal

pub returns-in-None : goal.returns-in-None
returns-in-None c = (
  λ h. none_inside c.args.self.members c.in-None.ensures.value,
  λ h. refl,
)

pub returns-in-Some : goal.returns-in-Some
returns-in-Some c = (
  λ h. absurd cc,
  λ h. let none = none_in_line c.args.self.members h in
      let some = c.in-Some.ensures.value in absurd cc,
)
