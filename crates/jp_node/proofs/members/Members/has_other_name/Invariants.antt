use Rattle.std.proofs.Common.{◌≡◌, true, None, is_some}
use Rattle.jp_doc.specs.Json.{Text}
use Rattle.jp_flat.specs.Members.{last_of}
use Rattle.jp_flat.specs.Value.{entries, members_left}
use Rattle.jp_node.proofs.members.Members.has_other_name.Given as goal

abbrev pub invariant-loop-member : goal.invariant-loop-member
invariant-loop-member l = (k : Text) → is_some (last_of k (entries l.left) None) ≡ true
    → is_some (last_of k (entries l.fn.self.members) None) ≡ true

abbrev pub decreases-loop-member : goal.decreases-loop-member
decreases-loop-member l = members_left l.left
