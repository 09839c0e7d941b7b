use Rattle.std.proofs.Common.{◌≡◌, None, true, is_some, ap, ◌∙◌}
use Rattle.std.specs.Str.{chars}
use Rattle.jp_flat.specs.Members.{last_of}
use Rattle.jp_flat.specs.Value.{flat_value, entries}
use Rattle.jp_node.proofs.InLine.{first_found, found_behind, found_inside}
use Rattle.jp_node.proofs.members.Members.has_other_name.Goals as goal

pub returns-then-is_missing : goal.returns-then-is_missing
returns-then-is_missing c = λ h.
    let k = chars c.in-Some.member.name.now in
    let here : is_some (last_of k (entries c.loop-member.left) None) ≡ true =
    ap (λ es. is_some (last_of k es None)) c.in-Some.ensures.value
    ∙ first_found k (flat_value c.in-Some.member.value) (entries c.in-Some.others) in (
      k,
      found_inside k c.args.self.members (c.loop-member.invariant k here),
      c.is_missing.ensures c.if-is_missing.true,
    )

pub loop-member-preserved : goal.loop-member-preserved
loop-member-preserved c = λ k h.
    c.loop-member.invariant k (ap (λ es. is_some (last_of k es None)) c.in-Some.ensures.value
    ∙ found_behind k (chars c.in-Some.member.name.now, flat_value c.in-Some.member.value)
    (entries c.in-Some.others) h)
