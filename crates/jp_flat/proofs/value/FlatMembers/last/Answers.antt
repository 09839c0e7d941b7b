use Rattle.std.proofs.Common.{option_map, Some, sym, ap, ◌∙◌, if◌then◌else◌}
use Rattle.std.specs.Str.{chars}
use Rattle.jp_flat.specs.Members.{last_of}
use Rattle.jp_flat.specs.Value.{flat_value, entries}
use Rattle.jp_flat.proofs.value.FlatMembers.last.Goals as goal

pub loop-member-preserved : goal.loop-member-preserved
loop-member-preserved c =
    let k = chars c.args.name.now in
    let found = option_map flat_value c.loop-member.found in
    let others = entries c.in-Some.others in
    ap (λ b. last_of k others (if b then Some (flat_value c.in-Some.member.value) else found))
    (sym c.if-is_same.false ∙ c.is_same.ensures)
    ∙ ap (λ es. last_of k es found) (sym c.in-Some.ensures.value) ∙ c.loop-member.invariant
