use Rattle.std.proofs.Common.{sym, ap, ◌∙◌, subst}
use Rattle.std.specs.Str.{chars}
use Rattle.jp_flat.specs.Gathered.{gathered, NamesRise}
use Rattle.jp_flat.specs.Members.{put_all}
use Rattle.jp_flat.specs.Value.{entries, flat_value}
use Rattle.jp_flat.proofs.Rising.{rise_put}
use Rattle.jp_flat.proofs.insertion.insert_few.Goals as goal

pub put-requires : goal.put-requires
put-requires c = c.loop-member.invariant.1

pub loop-member-init : goal.loop-member-init
loop-member-init c =
    let none = c.clear.ensures.items in (
      ap (λ xs. put_all (entries c.args.members) (gathered xs)) none,
      subst (λ xs. NamesRise (gathered xs)) (sym none) tt,
    )

pub loop-member-smaller : goal.loop-member-smaller
loop-member-smaller c = c.in-Some.ensures.fewer

pub loop-member-preserved : goal.loop-member-preserved
loop-member-preserved c =
    let k = chars c.in-Some.member.name.now in
    let v = flat_value c.in-Some.member.value in
    let xs = c.loop-member.out.items in (
      ap (put_all (entries c.in-Some.others)) c.in_ok-put.ensures
          ∙ ap (λ es. put_all es (gathered xs)) (sym c.in-Some.ensures.value)
          ∙ c.loop-member.invariant.0,
      subst NamesRise (sym c.in_ok-put.ensures) (rise_put k v (gathered xs) c.loop-member.invariant.1),
    )

pub returns : goal.returns
returns c = λ yes.
    ap (λ es. put_all es (gathered c.loop-member.out.items)) (sym c.in_default.ensures.value)
    ∙ c.loop-member.invariant.0
