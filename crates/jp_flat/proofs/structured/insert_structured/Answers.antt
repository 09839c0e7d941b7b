use Rattle.std.proofs.Common.{refl, sym, ap, ◌∙◌, subst}
use Rattle.std.specs.Str.{chars}
use Rattle.jp_doc.specs.Json.{no_members}
use Rattle.jp_doc.specs.Tree.{put_member}
use Rattle.jp_flat.specs.Gathered.{gathered, NamesRise}
use Rattle.jp_flat.specs.Members.{put_all}
use Rattle.jp_flat.specs.Structured.{structured}
use Rattle.jp_flat.specs.Value.{flat_value}
use Rattle.jp_flat.specs.inner.Without.{without}
use Rattle.jp_flat.proofs.Rising.{rise_put}
use Rattle.jp_flat.proofs.Structures.{rise_structured, structured_put, structured_gone}
use Rattle.jp_flat.proofs.structured.insert_structured.Goals as goal

pub loop-member-init : goal.loop-member-init
loop-member-init c = (no_members, tt, refl, ap gathered c.clear.ensures.items)

pub put-requires : goal.put-requires
put-requires c =
    let so_far = c.loop-member.invariant in
    subst NamesRise (sym so_far.3) (rise_structured so_far.0 so_far.1)

pub take_out-requires : goal.take_out-requires
take_out-requires c =
    let so_far = c.loop-member.invariant in
    subst NamesRise (sym so_far.3) (rise_structured so_far.0 so_far.1)

pub loop-member-preserved-in_ok-put : goal.loop-member-preserved-in_ok-put
loop-member-preserved-in_ok-put c =
    let k = chars c.in-Some.member.name.now in
    let v = flat_value c.in-Some.member.value in
    let so_far = c.loop-member.invariant in
    let ms = so_far.0 in (
      put_member k v ms,
      rise_put k v ms so_far.1,
      ap (λ es. put_all es ms) (sym c.in-Some.ensures.value) ∙ so_far.2,
      c.in_ok-put.ensures ∙ ap (put_member k v) so_far.3
          ∙ sym (structured_put k v ms (sym c.if-is_structured.ensures) so_far.1),
    )

pub loop-member-preserved : goal.loop-member-preserved
loop-member-preserved c =
    let k = chars c.in-Some.member.name.now in
    let v = flat_value c.in-Some.member.value in
    let so_far = c.loop-member.invariant in
    let ms = so_far.0 in (
      put_member k v ms,
      rise_put k v ms so_far.1,
      ap (λ es. put_all es ms) (sym c.in-Some.ensures.value) ∙ so_far.2,
      c.take_out.ensures ∙ ap (without k) so_far.3
          ∙ sym (structured_gone k v ms (sym c.if-is_structured.ensures) so_far.1),
    )

pub returns : goal.returns
returns c = λ yes.
    let so_far = c.loop-member.invariant in
    so_far.3 ∙ ap structured (ap (λ es. put_all es so_far.0) (sym c.in_default.ensures.value) ∙ so_far.2)
