use Rattle.std.proofs.Common.{sym, ap, ◌∙◌, rules}
use Rattle.std.proofs.lemmas.List.Elements.{filter_from_retain}
use Rattle.jp_doc.specs.Json.{no_members}
use Rattle.jp_flat.specs.Gathered.{gathered}
use Rattle.jp_flat.specs.Members.{put_all}
use Rattle.jp_flat.specs.Value.{entries}
use Rattle.jp_flat.proofs.InsideObject.{members_are}
use Rattle.jp_flat.proofs.Structures.{has_structured, filtered}
use Rattle.jp_flat.proofs.value.FlatMembers.gather_structured.Goals as goal

pub returns-then-branch : goal.returns-then-branch
returns-then-branch c = (
  put_all (entries c.args.self) no_members,
  members_are c.args.self,
  c.in_ok-insert_structured.ensures c.if-branch.true,
)

pub returns : goal.returns
returns c =
    let all = c.gather.new.out.items in
    let kept =
    filter_from_retain _ has_structured (λ p x b q k. search rules) _ _ _ c.retain.ensures.filtered in (
      gathered all,
      c.in_ok-gather.ensures.members,
      ap gathered kept ∙ sym (filtered all),
    )
