use Rattle.std.proofs.Common.{sym, ap, ◌∙◌, subst, None, rules}
use Rattle.jp_doc.specs.Json.{object, no_members}
use Rattle.jp_flat.specs.Gathered.{gathered, NamesRise}
use Rattle.jp_flat.specs.Members.{last_of}
use Rattle.jp_flat.specs.Value.{entries}
use Rattle.jp_flat.proofs.InsideObject.{members_are}
use Rattle.jp_flat.proofs.Rising.{all_rise, put_together}
use Rattle.jp_flat.proofs.Sorted.{listed_rising}
use Rattle.jp_flat.proofs.value.FlatMembers.gather.Goals as goal

pub returns-then-branch-clause-members : goal.returns-then-branch-clause-members
returns-then-branch-clause-members c =
    members_are c.args.self ∙ sym (ap object (c.in_ok-insert_few.ensures c.if-branch.true))

pub returns-then-branch-clause-rising : goal.returns-then-branch-clause-rising
returns-then-branch-clause-rising c =
    subst NamesRise (sym (c.in_ok-insert_few.ensures c.if-branch.true))
    (all_rise (entries c.args.self) no_members tt)

pub returns-in_ok-sort-clause-members : goal.returns-in_ok-sort-clause-members
returns-in_ok-sort-clause-members c =
    members_are c.args.self
    ∙ sym (ap object (put_together (gathered c.sort.new.members.items) (entries c.args.self)
    c.in_ok-sort.ensures.rising (λ q. c.in_ok-sort.ensures.last q
    ∙ ap (λ l. last_of q l None) c.in_ok-list.ensures.listed)))

pub returns-else-not-branch-clause-members : goal.returns-else-not-branch-clause-members
returns-else-not-branch-clause-members c =
    members_are c.args.self
    ∙ sym (ap object (listed_rising c.list.new.out.items (entries c.args.self) c.in_ok-list.ensures.listed
    (c.in_ok-list.ensures.rising (search rules))))
