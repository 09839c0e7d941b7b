use Rattle.std.proofs.Common.{arith}
use Rattle.jp_node.specs.Inside.{members_in}
use Rattle.jp_node.specs.Members.{range_entries}
use Rattle.jp_value.proofs.Apart.{apart, apart_too, some_beside_none}
use Rattle.jp_value.proofs.Lengths.{unequally_many}
use Rattle.jp_value.proofs.kinds.+same_kind.Goals as goal

pub same_ranges-returns-then-len : goal.same_ranges-returns-then-len
same_ranges-returns-then-len t c =
    unequally_many (range_entries c.args.left) (range_entries c.args.right)
    (λ is. grind (arith, c.len.ensures, c.len-2.ensures, is, c.if-len.true))

pub same_as_listed-returns-then-has_other_name : goal.same_as_listed-returns-then-has_other_name
same_as_listed-returns-then-has_other_name t c =
    let other = c.has_other_name.ensures c.if-has_other_name.true in apart other.0 _ _ other.1 other.2

pub same_as_object-returns-then-has_other_name : goal.same_as_object-returns-then-has_other_name
same_as_object-returns-then-has_other_name t c =
    let other = c.has_other_name.ensures c.if-has_other_name.true in apart_too other.0 _ _ other.1 other.2

pub same_members-returns-then-is_empty-2 : goal.same_members-returns-then-is_empty-2
same_members-returns-then-is_empty-2 t c =
    some_beside_none (members_in c.args.left) (members_in c.args.right)
    (λ e. let is = c.is_empty.ensures.1 e in let not = c.if-is_empty.false in absurd cc)
    (c.is_empty-2.ensures.0 c.if-is_empty-2.true)
