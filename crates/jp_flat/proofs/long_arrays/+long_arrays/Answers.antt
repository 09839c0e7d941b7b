use Rattle.std.proofs.Common.{◌≡◌, ◌+◌, ◌∷◌, drop, sym, ◌∙◌, true, false, arith}
use Rattle.std.proofs.lemmas.Grind.{common_steps}
use Rattle.jp_doc.specs.Reading.{max_items, has_long_array}
use Rattle.jp_flat.specs.Value.{flat_value}
use Rattle.jp_flat.proofs.LongArrays.{left_is_lower, member_told}
use Rattle.jp_flat.proofs.long_arrays.+long_arrays.Goals as goal

pub has_long_array-returns-then-node_count-le-MAX_ITEMS :
    goal.has_long_array-returns-then-node_count-le-MAX_ITEMS
has_long_array-returns-then-node_count-le-MAX_ITEMS t c =
    sym (c.node_count.ensures max_items (omega arith))

pub is_long_in_list-returns-then-branch : goal.is_long_in_list-returns-then-branch
is_long_in_list-returns-then-branch t c =
    let l = c.loop-member in
    let m = c.member-item.result in
    let here = drop l.member-index c.args.list.now in
    let left = drop (l.member-index + 1) c.args.list.now in
    let first : here ≡ m ∷ left = grind (arith, common_steps) in
    let told : has_long_array max_items (flat_value m.value) ≡ true = grind arith in
    sym (l.invariant.same ∙ member_told max_items here left m true first told)

pub is_long_in_list-loop-member-preserved : goal.is_long_in_list-loop-member-preserved
is_long_in_list-loop-member-preserved t c =
    let l = c.loop-member in
    let m = c.member-item.result in
    let here = drop l.member-index c.args.list.now in
    let left = drop (l.member-index + 1) c.args.list.now in
    let first : here ≡ m ∷ left = grind (arith, common_steps) in
    let told : has_long_array max_items (flat_value m.value) ≡ false = grind arith in
    record {
      same = l.invariant.same ∙ member_told max_items here left m false first told;
      height = left_is_lower here left m _ first l.invariant.height;
    }
