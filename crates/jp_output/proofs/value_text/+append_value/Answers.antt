use Rattle.std.proofs.Common.{◌≡◌, [], ◌∷◌, ◌+◌, drop, arith}
use Rattle.std.proofs.lemmas.Grind.{common_steps}
use Rattle.jp_node.proofs.Extending.{extends_on}
use Rattle.jp_output.proofs.FlatTexts.{next_listed, first_height, left_height, array_written, object_written}
use Rattle.jp_flat.specs.Value.{items_value}
use Rattle.jp_output.proofs.value_text.+append_value.Goals as goal

pub append_list-loop-member-preserved : goal.append_list-loop-member-preserved
append_list-loop-member-preserved t c =
    let l = c.loop-member in
    let m = c.member-item.result in
    let here = drop l.member-index c.args.list.now in
    let left = drop (l.member-index + 1) c.args.list.now in
    let first : here ≡ m ∷ left = grind (arith, common_steps) in
    let named = extends_on _ _ _ (extends_on _ _ _ l.invariant.kept c.append_comma.ensures.kept)
    c.append_name.ensures.kept in record {
      rest = next_listed l.later m here left _ _ _ _ _ first c.in_ok-append_comma.ensures.ok
          c.in_ok-append_name.ensures.ok c.in_ok-append_value.ensures.ok l.invariant.rest;
      kept = extends_on _ _ _ named c.append_value.ensures.kept;
      height = left_height m here left _ first l.invariant.height;
    }

pub append_list-append_value-requires : goal.append_list-append_value-requires
append_list-append_value-requires t c =
    let l = c.loop-member in
    let m = c.member-item.result in
    let here = drop l.member-index c.args.list.now in
    let left = drop (l.member-index + 1) c.args.list.now in
    let first : here ≡ m ∷ left = grind (arith, common_steps) in
    let lower = first_height m here left _ first l.invariant.height in
    omega (arith, lower, c.decreases)

pub append_items-returns-clause-ok : goal.append_items-returns-clause-ok
append_items-returns-clause-ok t c =
    let l = c.loop-item in
    array_written (items_value c.args.items) (items_value l.left) c.requires.0 l.later _ _ _ _ c.requires.1
    c.in_default.ensures.value c.in_ok-push.ensures.items l.invariant.rest c.in_ok-push-2.ensures.items

pub append_list-returns-clause-ok : goal.append_list-returns-clause-ok
append_list-returns-clause-ok t c =
    let l = c.loop-member in
    let none : drop l.member-index c.args.list.now ≡ [] = grind (arith, common_steps) in
    object_written c.args.list.now _ l.later _ _ _ _ none c.in_ok-push.ensures.items l.invariant.rest
    c.in_ok-push-2.ensures.items
