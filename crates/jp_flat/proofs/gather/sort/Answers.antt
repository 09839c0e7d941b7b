use Rattle.std.proofs.Common.{rules}
use Rattle.std.proofs.lemmas.Fn.{dedup_same}
use Rattle.std.proofs.lemmas.List.Sorted.{answers_always}
use Rattle.jp_flat.proofs.Sorted.{of_one_name, lower, weak_order, sorted_rise, sorted_last}
use Rattle.jp_flat.proofs.gather.sort.Goals as goal

pub returns-clause-rising : goal.returns-clause-rising
returns-clause-rising c =
    let sorted = c.in_ok-sort_by.ensures.sorted lower weak_order (answers_always _ _ _
    (λ f a r g h. search rules)) in
    let only = dedup_same _ of_one_name _
    (λ x y b f' x' y' k. search rules) _ _ c.dedup_by.ensures.filtered in
    sorted_rise _ _ sorted only

pub returns-clause-last : goal.returns-clause-last
returns-clause-last c =
    let stable = c.sort_by.ensures.stable lower weak_order (answers_always _ _ _
    (λ f a r g h. search rules)) in
    let only = dedup_same _ of_one_name _
    (λ x y b f' x' y' k. search rules) _ _ c.dedup_by.ensures.filtered in
    sorted_last c.args.members.now.items _ _ _ c.reverse.ensures.items stable only
