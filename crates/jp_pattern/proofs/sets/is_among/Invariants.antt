use Rattle.std.proofs.Common.{◌≡◌, drop}
use Rattle.std.specs.List.{list_any}
use Rattle.unicode.specs.GeneralCategory.{general_category_eq}
use Rattle.jp_pattern.proofs.sets.is_among.Given as goal

abbrev pub invariant-loop-x : goal.invariant-loop-x
invariant-loop-x l = list_any (general_category_eq l.category) l.categories
    ≡ list_any (general_category_eq l.category) (drop l.x-index l.categories)
