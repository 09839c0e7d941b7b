use Rattle.std.proofs.Common.{◌≡◌, ℕ, ◌<◌, slice_index_or}
use Rattle.unicode.specs.declared.properties.GeneralCategory.{GeneralCategory as Category}
use Rattle.unicode.specs.GeneralCategory.{general_category_eq}
use Rattle.jp_automaton.proofs.classes.are_same.Given as goal

abbrev pub invariant-loop-i : goal.invariant-loop-i
invariant-loop-i l = (k : ℕ) (x d : Category) → k < l.i →
    general_category_eq x (slice_index_or l.one k d) ≡ general_category_eq x (slice_index_or l.other k d)
