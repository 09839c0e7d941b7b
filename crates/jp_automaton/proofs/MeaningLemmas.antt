-- What each kind of expression stands for.
use Rattle.std.proofs.Common.{◌≡◌, ℕ, ◌&&◌, true, map, Option, Vec, Box, Global, sym, ap, ◌∙◌}
use Rattle.jp_pattern.specs.Pattern.{Pattern}
use Rattle.jp_automaton.specs.Letters.{letters_of}
use Rattle.jp_automaton.specs.Expressions.{Meaning, meaning, meaning_of_layer, pattern_in, sized_as}
use Rattle.jp_automaton.specs.Expressions.{in_turn_of}
use Rattle.jp_automaton.specs.Expressions.{before_last_of, all_sized}
use Rattle.jp_automaton.specs.declared.letters.Letters.{Letters}
use Rattle.jp_automaton.specs.declared.expressions.Expression.{Expression}
use Rattle.jp_automaton.specs.declared.expressions.Expression.TheFolds.{fold-roll-Expression}
use Rattle.jp_automaton.specs.declared.expressions.Expression.TheVariants.{Set, Pieces, Branches, Repeat}
use Rattle.jp_automaton.specs.declared.expressions.Expression.TheVariants.{Plus}
use Rattle.jp_automaton.specs.declared.expressions.Expression.TheVariants.{rolls-Set}
use Rattle.jp_automaton.specs.declared.expressions.Expression.TheVariants.{rolls-Pieces, rolls-Branches}
use Rattle.jp_automaton.specs.declared.expressions.Expression.TheVariants.{rolls-Repeat}
use Rattle.jp_automaton.specs.declared.expressions.Expression.TheVariants.{rolls-Plus}

abbrev pub set_meaning : Letters → Meaning
set_meaning set = record { pattern = Pattern.letter (letters_of set); is_sized = true }

pub expression_set : (set : Letters) → meaning (Set set) ≡ set_meaning set
expression_set set = ap meaning (sym (rolls-Set set)) ∙ fold-roll-Expression Meaning meaning_of_layer _

pub expression_pieces : (n : ℕ) (pieces : Vec Expression Global) →
    meaning (Pieces n pieces) ≡ sized_as n (in_turn_of (map meaning pieces.items))
    (all_sized (map meaning pieces.items))
expression_pieces n pieces =
    ap meaning (sym (rolls-Pieces n pieces)) ∙ fold-roll-Expression Meaning meaning_of_layer _

pub expression_branches : (n : ℕ) (before : Vec Expression Global) (last : Box Expression Global) →
    meaning (Branches n before last) ≡ sized_as n (before_last_of (map meaning before.items)
    (pattern_in last.value))
    (all_sized (map meaning before.items) && (meaning last.value).is_sized)
expression_branches n before last = ap meaning (sym (rolls-Branches n before last))
    ∙ fold-roll-Expression Meaning
    meaning_of_layer _

pub expression_repeat : (n least : ℕ) (most : Option ℕ) (atom : Box Expression Global) →
    meaning (Repeat n least most atom) ≡ sized_as n (Pattern.repeat least most (pattern_in atom.value))
    (meaning atom.value).is_sized
expression_repeat n least most atom = ap meaning (sym (rolls-Repeat n least most atom))
    ∙ fold-roll-Expression Meaning
    meaning_of_layer _

pub expression_plus : (n : ℕ) (atom : Box Expression Global) →
    meaning (Plus n atom) ≡ sized_as n (Pattern.plus (pattern_in atom.value)) (meaning atom.value).is_sized
expression_plus n atom = ap meaning (sym (rolls-Plus n atom))
    ∙ fold-roll-Expression Meaning meaning_of_layer _
