-- Texts that are I-Regexps, with their trees.
use Rattle.std.proofs.Common.{[], ◌∷◌, Some, None, true, false, refl, arith}
use Rattle.std.specs.Prelude.{codes}
use Rattle.unicode.specs.declared.properties.GeneralCategory.TheVariants.{UppercaseLetter, LowercaseLetter}
use Rattle.unicode.specs.declared.properties.GeneralCategory.TheVariants.{TitlecaseLetter, ModifierLetter}
use Rattle.unicode.specs.declared.properties.GeneralCategory.TheVariants.{OtherLetter, DecimalNumber}
use Rattle.jp_pattern.specs.Pattern.{CharSet, Pattern, empty, letter, group, either, repeat, plus}
use Rattle.jp_pattern.specs.Pattern.{dot, category, class, one, range, of_category}
use Rattle.jp_pattern.specs.Samples.{sign, letter_a, letter_b, branch, in_groups, in_parentheses, IsNoPattern}
use Rattle.jp_pattern.specs.Profile.{IsPatternOf}
use Rattle.jp_pattern.proofs.PatternsRead.{beyond}
use Rattle.jp_pattern.proofs.PatternsSound.{read_sound}
use Rattle.jp_pattern.proofs.ReadLemmas.{checked}

-- the empty text
abbrev pub nothing_tree : Pattern
nothing_tree = empty

pub nothing : IsPatternOf (codes "") nothing_tree
nothing = checked _ _ refl refl refl refl

-- a|
abbrev pub branch_or_nothing_tree : Pattern
branch_or_nothing_tree = either (branch (letter_a ∷ [])) empty

pub branch_or_nothing : IsPatternOf (codes "a|") branch_or_nothing_tree
branch_or_nothing = checked _ _ refl refl refl refl

-- [--]
abbrev pub hyphens_tree : Pattern
hyphens_tree = branch (letter (class false (one 45 ∷ one 45 ∷ [])) ∷ [])

pub hyphens : IsPatternOf (codes "[--]") hyphens_tree
hyphens = checked _ _ refl refl refl refl

-- [a-]+
abbrev pub letters_and_hyphens_tree : Pattern
letters_and_hyphens_tree = branch (plus (letter (class false (one 97 ∷ one 45 ∷ []))) ∷ [])

pub letters_and_hyphens : IsPatternOf (codes "[a-]+") letters_and_hyphens_tree
letters_and_hyphens = checked _ _ refl refl refl refl

-- \p{Lu}+
abbrev pub capitals_tree : Pattern
capitals_tree = branch (plus (letter (category false (UppercaseLetter ∷ []))) ∷ [])

pub capitals : IsPatternOf (codes "\\p{Lu}+") capitals_tree
capitals = checked _ _ refl refl refl refl

-- [^\n]
abbrev pub not_line_feed_tree : Pattern
not_line_feed_tree = branch (letter (class true (one 10 ∷ [])) ∷ [])

pub not_line_feed : IsPatternOf (codes "[^\\n]") not_line_feed_tree
not_line_feed = checked _ _ refl refl refl refl

-- .
abbrev pub any_character_tree : Pattern
any_character_tree = branch (letter dot ∷ [])

pub any_character : IsPatternOf (codes ".") any_character_tree
any_character = checked _ _ refl refl refl refl

-- a{02}
abbrev pub two_tree : Pattern
two_tree = branch (repeat 2 (Some 2) letter_a ∷ [])

pub two : IsPatternOf (codes "a{02}") two_tree
two = checked _ _ refl refl refl refl

-- a{2,}
abbrev pub two_or_more_tree : Pattern
two_or_more_tree = branch (repeat 2 None letter_a ∷ [])

pub two_or_more : IsPatternOf (codes "a{2,}") two_or_more_tree
two_or_more = checked _ _ refl refl refl refl

-- (a*)*b{0,2}
abbrev pub nested_tree : Pattern
nested_tree = branch (repeat 0 None (group (branch (repeat 0 None letter_a ∷ []))) ∷ repeat 0 (Some 2)
    letter_b ∷ [])

pub nested : IsPatternOf (codes "(a*)*b{0,2}") nested_tree
nested = checked _ _ refl refl refl refl

-- ^a$
abbrev pub signs_tree : Pattern
signs_tree = branch (sign 94 ∷ letter_a ∷ sign 36 ∷ [])

pub signs : IsPatternOf (codes "^a$") signs_tree
signs = checked _ _ refl refl refl refl

-- a.c
abbrev pub any_between_tree : Pattern
any_between_tree = branch (letter_a ∷ letter dot ∷ sign 99 ∷ [])

pub any_between : IsPatternOf (codes "a.c") any_between_tree
any_between = checked _ _ refl refl refl refl

-- [^a-z\p{Nd}]
abbrev pub neither_tree : Pattern
neither_tree = branch (letter (class true (range 97 122 ∷ of_category false (DecimalNumber ∷ []) ∷ [])) ∷ [])

pub neither : IsPatternOf (codes "[^a-z\\p{Nd}]") neither_tree
neither = checked _ _ refl refl refl refl

-- \P{L}
abbrev pub no_letter_tree : Pattern
no_letter_tree = branch
    (letter (category true (LowercaseLetter ∷ ModifierLetter ∷ OtherLetter ∷ TitlecaseLetter ∷ UppercaseLetter
    ∷ [])) ∷ [])

pub no_letter : IsPatternOf (codes "\\P{L}") no_letter_tree
no_letter = checked _ _ refl refl refl refl

-- (){1000}
abbrev pub no_copies_tree : Pattern
no_copies_tree = branch (repeat 1000 (Some 1000) (group empty) ∷ [])

pub no_copies : IsPatternOf (codes "(){1000}") no_copies_tree
no_copies = checked _ _ refl refl refl refl

-- a{1000}
abbrev pub thousand_tree : Pattern
thousand_tree = branch (repeat 1000 (Some 1000) letter_a ∷ [])

pub thousand : IsPatternOf (codes "a{1000}") thousand_tree
thousand = checked _ _ refl refl refl refl

-- (a{1000}){10}
abbrev pub ten_thousand_tree : Pattern
ten_thousand_tree = branch (repeat 10 (Some 10) (group (branch (repeat 1000 (Some 1000) letter_a ∷ []))) ∷ [])

pub ten_thousand : IsPatternOf (codes "(a{1000}){10}") ten_thousand_tree
ten_thousand = checked _ _ refl refl refl refl

-- (a|b)*a(a|b){3}
abbrev pub mixed_tree : Pattern
mixed_tree = branch (repeat 0 None (group (either (branch (letter_a ∷ [])) (branch (letter_b ∷ []))))
    ∷ letter_a ∷ repeat 3 (Some 3) (group (either (branch (letter_a ∷ [])) (branch (letter_b ∷ [])))) ∷ [])

pub mixed : IsPatternOf (codes "(a|b)*a(a|b){3}") mixed_tree
mixed = checked _ _ refl refl refl refl

-- (a?){1000}a{1000}
abbrev pub maybes_tree : Pattern
maybes_tree = branch (repeat 1000 (Some 1000) (group (branch (repeat 0 (Some 1) letter_a ∷ []))) ∷ repeat 1000
    (Some 1000) letter_a ∷ [])

pub maybes : IsPatternOf (codes "(a?){1000}a{1000}") maybes_tree
maybes = checked _ _ refl refl refl refl

-- ((((){1000}){1000}){1000}){1000}
abbrev pub nothing_in_depth_tree : Pattern
nothing_in_depth_tree =
    branch (repeat 1000 (Some 1000)
    (group (branch (repeat 1000 (Some 1000)
    (group (branch (repeat 1000 (Some 1000) (group (branch (repeat 1000 (Some 1000) (group empty) ∷ [])))
    ∷ []))) ∷ []))) ∷ [])

pub nothing_in_depth : IsPatternOf (codes "((((){1000}){1000}){1000}){1000}") nothing_in_depth_tree
nothing_in_depth = checked _ _ refl refl refl refl

-- (((a{1000}){1000}){1000}){0}
abbrev pub never_tree : Pattern
never_tree = branch (repeat 0 (Some 0)
    (group (branch (repeat 1000 (Some 1000)
    (group (branch (repeat 1000 (Some 1000) (group (branch (repeat 1000 (Some 1000) letter_a ∷ []))) ∷ [])))
    ∷ []))) ∷ [])

pub never : IsPatternOf (codes "(((a{1000}){1000}){1000}){0}") never_tree
never = checked _ _ refl refl refl refl

-- a+
abbrev pub some_letters_tree : Pattern
some_letters_tree = branch (plus letter_a ∷ [])

pub some_letters : IsPatternOf (codes "a+") some_letters_tree
some_letters = checked _ _ refl refl refl refl

-- a{1,}
abbrev pub one_or_more_tree : Pattern
one_or_more_tree = branch (repeat 1 None letter_a ∷ [])

pub one_or_more : IsPatternOf (codes "a{1,}") one_or_more_tree
one_or_more = checked _ _ refl refl refl refl

-- a{3,5}
abbrev pub up_to_five_tree : Pattern
up_to_five_tree = branch (repeat 3 (Some 5) letter_a ∷ [])

pub up_to_five : IsPatternOf (codes "a{3,5}") up_to_five_tree
up_to_five = checked _ _ refl refl refl refl

-- [a^.]
abbrev pub caret_later_tree : Pattern
caret_later_tree = branch (letter (class false (one 97 ∷ one 94 ∷ one 46 ∷ [])) ∷ [])

pub caret_later : IsPatternOf (codes "[a^.]") caret_later_tree
caret_later = checked _ _ refl refl refl refl

-- [\^]
abbrev pub escaped_caret_tree : Pattern
escaped_caret_tree = branch (letter (class false (one 94 ∷ [])) ∷ [])

pub escaped_caret : IsPatternOf (codes "[\\^]") escaped_caret_tree
escaped_caret = checked _ _ refl refl refl refl

-- [^^]
abbrev pub two_carets_tree : Pattern
two_carets_tree = branch (letter (class true (one 94 ∷ [])) ∷ [])

pub two_carets : IsPatternOf (codes "[^^]") two_carets_tree
two_carets = checked _ _ refl refl refl refl

-- [-a]?
abbrev pub hyphen_first_tree : Pattern
hyphen_first_tree = branch (repeat 0 (Some 1) (letter (class false (one 45 ∷ one 97 ∷ []))) ∷ [])

pub hyphen_first : IsPatternOf (codes "[-a]?") hyphen_first_tree
hyphen_first = checked _ _ refl refl refl refl

-- a|b|
abbrev pub branches_tree : Pattern
branches_tree = either (branch (letter_a ∷ [])) (either (branch (letter_b ∷ [])) empty)

pub branches : IsPatternOf (codes "a|b|") branches_tree
branches = checked _ _ refl refl refl refl

-- \.\-
abbrev pub escapes_tree : Pattern
escapes_tree = branch (sign 46 ∷ sign 45 ∷ [])

pub escapes : IsPatternOf (codes "\\.\\-") escapes_tree
escapes = checked _ _ refl refl refl refl

-- [\--\]]{003,5}
abbrev pub three_to_five_tree : Pattern
three_to_five_tree = branch (repeat 3 (Some 5) (letter (class false (range 45 93 ∷ []))) ∷ [])

pub three_to_five : IsPatternOf (codes "[\\--\\]]{003,5}") three_to_five_tree
three_to_five = checked _ _ refl refl refl refl

-- the set of `[a-]`
abbrev pub letter_or_hyphen : CharSet
letter_or_hyphen = class false (one 97 ∷ one 45 ∷ [])

-- ---- parentheses inside each other

pub sixty_four_parentheses : IsPatternOf (in_parentheses 64 (codes "a"))
    (in_groups 64 (branch (letter_a ∷ [])))
sixty_four_parentheses = checked _ _ refl refl refl refl

pub sixty_five_parentheses : IsNoPattern (in_parentheses 65 (codes "a"))
sixty_five_parentheses = beyond _ (in_groups 65 (branch (letter_a ∷ []))) (read_sound _ _ refl)
    (λ h. omega arith)

-- ---- beyond the limits

-- (a{1000}){11}
pub eleven_thousand : IsNoPattern (codes "(a{1000}){11}")
eleven_thousand = beyond _
    (branch (repeat 11 (Some 11) (group (branch (repeat 1000 (Some 1000) letter_a ∷ []))) ∷ []))
    (read_sound _ _ refl) (λ h. omega arith)

-- a{1001}
pub count_too_great : IsNoPattern (codes "a{1001}")
count_too_great = beyond _
    (branch (repeat 1001 (Some 1001) letter_a ∷ [])) (read_sound _ _ refl)
    (λ h. omega arith)

-- a{1001,}
pub least_too_great : IsNoPattern (codes "a{1001,}")
least_too_great = beyond _
    (branch (repeat 1001 None letter_a ∷ [])) (read_sound _ _ refl)
    (λ h. omega arith)

-- a{2,1}
pub bounds_that_fall : IsNoPattern (codes "a{2,1}")
bounds_that_fall = beyond _
    (branch (repeat 2 (Some 1) letter_a ∷ [])) (read_sound _ _ refl)
    (λ h. omega arith)
