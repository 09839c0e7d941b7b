-- What is accepted where literals are whole is accepted where they may be all numbers.
use Rattle.std.proofs.Common.{◌≡◌, true, false, List, [], ◌∷◌, Ok, refl, sym, ap, ◌∙◌}
use Rattle.std.specs.List.{list_any, list_all}
use Rattle.jp_number.specs.declared.numbers.Numbers.TheVariants.{Whole, Decimals}
use Rattle.jp_tree.specs.Tree.{Text, Query}
use Rattle.jp_types.specs.Numbers.{Written, literal_number, position, query_numbers}
use Rattle.jp_types.specs.Numbers.{is_fraction, is_in_range, is_in_range_in}
use Rattle.jp_types.proofs.WholeLiterals.{whole_short}
use Rattle.jp_check.specs.Verdict.{verdict_of, verdict_in, IsAccepted, IsAcceptedIn}
use Rattle.jp_check.proofs.NumbersSpelled.{neither}
use Rattle.jp_check.proofs.Sound.{both}
use Rattle.jp_check.proofs.Verdicts.{accepts, accepts_only}

one_in_range : (n : Written) → is_fraction n ≡ false → is_in_range n ≡ true → is_in_range_in Decimals n ≡ true
one_in_range (literal_number t) f r = whole_short t (rw (f, r) refl)
one_in_range (position t) f r = r

all_in_range : (ns : List Written) → list_any is_fraction ns ≡ false → list_all is_in_range ns ≡ true
    → list_all (is_in_range_in Decimals) ns ≡ true
all_in_range [] f r = refl
all_in_range (n ∷ ns) f r =
    let g = neither (is_fraction n) _ f in
    let s = both (is_in_range n) _ r in
    rw (one_in_range n g.0 s.0) (all_in_range ns g.1 s.1)

accepted_as : (p q : Query) → verdict_of p ≡ Ok q → verdict_in Decimals p ≡ Ok q
accepted_as p q h =
    let a = accepts_only Whole p q h in
    accepts Decimals p refl (all_in_range (query_numbers p) a.1 a.2) a.3 ∙ ap Ok (sym a.0)

pub tree_accepted : (q : Query) → verdict_of q ≡ Ok q → verdict_in Decimals q ≡ Ok q
tree_accepted q h = accepted_as q q h

pub text_accepted : (t : Text) (q : Query) → IsAccepted t q → IsAcceptedIn Decimals t q
text_accepted t q h = (h.0, (h.1.0, h.1.1, accepted_as h.1.0 q h.1.2))
