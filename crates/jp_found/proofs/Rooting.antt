-- What is kept of the values of `$` queries.
use Rattle.std.proofs.Common.{◌≡◌, true, Option, Some, None, IfSome, option_map, refl, ap, sym}
use Rattle.std.proofs.Common.{◌∙◌}
use Rattle.std.specs.Prelude.{MatchOption}
use Rattle.jp_doc.specs.Json.{Json}
use Rattle.jp_found.specs.Aggregates.{told}
use Rattle.jp_found.specs.RootAnswers.{is_length, IsLength, is_in_order}
use Rattle.jp_found.specs.declared.aggregates.Aggregate.{Aggregate}
use Rattle.jp_found.proofs.Identity.{identical_are, are_identical}
use Rattle.jp_found.specs.declared.root_answer.Length.{Length}
use Rattle.jp_found.specs.declared.root_answer.Length.TheVariants.{Unknown, Nothing, Number}
use Rattle.jp_value.specs.Functions.{length_value}
use Rattle.jp_value.specs.Ordered.{ordered_value}
use Rattle.jp_value.specs.declared.ordered.Ordered.{Ordered}

-- a length that is kept is that of the value
pub length_known : (l : Length) (a : Aggregate) (v : Option Json) → is_length l a ≡ true → told a ≡ v
    → IsLength l v
length_known Unknown a v h t = tt
length_known Nothing a v h t = identical_are _ _ h ∙ ap length_value t
length_known (Number n) a v h t = identical_are _ _ h ∙ ap length_value t

-- what is put in order is the value that is told
pub in_order : (r : Option Ordered) (a : Aggregate) (v : Json) → told a ≡ Some v
    → IfSome r (λ o. ordered_value o ≡ v) → is_in_order r a ≡ true
in_order None a v t h = refl
in_order (Some o) a v t h = are_identical (Some (ordered_value o)) (told a) (ap Some h ∙ sym t)

pub order_lent : {X : Type 0} (lends : X → Ordered) (r : Option X) (o : Option Ordered) (a : Aggregate)
    → option_map lends r ≡ o → is_in_order o a ≡ true → IfSome r (λ x. told a ≡ Some (ordered_value (lends x)))
order_lent lends None o a e h = tt
order_lent lends (Some x) o a e h =
    sym (identical_are (Some (ordered_value (lends x))) (told a) (ap (λ p. is_in_order p a) e ∙ h))

pub some_of : {X : Type 0} (A : Type 0) (r : Option X) {P Q : X → Type 0} → MatchOption r A P
    → ((x : X) → P x → Q x) → IfSome r Q
some_of A None h f = tt
some_of A (Some x) h f = f x h
