use Rattle.std.proofs.Common.{◌≡◌, Bool, true, false, ◌||◌, nat_lt, List, [], ◌∷◌, length, Ok, refl, sym, ap}
use Rattle.std.proofs.Common.{◌∙◌, suc, arith}
use Rattle.std.proofs.lemmas.Grind.{common_steps}
use Rattle.serde_json.proofs.Views.{view-Array}
use Rattle.serde_json.specs.View.{items_view}
use Rattle.serde_json.specs.Written.{items_have_float}
use Rattle.serde_json.specs.declared.value.Value.{Value}
use Rattle.jp_doc.specs.inner.Limits.{tested}
use Rattle.jp_doc.specs.Json.{items_of, item_list}
use Rattle.jp_doc.specs.Reading.{items_have_long_array}
use Rattle.jp_doc.proofs.limits.+limits.Goals as goal

length_items : (vs : List Value) → length (item_list (items_of (items_view vs))) ≡ length vs
length_items [] = refl
length_items (v ∷ vs) = ap (λ n. suc n) (length_items vs)

or_none : (a : Bool) → a ≡ a || false
or_none true = refl
or_none false = refl

this_alone : (float within this : Bool) → tested float within ≡ Ok false → tested float (this || within)
    ≡ Ok this
this_alone true within this e = cc
this_alone false true this e = cc
this_alone false false this e = ap (λ b. tested false b) (sym (or_none this))

pub long_within-returns-else-branch : goal.long_within-returns-else-branch
long_within-returns-else-branch t c =
    let items = items_view c.in-Array.items.items in
    let within = items_have_long_array c.args.limit (items_of items) in
    record {
      long = rw (c.in-Array.is, view-Array, length_items)
          (ap (λ n. tested false (nat_lt c.args.limit n)) (c.len.ensures ∙ c.in-Array.items.ok.0)
          ∙ sym (this_alone (items_have_float items) within _
          (sym c.long_within_items.ensures.long ∙ c.in_ok-long_within_items-in-Array.was
          ∙ ap (λ b. tested false b) c.if-branch.false)));
    }

pub long_within_items-returns-in_err-long : goal.long_within_items-returns-in_err-long
long_within_items-returns-in_err-long c = grind (arith, common_steps)

pub long_within_items-loop-item-preserved : goal.long_within_items-loop-item-preserved
long_within_items-loop-item-preserved c = grind (arith, common_steps)

pub long_within_items-returns : goal.long_within_items-returns
long_within_items-returns c = grind (arith, common_steps)
