use Rattle.std.proofs.Common.{◌≡◌, ◌-◌, ◌+◌, ◌∙◌, ap, arith, take, drop, length, List, ℕ, length-drop}
use Rattle.std.proofs.lemmas.List.{take_all}
use Rattle.std.proofs.lemmas.List.Edits.{take-paste}
use Rattle.std.specs.List.{copy_within}
use Rattle.jp_buffer.proofs.waiting.take_front.Goals as goal

-- what is behind the front, copied to the front
moved_down : {A : Type 0} (xs moved kept : List A) (n len : ℕ) → len ≡ length xs
    → moved ≡ copy_within xs n len 0 → kept ≡ take (len - n) moved → kept ≡ drop n xs
moved_down xs moved kept n len l m e =
    e ∙ ap (take (len - n)) m
    ∙ ap (λ k. take k (copy_within xs n len 0)) {x = len - n} {y = 0 + (len - n)} (omega arith)
    ∙ take-paste xs 0 (drop n xs) (len - n) (omega arith) (omega (arith, l, length-drop n xs))
    ∙ take_all (len - n) (drop n xs) (omega (arith, l, length-drop n xs))

pub returns : goal.returns
returns g c =
    moved_down c.args.items.now.items _ _ c.args.count c.args.items.now.len c.args.items.now.ok.0
    c.copy_within.ensures.items
    (c.truncate.ensures.items ∙ ap (λ k. take (k - c.args.count) c.copy_within.new.self.items) c.len.ensures)
