use Rattle.std.proofs.Common.{◌≡◌, ℕ, ◌-◌, List, length, take, drop, slice_index, sym, ap, ◌∙◌, subst, arith}
use Rattle.std.proofs.Common.{length-drop}
use Rattle.std.proofs.lemmas.List.{take_all}
use Rattle.jp_flat.specs.inner.Plain.{IsLed}
use Rattle.jp_flat.proofs.ReadNumbers.{unsigned_led, empty_led, minus_led, minus_told}
use Rattle.jp_flat.proofs.digits.read_whole.Goals as goal
use Rattle.jp_flat.proofs.digits.read_whole.Goals.{then-is_empty-via-then-is_empty}
use Rattle.jp_flat.proofs.digits.read_whole.Goals.{then-is_empty-via-else-is_empty+then-bytes-ne45}

-- the bytes behind the first
behind : (bytes s : List ℕ) → bytes ≡ s → take (length bytes - 1) (drop 1 bytes) ≡ drop 1 s
behind bytes s e =
    take_all (length bytes - 1) (drop 1 bytes) (omega (arith, length-drop 1 bytes)) ∙ ap (drop 1) e

pub read_unsigned-requires : goal.read_unsigned-requires
read_unsigned-requires c =
    let s = c.args.text.now in
    let same = c.as_bytes-bytes.ensures.value in
    subst IsLed (sym same) (elim c.then-is_empty.branch [
      | then-is_empty-via-then-is_empty w ↦ empty_led s c.requires (grind arith)
      | then-is_empty-via-else-is_empty+then-bytes-ne45 w ↦
          unsigned_led s c.requires (λ e. let other = ap (λ l. slice_index l 0) same in grind arith)
    ])

pub read_minus-requires : goal.read_minus-requires
read_minus-requires c =
    let s = c.args.text.now in
    let same = c.as_bytes-bytes.ensures.value in
    let first : slice_index s 0 ≡ 45 = let other = ap (λ l. slice_index l 0) same in grind arith in
    subst IsLed (sym (behind c.as_bytes-bytes.result.now s same)) (minus_led s c.requires first)

pub returns : goal.returns
returns c =
    let s = c.args.text.now in
    let same = c.as_bytes-bytes.ensures.value in
    let first : slice_index s 0 ≡ 45 = let other = ap (λ l. slice_index l 0) same in grind arith in
    minus_told c.read_minus.result _ s (behind c.as_bytes-bytes.result.now s same) first c.read_minus.ensures
