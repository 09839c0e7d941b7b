-- The lines of a stream that is cut between two lines, and the answer to it block by block.
use Rattle.std.proofs.Common.{◌≡◌, ℕ, zero, suc, ◌+◌, inl, inr, List, [], ◌∷◌, ◌++◌, Option, Some, None}
use Rattle.std.proofs.Common.{refl, ap, ap₂, sym, ◌∙◌, arith, length, map, length-append, append-nil}
use Rattle.std.specs.List.{concat}
use Rattle.jp_doc.specs.Feeding.{numbered}
use Rattle.jp_doc.specs.Lines.{Line, all_lines, lines, line_count}
use Rattle.jp_doc.specs.declared.fault.DocFault.{DocFault}
use Rattle.jp_doc.proofs.CutLaws.{numbered_both}
use Rattle.jp_doc.proofs.LineLaws.{lines_of_both}
use Rattle.jp_answer.specs.Answer.{Answer, nothing, joined, unless_stopped}
use Rattle.jp_answer.specs.Streams.{AreWholeLines, line_feeds, AreBlocks, placed_blocks, in_turn}

whole_both : (a b : List ℕ) → AreWholeLines a → all_lines (a ++ b) ≡ all_lines a ++ all_lines b
whole_both a b whole = elim whole [
  | inl none ↦ rw none refl
  | inr ended ↦ rw ended.1 (lines_of_both ended.0 b)
]

pub count_both : (a b : List ℕ) → AreWholeLines a → line_count (a ++ b) ≡ line_count a + line_count b
count_both a b whole = ap length (whole_both a b whole) ∙ length-append (all_lines a) (all_lines b)

-- line feeds make blank lines, which are counted and not handed out
behind_feeds : (n m k : ℕ) (b : List ℕ) → k ≡ m + n → numbered m (all_lines (line_feeds n ++ b))
    ≡ numbered k (all_lines b)
behind_feeds zero m k b e = ap (λ x. numbered x (all_lines b)) {x = m} {y = k} (omega (arith, e))
behind_feeds (suc n) m k b e = behind_feeds n (m + 1) k b (omega (arith, e))

lines_behind : (n : ℕ) (a b : List ℕ) → AreWholeLines a → lines (line_feeds n ++ (a ++ b))
    ≡ lines (line_feeds n ++ a) ++ lines (line_feeds (n + line_count a) ++ b)
lines_behind n a b whole =
    let next : ℕ = 1 + (n + line_count a) in
    behind_feeds n 1 (1 + n) (a ++ b) refl
    ∙ ap (numbered (1 + n)) (whole_both a b whole)
    ∙ numbered_both (1 + n) next (all_lines a) (all_lines b) (omega arith)
    ∙ ap (λ ls. ls ++ numbered next (all_lines b)) (sym (behind_feeds n 1 (1 + n) a refl))
    ∙ ap (λ ls. lines (line_feeds n ++ a) ++ ls) (sym (behind_feeds (n + line_count a) 1 next b refl))

pub lines_both : (a b : List ℕ) → AreWholeLines a → lines (a ++ b)
    ≡ lines a ++ lines (line_feeds (line_count a) ++ b)
lines_both a b whole =
    lines_behind 0 a b whole
    ∙ ap (λ n. lines a ++ lines (line_feeds n ++ b)) {x = 0 + line_count a} {y = line_count a} (omega arith)

joined_nothing_by : (stop : Option (ℕ × DocFault)) (a : Answer) → a.stopped ≡ stop
    → unless_stopped stop a nothing ≡ a
joined_nothing_by None a e =
    let count : a.faulty + 0 ≡ a.faulty = omega arith in
    ap₂ (λ bytes n. record { bytes = bytes; stopped = None; faulty = n }) (append-nil a.bytes) count
    ∙ ap (λ stop. record { bytes = a.bytes; stopped = stop; faulty = a.faulty }) (sym e)
joined_nothing_by (Some stop) a e = refl

pub joined_nothing : (a : Answer) → joined a nothing ≡ a
joined_nothing a = joined_nothing_by a.stopped a refl

-- what answers lines, and lines behind others in turn
module _ (f : List Line → Answer) (none : f [] ≡ nothing)
    (both : (a b : List Line) → f (a ++ b) ≡ joined (f a) (f b)) where
  answered_behind : (n : ℕ) (bs : List (List ℕ)) → AreBlocks bs → f (lines (line_feeds n ++ concat bs))
      ≡ in_turn (map (λ b. f (lines b)) (placed_blocks n bs))
  answered_behind n [] h = ap f (behind_feeds n 1 (1 + n) [] refl) ∙ none
  answered_behind n (b ∷ []) h =
      ap (λ (bytes : List ℕ). f (lines (line_feeds n ++ bytes))) (append-nil b)
      ∙ sym (joined_nothing (f (lines (line_feeds n ++ b))))
  answered_behind n (b ∷ c ∷ bs) h =
      ap f (lines_behind n b (concat (c ∷ bs)) h.0)
      ∙ both (lines (line_feeds n ++ b)) (lines (line_feeds (n + line_count b) ++ concat (c ∷ bs)))
      ∙ ap (joined (f (lines (line_feeds n ++ b)))) (answered_behind (n + line_count b) (c ∷ bs) h.1)

  pub blocks_answered : (bs : List (List ℕ)) → AreBlocks bs → f (lines (concat bs))
      ≡ in_turn (map (λ b. f (lines b)) (placed_blocks 0 bs))
  blocks_answered bs h = answered_behind 0 bs h
