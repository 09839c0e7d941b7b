-- Bytes that are fed in two pieces.
use Rattle.std.proofs.Common.{◌≡◌, ℕ, ◌+◌, List, [], ◌++◌, length, sym, ◌∙◌, ap, arith, append_assoc}
use Rattle.std.proofs.Common.{append-nil, length-append}
use Rattle.jp_doc.specs.Feeding.{Cut, Progress, numbered}
use Rattle.jp_doc.proofs.CutLaws.{numbered_both}
use Rattle.jp_run.specs.Cutting.{Numbering, cut, fed, fed_lines, progress_in}
use Rattle.jp_run.specs.declared.cutting.Cutting.{Cutting}
use Rattle.jp_run.proofs.Cuttings.{cut_again, cut_both}

pub lines_twice : (c : Cutting) (p : Progress) (a b : List ℕ)
    → fed_lines c p (a ++ b) ≡ fed_lines c p a ++ fed_lines c (fed c p a) b
lines_twice c p a b =
    let front : List ℕ = p.open_line ++ a in
    ap (λ l. numbered (p.count + 1) (cut c l).ended) (sym (append_assoc p.open_line a b))
    ∙ ap (λ (k : Cut). numbered (p.count + 1) k.ended) (cut_both c front b)
    ∙ numbered_both (p.count + 1) ((fed c p a).count + 1) (cut c front).ended
    (cut c ((cut c front).open_line ++ b)).ended (omega arith)

pub fed_twice : (c : Cutting) (p : Progress) (a b : List ℕ) → fed c p (a ++ b) ≡ fed c (fed c p a) b
fed_twice c p a b =
    let front : List ℕ = p.open_line ++ a in
    let later : Cut = cut c ((cut c front).open_line ++ b) in
    let counts : p.count + length ((cut c front).ended ++ later.ended) ≡ p.count + length (cut c front).ended
    + length later.ended = omega (arith, length-append (cut c front).ended later.ended) in
    ap (λ l. record { count = p.count + length (cut c l).ended; open_line = (cut c l).open_line })
    (sym (append_assoc p.open_line a b))
    ∙ ap (λ (k : Cut). record { count = p.count + length k.ended; open_line = k.open_line })
    (cut_both c front b)
    ∙ ap (λ k. record { count = k; open_line = later.open_line }) counts

-- nothing more ends in no bytes
pub lines_nothing : (n : Numbering) (bytes : List ℕ) → fed_lines n.cutting (progress_in n bytes) [] ≡ []
lines_nothing n bytes =
    let p : Progress = progress_in n bytes in
    ap (λ l. numbered (p.count + 1) (cut n.cutting l).ended) (append-nil (cut n.cutting bytes).open_line)
    ∙ ap (λ (k : Cut). numbered (p.count + 1) k.ended) (cut_again n.cutting bytes)
