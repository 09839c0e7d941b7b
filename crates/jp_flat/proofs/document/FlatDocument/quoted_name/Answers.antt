use Rattle.std.proofs.Common.{◌≡◌, ◌+◌, ◌-◌, ◌<◌, ◌∙◌, ◌++◌, ◌∷◌, [], suc, take, drop, get_or, length, ap}
use Rattle.std.proofs.Common.{ap₂, arith}
use Rattle.std.proofs.Common.{get_or-drop, length-drop, lt_of_not-le}
use Rattle.std.proofs.lemmas.List.{get_or_past}
use Rattle.std.proofs.Math.Seq.{take-suc}
use Rattle.jp_flat.proofs.document.FlatDocument.quoted_name.Goals as goal

pub returns : goal.returns
returns c =
    let line = c.args.self.now.line.now in
    let from = c.args.from in
    let count = c.args.count in
    let p = c.requires.0 in
    let size : from + count + 2 - (from - 1) ≡ suc (count + 2) = omega (arith, p.behind) in
    let colon : from - 1 + (count + 2) ≡ from + count + 1 = omega (arith, p.behind) in
    let rest = drop (from - 1) line in
    let inside : from + count + 1 < length line = lt_of_not-le (λ past. omega
    (arith, c.requires.1, get_or_past line (from + count + 1) 0 past)) in
    ap (λ k. take k rest) size
    ∙ take-suc rest (count + 2) 0 (omega (arith, p.behind, inside, length-drop (from - 1) line))
    ∙ ap₂ (λ l b. l ++ b ∷ []) p.is (get_or-drop (from - 1) line (count + 2) 0
    ∙ ap (λ i. get_or line i 0) colon ∙ c.requires.1)
