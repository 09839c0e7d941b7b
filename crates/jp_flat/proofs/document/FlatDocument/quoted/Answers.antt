use Rattle.std.proofs.Common.{◌≡◌, ◌+◌, ◌-◌, ◌∙◌, take, drop, ap, arith}
use Rattle.jp_flat.proofs.document.FlatDocument.quoted.Goals as goal

pub returns : goal.returns
returns c =
    let p = c.requires in
    let count : c.args.from + c.args.count + 1 - (c.args.from - 1) ≡ c.args.count + 2 =
    omega (arith, p.behind) in
    ap (λ k. take k (drop (c.args.from - 1) c.args.self.now.line.now)) count ∙ p.is
