-- Texts that open at most one bracket, piece by piece.
use Rattle.std.proofs.Common.{◌≡◌, ℕ, ◌≤◌, max, [], ◌∷◌, ◌++◌, refl, ap, ◌∙◌, arith}
use Rattle.jp_tree.specs.Tree.{Text}
use Rattle.jp_tokens.specs.Depth.{Place, step, scan, count_of}
use Rattle.jp_tokens.proofs.DepthLaws.{depth_from, depth_from_cons, count_within}

-- a scan leads from one place to another, with at most one bracket open on the way
pub record Passes (place : Place) (t : Text) (there : Place) : Type 0 where
  pub leads : scan place t ≡ there
  pub flat : depth_from place t ≤ 1

pub passes_none : (place : Place) → count_of place ≤ 1 → Passes place [] place
passes_none place h = record { leads = refl; flat = omega arith }

pub passes_one : (place there : Place) (c : ℕ) → step place c ≡ there → count_of place ≤ 1
    → count_of there ≤ 1 → Passes place (c ∷ []) there
passes_one place there c e h k =
    let d = depth_from_cons place c [] in
    let n : count_of (step place c) ≡ count_of there = ap count_of e in
    record { leads = e; flat = omega arith }

scan_on : (place : Place) (s t : Text) → scan place (s ++ t) ≡ scan (scan place s) t
scan_on place [] t = refl
scan_on place (c ∷ s) t = scan_on (step place c) s t

depth_on : (place : Place) (s t : Text) → depth_from place (s ++ t) ≡ max (depth_from place s)
    (depth_from (scan place s) t)
depth_on place [] t = let h = count_within place t in omega arith
depth_on place (c ∷ s) t =
    let e = depth_from_cons place c (s ++ t) in
    let k = depth_from_cons place c s in
    let h = depth_on (step place c) s t in
    omega arith

-- one text behind another
pub passes_on : (place here there : Place) (s t : Text) → Passes place s here → Passes here t there
    → Passes place (s ++ t) there
passes_on place here there s t p q =
    let d = depth_on place s t in
    let e : depth_from (scan place s) t ≡ depth_from here t = ap (λ (at : Place). depth_from at t) p.leads in
    let h = p.flat in
    let k = q.flat in
    record {
      leads = scan_on place s t ∙ ap (λ (at : Place). scan at t) p.leads ∙ q.leads;
      flat = omega arith;
    }
