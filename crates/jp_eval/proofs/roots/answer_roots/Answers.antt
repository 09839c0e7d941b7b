use Rattle.std.proofs.Common.{◌≡◌, ◌+◌, ◌<◌, ◌∷◌, ◌++◌, [], suc, length, take, get_or}
use Rattle.std.proofs.Common.{sym, ap, ap₂, ◌∙◌, arith, rules}
use Rattle.std.proofs.lemmas.Grind.{common_steps}
use Rattle.std.proofs.Math.Seq.{take-suc}
use Rattle.jp_compiled.specs.Parts.{roots_of, wanted_in}
use Rattle.jp_compiled.specs.Uniform.{wanted_uniform}
use Rattle.jp_eval.proofs.RootsUniform.{uniform_at}
use Rattle.jp_eval.proofs.roots.answer_roots.Goals as goal

pub with-requires-clause-roots : goal.with-requires-clause-roots
with-requires-clause-roots g c =
    let xs = c.args.roots.now in
    let slot = c.loop-slot.slot in
    let within : slot < length xs = search rules in
    let next : slot + 1 ≡ suc slot = omega arith in
    ap (λ n. take n xs) next
    ∙ take-suc xs slot c.index-roots-slot.result within
    ∙ ap₂ (λ ys y. ys ++ y ∷ []) (sym c.loop-slot.invariant.0) (sym c.index-roots-slot.is)

pub answer-requires : goal.answer-requires
answer-requires g c =
    let xs = c.args.roots.now in
    let slot = c.loop-slot.slot in
    let within : slot < length xs = search rules in
    let is : c.index-roots-slot.result ≡ get_or xs slot c.index-roots-slot.result = search rules in
    ap (λ rs. wanted_uniform (wanted_in (roots_of rs) c.index-roots-slot.result)) c.loop-slot.invariant.0
    ∙ uniform_at [] xs slot c.index-roots-slot.result within is c.requires

pub returns-clause-roots : goal.returns-clause-roots
returns-clause-roots c = grind (arith, common_steps)
