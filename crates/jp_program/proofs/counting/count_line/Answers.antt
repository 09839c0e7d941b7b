use Rattle.std.proofs.Common.{◌≡◌, ◌∙◌, ℕ, List, [], ◌∷◌, ◌++◌, Option, Some, None, ap, append_assoc}
use Rattle.std.proofs.Common.{option_map, sym}
use Rattle.std.proofs.lemmas.Result.{IfOk-weaker}
use Rattle.std.specs.Borrow.{Bor}
use Rattle.std.specs.Prelude.{decimal, string_bytes}
use Rattle.jp_run.specs.Answered.{head_behind}
use Rattle.jp_program.specs.Outcome.{count_line}
use Rattle.jp_program.proofs.counting.count_line.Goals as goal

behind : (given : Option (Bor (List ℕ))) (name : Bor (List ℕ)) (n : ℕ) → given ≡ Some name
    → name.now ++ 9 ∷ (decimal n ++ 10 ∷ [])
    ≡ count_line (head_behind (option_map (λ n. n.now) given)) n
behind given name n is = sym (ap (λ (o : Option (Bor (List ℕ))). count_line (head_behind
    (option_map (λ n. n.now) o)) n) is ∙ append_assoc name.now (9 ∷ []) (decimal n ++ 10 ∷ []))

alone : (given : Option (Bor (List ℕ))) (n : ℕ) → given ≡ None
    → decimal n ++ 10 ∷ [] ≡ count_line (head_behind (option_map (λ n. n.now) given)) n
alone given n is = sym (ap (λ (o : Option (Bor (List ℕ))). count_line (head_behind
    (option_map (λ n. n.now) o)) n) is)

pub returns-in-Some : goal.returns-in-Some
returns-in-Some c = IfOk-weaker c.format.result
    (λ s. string_bytes s ≡ c.in-Some.name.now ++ 9 ∷ (decimal c.args.count ++ 10 ∷ [])) _
    (λ s h. h ∙ behind c.args.name c.in-Some.name c.args.count c.in-Some.is) c.format.ensures.ok

pub returns-in-None : goal.returns-in-None
returns-in-None c = IfOk-weaker c.format-in-None.result
    (λ s. string_bytes s ≡ decimal c.args.count ++ 10 ∷ []) _
    (λ s h. h ∙ alone c.args.name c.args.count c.in-None.is) c.format-in-None.ensures.ok
