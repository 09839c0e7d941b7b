use Rattle.std.proofs.Common.{◌≡◌, ℕ, List, [], Option, Some, None, IfSome, option_map, sym, subst}
use Rattle.std.specs.List.{All}
use Rattle.jp_run.specs.Answered.{manner_of}
use Rattle.jp_run.specs.AskedTexts.{asked_by}
use Rattle.jp_run.specs.Begun.{Begun, AllSince}
use Rattle.jp_run.specs.Limits.{window}
use Rattle.jp_run.specs.Prompt.{IsNear, IsPrompt}
use Rattle.jp_run_tests.proofs.kept_reads.run_kept.Goals as goal

-- where no read had begun before, what holds of each read since holds of each in the list
of_each : {A : Type 0} (items : A → List Begun) (P : Begun → Type 0) (kept : Option A)
    → AllSince (Some []) (option_map items kept) P → IfSome kept (λ reads. All P (items reads))
of_each items P None since = tt
of_each items P (Some reads) since = subst (All P) (sym since.1) since.2

-- the same of a source that has these bytes, and a sink that has taken none
of_each_read : {A : Type 0} (items : A → List Begun) (P : List ℕ → List ℕ → Begun → Type 0)
    (old : Option (List Begun)) (kept : Option A) (rest bytes written : List ℕ)
    → old ≡ Some [] → rest ≡ bytes → written ≡ [] → AllSince old (option_map items kept) (P rest written)
    → IfSome kept (λ reads. All (P bytes []) (items reads))
of_each_read items P old kept rest bytes written none same empty since =
    of_each items (P bytes []) kept (
    subst (λ (o : Option (List Begun)). AllSince o (option_map items kept) (P bytes [])) none (
    subst (λ (w : List ℕ). AllSince old (option_map items kept) (P bytes w)) empty (
    subst (λ (r : List ℕ). AllSince old (option_map items kept) (P r written)) same since)))

pub returns-clause-prompt : goal.returns-clause-prompt
returns-clause-prompt g c = of_each_read _
    (λ rest written. IsPrompt (manner_of c.args.settings.now)
    (asked_by c.args.query.now c.args.settings.now) (Some rest) (Some written))
    _ _ _ _ _ c.new-source.ensures.kept c.new-source.ensures.bytes c.new.ensures.items
    c.run-end.ensures.prompt

pub returns-clause-window : goal.returns-clause-window
returns-clause-window g c = of_each_read _
    (λ rest written. IsNear window (manner_of c.args.settings.now)
    (asked_by c.args.query.now c.args.settings.now) (Some rest) (Some written))
    _ _ _ _ _ c.new-source.ensures.kept c.new-source.ensures.bytes c.new.ensures.items
    c.run-end.ensures.window
