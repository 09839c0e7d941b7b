use Rattle.std.proofs.Common.{refl, true, ◌≡◌, ◌∙◌, ap, map, subst, List}
use Rattle.std.specs.Prelude.{Result, IfOk}
use Rattle.std.proofs.lemmas.Result.{IfOk-weaker}
use Rattle.clap.specs.Words.{App, Text, app_of, found_of, rows_of, is_simple, matches_of, fault_of}
use Rattle.clap.specs.Words.{is_simple_and_free, FailsBy, HasMatchesOf}
use Rattle.clap.specs.declared.parser.matches.ArgMatches.{ArgMatches}
use Rattle.clap.specs.declared.error.Error.{Error}
use Rattle.clap.proofs.OnLiterals.{clap_on_literals}
use Rattle.jp_program.specs.CommandLine.{jp_app, said, refusals, with_filter, with_output, with_numbers}
use Rattle.jp_program.specs.CommandLine.{with_flags, with_query}
use Rattle.jp_program.proofs.command_line.matches.Goals as goal

simple : is_simple jp_app ≡ true
unfolding clap_on_literals
simple = refl

free : is_simple_and_free jp_app ≡ true
unfolding clap_on_literals
free = refl

rows_are : (a b : App) (ws : List Text) (r : Result ArgMatches Error) → a ≡ b → is_simple b ≡ true
    → IfOk r (HasMatchesOf a ws) → IfOk r (λ m. rows_of (found_of m) ≡ matches_of b ws)
rows_are a b ws r e s h = IfOk-weaker r (HasMatchesOf a ws) (λ m. rows_of (found_of m) ≡ matches_of b ws)
    (λ m k. subst (λ (x : App). rows_of (found_of m) ≡ matches_of x ws) e (k (ap is_simple e ∙ s)).0) h

fails_so : (a b : App) (ws : List Text) (r : Result ArgMatches Error) → a ≡ b → is_simple_and_free b ≡ true
    → (is_simple_and_free a ≡ true → FailsBy (fault_of a ws) r) → FailsBy (fault_of b ws) r
fails_so a b ws r e s h = subst (λ (x : App). FailsBy (fault_of x ws) r) e (h (ap is_simple_and_free e ∙ s))

pub returns-clause-said : goal.returns-clause-said
unfolding said
returns-clause-said c =
    let output_is = c.in_ok-with_output.ensures ∙ ap with_output c.in_ok-named.ensures in
    let filter_is = c.in_ok-command.ensures ∙ ap with_filter output_is in
    let numbers_are = c.in_ok-with_numbers.ensures ∙ ap with_numbers filter_is in
    let flags_are = c.in_ok-command-2.ensures ∙ ap with_flags numbers_are in
    let app_is : app_of c.in_ok-command-3.command ≡ jp_app =
    c.in_ok-command-3.ensures ∙ ap with_query flags_are in
    rows_are (app_of c.in_ok-command-3.command) jp_app (map (λ s. s.now) c.args.words.now)
    c.try_get_matches_from.result app_is simple c.try_get_matches_from.ensures.matches

pub returns-clause-fault : goal.returns-clause-fault
unfolding refusals
returns-clause-fault c =
    let output_is = c.in_ok-with_output.ensures ∙ ap with_output c.in_ok-named.ensures in
    let filter_is = c.in_ok-command.ensures ∙ ap with_filter output_is in
    let numbers_are = c.in_ok-with_numbers.ensures ∙ ap with_numbers filter_is in
    let flags_are = c.in_ok-command-2.ensures ∙ ap with_flags numbers_are in
    let app_is : app_of c.in_ok-command-3.command ≡ jp_app =
    c.in_ok-command-3.ensures ∙ ap with_query flags_are in
    fails_so (app_of c.in_ok-command-3.command) jp_app (map (λ s. s.now) c.args.words.now)
    c.try_get_matches_from.result app_is free c.try_get_matches_from.ensures.kinds
