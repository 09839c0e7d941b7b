use Rattle.std.proofs.Common.{◌≡◌, ◌∙◌, ap, sym, Some, option_map}
use Rattle.jp_tree.specs.Tree as tree
use Rattle.jp_types.specs.Functions.{function_named, match_function, search_function}
use Rattle.jp_types.specs.Kinds.{function_of}
use Rattle.jp_compiled.specs.Parts.{call_of_two, as_argument, value_in}
use Rattle.jp_check.proofs.Naming.{named}
use Rattle.jp_compiled.proofs.CompiledViews.{match_read, search_read}
use Rattle.jp_check.proofs.making.given_test.Goals as goal

pub returns-in-Some-Match : goal.returns-in-Some-Match
returns-in-Some-Match c = λ all name e.
    let told = c.in-Some-Match.field-0-is in
    let known : function_named name ≡ Some match_function = sym e
    ∙ ap (option_map function_of) c.in-Some-Match.is
    ∙ ap (λ f. Some (function_of f)) (rw c.in-Some-Match.is at told) in
    match_read all c.args.text c.args.pattern
    ∙ ap (λ n. tree.test_call (call_of_two n (as_argument (value_in all c.args.text))
    (as_argument (value_in all c.args.pattern)))) (sym (named name match_function known))

pub returns-in-Some-Search : goal.returns-in-Some-Search
returns-in-Some-Search c = λ all name e.
    let told = c.in-Some-Search.field-0-is in
    let known : function_named name ≡ Some search_function = sym e
    ∙ ap (option_map function_of) c.in-Some-Search.is
    ∙ ap (λ f. Some (function_of f)) (rw c.in-Some-Search.is at told) in
    search_read all c.args.text c.args.pattern
    ∙ ap (λ n. tree.test_call (call_of_two n (as_argument (value_in all c.args.text))
    (as_argument (value_in all c.args.pattern)))) (sym (named name search_function known))
