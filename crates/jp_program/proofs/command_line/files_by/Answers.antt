use Rattle.std.proofs.Common.{◌∙◌, codes, sym, [], true≢false}
use Rattle.std.proofs.lemmas.List.Elements.{All-nil}
use Rattle.clap.specs.Words.{found_of, rows_of}
use Rattle.clap.proofs.WalkLemmas.{raw_values-rows}
use Rattle.jp_program.specs.Wanted.{IsName}
use Rattle.jp_program.proofs.Naming.{files_said, files_unsaid}
use Rattle.jp_program.proofs.Saying.{files_some, files_none}
use Rattle.jp_program.proofs.command_line.files_by.Goals as goal

pub returns-in_default-clause-some : goal.returns-in_default-clause-some
returns-in_default-clause-some c =
    let found = found_of c.args.matches.now in
    files_said (rows_of found) [] (files_none (rows_of found) c.get_strs.result
    (c.get_strs.ensures ∙ raw_values-rows found (codes "file")) c.in_default.is)
    c.new.result.items c.new.ensures.items (All-nil (λ name. IsName name.now))

pub returns-then-not-are_names-clause-none : goal.returns-then-not-are_names-clause-none
returns-then-not-are_names-clause-none c = λ none.
    let found = found_of c.args.matches.now in
    files_unsaid (rows_of found) c.in-Some.given.now (files_some (rows_of found) c.get_strs.result
    (c.get_strs.ensures ∙ raw_values-rows found (codes "file")) c.in-Some.given c.in-Some.is)
    (λ names. true≢false (sym (c.are_names.ensures.1 names) ∙ c.if-not-are_names.true))

pub returns-clause-some : goal.returns-clause-some
returns-clause-some c =
    let found = found_of c.args.matches.now in
    files_said (rows_of found) c.in-Some.given.now (files_some (rows_of found) c.get_strs.result
    (c.get_strs.ensures ∙ raw_values-rows found (codes "file")) c.in-Some.given c.in-Some.is)
    c.in_ok-copied.field-0.items c.in_ok-copied.ensures (c.are_names.ensures.0 c.if-not-are_names.false)
