use Rattle.std.proofs.Common.{◌∙◌, codes, option_map, ap, sym}
use Rattle.clap.specs.Words.{found_of, rows_of, first_value}
use Rattle.clap.proofs.WalkLemmas.{first_value-rows}
use Rattle.jp_program.proofs.Saying.{output_some, output_unsaid, output_none}
use Rattle.jp_program.proofs.command_line.output_by.Goals as goal

pub returns-in_err-word-clause-none : goal.returns-in_err-word-clause-none
returns-in_err-word-clause-none c = λ h o s.
    let found = found_of c.args.matches.now in
    output_unsaid (rows_of found) (first_value found (codes "output"))
    (first_value-rows found (codes "output"))
    (sym c.get_str.ensures ∙ ap (option_map (λ s. s.now)) (c.in_err-word.was)) o s

pub returns-clause-some : goal.returns-clause-some
returns-clause-some c =
    let found = found_of c.args.matches.now in
    output_some (rows_of found) (first_value found (codes "output")) (first_value-rows found (codes "output"))
    c.in_ok-word.word.now (sym c.get_str.ensures ∙ ap (option_map (λ s. s.now)) (c.in_ok-word.was))
    c.output_of.result c.output_of.ensures.some

pub returns-clause-none : goal.returns-clause-none
returns-clause-none c =
    let found = found_of c.args.matches.now in
    output_none (rows_of found) (first_value found (codes "output")) (first_value-rows found (codes "output"))
    c.in_ok-word.word.now (sym c.get_str.ensures ∙ ap (option_map (λ s. s.now)) (c.in_ok-word.was))
    c.output_of.result c.output_of.ensures.none
