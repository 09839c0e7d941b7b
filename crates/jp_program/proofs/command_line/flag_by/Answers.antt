use Rattle.clap.specs.Words.{found_of, rows_of}
use Rattle.clap.proofs.WalkLemmas.{one_text-rows}
use Rattle.jp_program.proofs.Saying.{flag_some, flag_none}
use Rattle.jp_program.proofs.command_line.flag_by.Goals as goal

pub returns-clause-some : goal.returns-clause-some
returns-clause-some c =
    let found = found_of c.args.matches.now in
    flag_some _ c.args.name.now (rows_of found) _ (one_text-rows found c.args.name.now)
    c.get_one.result c.get_one.ensures.none c.get_one.ensures.value

pub returns-clause-none : goal.returns-clause-none
returns-clause-none c =
    let found = found_of c.args.matches.now in
    flag_none _ c.args.name.now (rows_of found) _ (one_text-rows found c.args.name.now)
    c.get_one.result c.get_one.ensures.value
