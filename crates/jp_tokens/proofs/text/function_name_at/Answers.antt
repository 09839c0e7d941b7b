use Rattle.std.proofs.Common.{sym, ◌∙◌}
use Rattle.std.specs.Str.{chars}
use Rattle.jp_tree.specs.Characters.{is_lower, is_function_character}
use Rattle.jp_tokens.specs.Reading.{run_at}
use Rattle.jp_tree.specs.Parts.{IsRun}
use Rattle.jp_tokens.proofs.LeavesRead.{run_sound}
use Rattle.jp_tokens.proofs.Cuts.{run_behind, some_front, front_read}
use Rattle.jp_tokens.proofs.text.function_name_at.Goals as goal

pub up_to-requires : goal.up_to-requires
up_to-requires c =
    let read = run_behind is_lower is_function_character (chars c.args.text.now) (chars c.in-Some.more.now)
    (chars c.past_function_name-rest.result.now) c.in-Some.c c.in-Some.ensures (sym c.is_lower.ensures
    ∙ c.if-is_lower.true) c.past_function_name-rest.ensures in
    some_front (IsRun is_lower is_function_character)
    (run_at is_lower is_function_character (chars c.args.text.now)) (chars c.args.text.now)
    (chars c.past_function_name-rest.result.now) read (run_sound is_lower is_function_character
    (chars c.args.text.now))

pub returns-in-Some : goal.returns-in-Some
returns-in-Some c =
    let read = run_behind is_lower is_function_character (chars c.args.text.now) (chars c.in-Some.more.now)
    (chars c.past_function_name-rest.result.now) c.in-Some.c c.in-Some.ensures (sym c.is_lower.ensures
    ∙ c.if-is_lower.true) c.past_function_name-rest.ensures in
    front_read (IsRun is_lower is_function_character)
    (run_at is_lower is_function_character (chars c.args.text.now)) (chars c.args.text.now)
    (chars c.past_function_name-rest.result.now) read (run_sound is_lower is_function_character
    (chars c.args.text.now)) (chars c.up_to.result.now) c.up_to.ensures
