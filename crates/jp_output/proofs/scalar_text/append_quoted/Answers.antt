use Rattle.std.proofs.Common.{◌∙◌, sym, arith}
use Rattle.std.proofs.lemmas.Grind.{common_steps}
use Rattle.std.proofs.lemmas.Str.{encodes-chars}
use Rattle.jp_output.proofs.FlatTexts.{bare_text}
use Rattle.jp_output.proofs.scalar_text.append_quoted.Goals as goal

pub append_bare-requires : goal.append_bare-requires
append_bare-requires c =
    let bare = bare_text c.as_bytes.result.now (sym c.is_bare.ensures ∙ c.if-is_bare.true) in
    grind (arith, common_steps, bare)

pub returns-then-is_bare-clause-ok : goal.returns-then-is_bare-clause-ok
returns-then-is_bare-clause-ok c =
    rw (encodes-chars c.args.text.now c.utf8.text) c.append_bare.ensures.ok

pub returns-clause-ok : goal.returns-clause-ok
returns-clause-ok c = rw (encodes-chars c.args.text.now c.utf8.text) (grind (arith, common_steps))
