use Rattle.std.proofs.Common.{◌≡◌, ◌++◌, ◌-◌, rules}
use Rattle.jp_flat_nodes.specs.Nodes.{piece}
use Rattle.jp_flat_nodes.proofs.Unescaping.{nothing_written, run_written, escape_written}
use Rattle.jp_flat_nodes.proofs.escapes.unescaped_end.Goals as goal

pub returns-in-34-clause-written : goal.returns-in-34-clause-written
returns-in-34-clause-written c h =
    let run : c.extend_from_slice.new.self.items ≡ c.loop-from.texts.items ++ piece c.args.line.now
    c.loop-from.at (c.plain_end-stop.result - c.loop-from.at) = search rules in
    run_written c.args.line.now c.args.from c.loop-from.at c.plain_end-stop.result _ _ _
    c.loop-from.invariant c.plain_end-stop.ensures.value c.plain_end-stop.ensures.within run

pub loop-from-init : goal.loop-from-init
loop-from-init c = nothing_written c.args.line.now c.args.from c.args.texts.now.items c.requires.1

pub loop-from-preserved : goal.loop-from-preserved
loop-from-preserved c =
    let run : c.extend_from_slice.new.self.items ≡ c.loop-from.texts.items ++ piece c.args.line.now
    c.loop-from.at (c.plain_end-stop.result - c.loop-from.at) = search rules in
    escape_written c.args.line.now c.args.from c.plain_end-stop.result c.in-Some.escape.letter
    c.in-Some.escape.end _ _ _
    (run_written c.args.line.now c.args.from c.loop-from.at c.plain_end-stop.result _ _ _
    c.loop-from.invariant c.plain_end-stop.ensures.value c.plain_end-stop.ensures.within run)
    c.in-Some.ensures (c.put_letter.ensures c.if-not-put_letter.false)
