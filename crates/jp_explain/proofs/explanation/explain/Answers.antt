use Rattle.jp_explain.proofs.explanation.explain.Goals as goal

pub returns-clause-mark : goal.returns-clause-mark
returns-clause-mark c = c.at_root.ensures c.args.numbers
