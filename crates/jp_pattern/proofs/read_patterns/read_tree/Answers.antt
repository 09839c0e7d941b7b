use Rattle.jp_pattern.proofs.ReadLemmas.{tree_read}
use Rattle.jp_pattern.proofs.read_patterns.read_tree.Goals as goal

pub returns : goal.returns
returns c = tree_read c.args.text.now c.read_whole.result c.read_whole.ensures
