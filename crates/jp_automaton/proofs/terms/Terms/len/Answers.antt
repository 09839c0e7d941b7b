use Rattle.jp_automaton.proofs.TermLemmas.{increasing}
use Rattle.jp_automaton.proofs.terms.Terms.len.Goals as goal

pub returns-clause-distinct : goal.returns-clause-distinct
returns-clause-distinct c = increasing c.args.self.now.at_start c.args.self.now.active.items
    c.args.self.now.rising
