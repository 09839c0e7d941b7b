use Rattle.jp_automaton.proofs.SpanLemmas.{class_same}
use Rattle.jp_automaton.proofs.classes.letters.Goals as goal

pub returns-in_ok-spans-in-Class-2 : goal.returns-in_ok-spans-in-Class-2
returns-in_ok-spans-in-Class-2 c =
    class_same c.args.set c.in-Class.negated c.in-Class.elements c.in_ok-spans-in-Class.spans.items
    c.in_ok-spans-in-Class-2.spans.items c.in_ok-spans-in-Class.categories.items c.in-Class.is
    c.in_ok-spans-in-Class.ensures c.in_ok-spans-in-Class-2.ensures.same
