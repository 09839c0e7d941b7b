use Rattle.std.proofs.Common.{◌∙◌, ◌++◌, ap, map-id, sym, subst}
use Rattle.std.proofs.lemmas.Iterator.{YieldsList-from_chars}
use Rattle.std.proofs.lemmas.Iterator.Consumers.{YieldsList-end}
use Rattle.std.specs.Str.{chars}
use Rattle.jp_tree.specs.Tree as tree
use Rattle.jp_tree.specs.Tree.{Text}
use Rattle.jp_tree.specs.Spelling.{LiteralIs}
use Rattle.jp_quote.proofs.Literals.{IsLine, begun, closed, quoted_alone, quoted_line, quoted_literal}
use Rattle.jp_quote.proofs.Literals.{quoted_only}
use Rattle.jp_quote.proofs.Scalars.{chars_are_scalar}
use Rattle.jp_quote.proofs.literal.quote.Goals as goal

pub loop-c-init : goal.loop-c-init
loop-c-init c = begun _ _ c.new-literal.ensures.bytes c.in_ok-push_character.ensures

pub returns-clause-written : goal.returns-clause-written
returns-clause-written c =
    let end = YieldsList-end (YieldsList-from_chars c.args.text.now c.utf8.text cc) c.loop-c.yielded _
    c.loop-c.yielded_by _ _ c.in-None.is c.next.ensures.steps in
    closed _ c.loop-c.yielded (chars c.args.text.now) _ c.loop-c.invariant (sym (map-id c.loop-c.yielded)
    ∙ end.0) c.in_ok-push_character-2.ensures

pub returns-clause-literal : goal.returns-clause-literal
returns-clause-literal c =
    subst (λ (t : Text). LiteralIs t (tree.text (chars c.args.text.now))) (sym (returns-clause-written c))
    (quoted_literal _ (chars_are_scalar c.args.text.now c.utf8.text))

pub returns-clause-only : goal.returns-clause-only
returns-clause-only c = λ x p. quoted_only _ x (chars_are_scalar c.args.text.now c.utf8.text)
    (subst (λ (t : Text). LiteralIs t x) (returns-clause-written c) p)

pub returns-clause-alone : goal.returns-clause-alone
returns-clause-alone c = λ behind front rest x p e.
    let written = returns-clause-written c in
    quoted_alone _ behind front rest x (chars_are_scalar c.args.text.now c.utf8.text) p
    (ap (λ (t : Text). t ++ behind) (sym written) ∙ e) ∙ sym written

pub returns-clause-line : goal.returns-clause-line
returns-clause-line c = subst IsLine (sym (returns-clause-written c)) (quoted_line (chars c.args.text.now))
