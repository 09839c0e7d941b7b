use Rattle.std.proofs.Common.{suc, length, ap, add-one, List}
use Rattle.std.specs.Prelude.{option_map}
use Rattle.std.proofs.lemmas.Result.{err_from_is_err_and}
use Rattle.jp_pattern.specs.Pattern.{Text, Element, CharSet}
use Rattle.jp_pattern.specs.inner.Reading.{listing_at}
use Rattle.jp_pattern.proofs.TurnLemmas.{fails_map}
use Rattle.jp_pattern.proofs.read_sets.class_of.Goals as goal

pub returns-in_err-elements : goal.returns-in_err-elements
returns-in_err-elements c =
    let p = err_from_is_err_and c.from_residual.result c.from_residual.ensures.1 in
    let fails = rw (add-one (length c.args.text.now)) at c.in_err-elements.ensures in
    rw (p.1, p.2) (fails_map (λ (q : List Element × Text). (CharSet.class c.args.negated q.0, q.1))
    c.in_err-elements.field-0.0 (listing_at (suc (length c.args.text.now)) c.args.text.now) fails)

pub returns : goal.returns
returns c =
    let read = rw (add-one (length c.args.text.now)) at c.in_ok-elements.ensures in
    ap (option_map (λ (q : List Element × Text). (CharSet.class c.args.negated q.0, q.1))) read
