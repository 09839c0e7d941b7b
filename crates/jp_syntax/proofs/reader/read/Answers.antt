use Rattle.std.proofs.Common.{◌∙◌, sym, refl}
use Rattle.jp_syntax.specs.inner.Reading.{read}
use Rattle.jp_syntax.proofs.reader.read.Goals as goal

pub returns-then-not-is_end : goal.returns-then-not-is_end
unfolding read
returns-then-not-is_end c =
    let end = sym c.is_end.ensures ∙ c.if-not-is_end.true in
    let segments = rw c.new.ensures.items at c.in_ok-segments-in-Some-eq36-default.ensures in
    rw (
      c.in-Some-eq36-default.ensures,
      segments,
      c.in-Some-eq36-default.field-0-0-test,
      end,
    ) refl

pub returns-else-not-is_end : goal.returns-else-not-is_end
unfolding read
returns-else-not-is_end c =
    let end = sym c.is_end.ensures ∙ c.if-not-is_end.false in
    let segments = rw c.new.ensures.items at c.in_ok-segments-in-Some-eq36-default.ensures in
    rw (
      c.in-Some-eq36-default.ensures,
      segments,
      c.in-Some-eq36-default.field-0-0-test,
      end,
      c.query_from.ensures,
    ) refl
