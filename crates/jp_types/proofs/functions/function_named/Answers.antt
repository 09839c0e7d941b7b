use Rattle.std.proofs.Common.{refl, codes}
use Rattle.std.specs.Str.{chars}
use Rattle.jp_types.proofs.Names.{is_not}
use Rattle.jp_types.proofs.functions.function_named.Goals as goal

pub returns-in-length : goal.returns-in-length
unfolding chars
returns-in-length c = rw c.in-length.is refl

pub returns-in-count : goal.returns-in-count
unfolding chars
returns-in-count c = rw c.in-count.is refl

pub returns-in-match : goal.returns-in-match
unfolding chars
returns-in-match c = rw c.in-match.is refl

pub returns-in-search : goal.returns-in-search
unfolding chars
returns-in-search c = rw c.in-search.is refl

pub returns-in-value : goal.returns-in-value
unfolding chars
returns-in-value c = rw c.in-value.is refl

pub returns-in-xor : goal.returns-in-xor
unfolding chars
returns-in-xor c = rw c.in-xor.is refl

pub returns-in-distinct : goal.returns-in-distinct
unfolding chars
returns-in-distinct c = rw c.in-distinct.is refl

pub returns-in_default : goal.returns-in_default
returns-in_default c =
    let name = c.args.name.now in
    rw (
      is_not name (codes "length") c.utf8.name refl c.in_default.not-length,
      is_not name (codes "count")
          c.utf8.name refl c.in_default.not-count,
      is_not name (codes "match") c.utf8.name refl
          c.in_default.not-match,
      is_not name (codes "search") c.utf8.name refl c.in_default.not-search,
      is_not name (codes "value") c.utf8.name refl c.in_default.not-value,
      is_not name (codes "xor") c.utf8.name refl c.in_default.not-xor,
      is_not name (codes "distinct") c.utf8.name refl c.in_default.not-distinct,
    ) refl
