use Rattle.std.proofs.Common.{◌≡◌, ◌+◌, ◌-◌, take, drop, sym, subst, arith}
use Rattle.std.proofs.lemmas.Str.{IsUtf8-from_is_utf8}
use Rattle.std.specs.Str.{IsUtf8}
use Rattle.jp_flat.proofs.document.piece_of.Goals as goal

pub from_utf8_unchecked-requires : goal.from_utf8_unchecked-requires
from_utf8_unchecked-requires c =
    let count : c.args.from + c.args.count - c.args.from ≡ c.args.count = omega arith in
    subst (λ k. IsUtf8 (take k (drop c.args.from c.args.text.now))) (sym count)
    (IsUtf8-from_is_utf8 _ c.requires.1)
