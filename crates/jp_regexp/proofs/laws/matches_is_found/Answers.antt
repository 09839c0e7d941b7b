use Rattle.std.proofs.Common.{[], refl, sym, append-nil}
use Rattle.jp_regexp.proofs.laws.matches_is_found.Goals as goal

pub returns : goal.returns
returns c = record {
  whole = λ text pattern_text m. ([], text, [], sym (append-nil text), m);
  nothing = λ text pattern_text m. ([], [], text, refl, m);
}
