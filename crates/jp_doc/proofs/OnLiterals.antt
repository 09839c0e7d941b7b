-- What an answer unfolds to compute the reading of a line that is written out.
use Rattle.std.specs.Prelude.{⊤}
use Rattle.std.specs.Str.{chars, is_utf8}
use Rattle.serde_json.proofs.OnLiterals.{serde_json_on_literals}
use Rattle.jp_number.proofs.OnLiterals.{numbers_on_literals}

unfoldable pub documents_on_literals : ⊤
unfolding serde_json_on_literals numbers_on_literals chars is_utf8
documents_on_literals = tt
