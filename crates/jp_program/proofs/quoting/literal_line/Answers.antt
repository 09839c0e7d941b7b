use Rattle.std.proofs.Common.{◌∙◌, ◌++◌, List, ℕ, ap, codes, sym}
use Rattle.std.specs.Prelude.{encode_utf8_all, string_bytes}
use Rattle.std.proofs.lemmas.Str.{IsUtf8-string_bytes, encodes-chars}
use lib.Utf8.{encode}
use Rattle.jp_program.proofs.quoting.literal_line.Goals as goal

pub returns : goal.returns
unfolding encode
returns c =
    let literal = string_bytes c.in_ok-line.line in
    c.in_ok-push.ensures.bytes
    ∙ ap (λ (bytes : List ℕ). bytes ++ codes "\n")
    (sym (encodes-chars literal (IsUtf8-string_bytes c.in_ok-line.line))
    ∙ ap encode_utf8_all c.in_ok-line.ensures.written)
