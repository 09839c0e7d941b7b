use Rattle.std.proofs.Common.{◌∙◌, sym, subst, ap}
use Rattle.std.specs.Str.{IsUtf8}
use Rattle.std.proofs.lemmas.Str.{IsUtf8-nil, IsUtf8-string_bytes}
use Rattle.jp_node.proofs.PathBytes.{path_chars}
use Rattle.jp_output.proofs.path.write_path.Goals as goal

pub unreachable-requires : goal.unreachable-requires
unreachable-requires c =
    let ok = c.in-Err.ensures.succeeds
    (c.in_ok-append_path.ensures.text (subst IsUtf8 (sym c.new-bytes.ensures.items) IsUtf8-nil)) in
    absurd cc

pub returns : goal.returns
returns c =
    path_chars _ c.new-bytes.result.items _ (IsUtf8-string_bytes c.in-Ok.text) c.new-bytes.ensures.items
    (ap (λ v. v.items) c.in-Ok.ensures.ok ∙ c.in_ok-append_path.ensures.ok)
