use Rattle.std.proofs.Common.{ap, sym, subst}
use Rattle.std.specs.Str.{chars}
use Rattle.jp_tree.specs.View.{text_of}
use Rattle.jp_explain.specs.Picture.{IsHelp}
use Rattle.jp_explain.proofs.Pictures.{line_pictured, line_helped}
use Rattle.jp_explain.proofs.document_picture.write_document_mark.Goals as goal

pub returns : goal.returns
returns c = record {
  shown = line_helped c.above.result (chars c.as_str.result.now)
      (subst IsHelp (sym (ap chars c.as_str.ensures.value)) c.in_ok-help.ensures.shown)
      (line_pictured c.above.result _ _ (text_of c.in_ok-picture.picture) _
      (ap chars c.as_str-2.ensures.value) c.above.ensures.shown c.in_ok-picture.ensures
      c.above.ensures.value);
}
