use Rattle.std.proofs.lemmas.Str.{IsUtf8-string_bytes}
use Rattle.jp_explain.proofs.Marks.{text_pushed}
use Rattle.jp_explain.proofs.growth.push_text.Goals as goal

pub returns : goal.returns
returns c = text_pushed c.push_str.result _ _ _ (IsUtf8-string_bytes c.args.text.now) c.push_str.ensures.bytes
