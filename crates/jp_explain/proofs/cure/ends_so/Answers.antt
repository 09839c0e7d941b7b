use Rattle.std.proofs.lemmas.Str.Pattern.{ends_text}
use Rattle.jp_explain.proofs.cure.ends_so.Goals as goal

pub returns : goal.returns
returns c = ends_text _ _ _ c.ends_with.ensures.cases
