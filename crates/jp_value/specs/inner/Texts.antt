-- A step of a proof, which nobody has to believe: the text that a value is.
use Rattle.std.specs.Prelude.{Option, Some, None}
use Rattle.jp_doc.specs.Json.{Text, Json, text}

-- the text, where there is one
abbrev pub text_in : Option Json → Option Text
text_in (Some (text t)) = Some t
text_in _ = None
