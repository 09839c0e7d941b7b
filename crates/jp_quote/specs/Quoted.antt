-- A text as a string literal of a query, in the form that names have in normalized paths (RFC 9535, 2.7).
use Rattle.std.specs.Prelude.{[], ◌∷◌, ◌++◌}
use Rattle.std.specs.List.{flat_map}
use Rattle.jp_tree.specs.Tree.{Text}
use Rattle.jp_node.specs.Path.{escaped}

-- single quotes, which are 39, and between them each character, or its escape
abbrev pub quoted_text : Text → Text
quoted_text t = 39 ∷ flat_map escaped t ++ 39 ∷ []
