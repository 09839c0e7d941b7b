-- Patterns as other languages write them, between slashes.
use Rattle.std.specs.Prelude.{ℕ, ◌≡◌, if◌then◌else◌, ◌==◌, ◌||◌, Bool, [], ◌∷◌}
use Rattle.jp_tree.specs.Tree.{Text}
use Rattle.jp_explain.specs.declared.slashes.Slashes.{Slashes}
use Rattle.jp_explain.specs.declared.slashes.Slashes.TheVariants.{Start, Opened, Inside, Closed}
use Rattle.jp_explain.specs.declared.slashes.Slashes.TheVariants.{Flagged, Other}

-- a letter that other languages write behind the second slash: one of g, i, m, s, u, x and y
abbrev pub is_flag : ℕ → Bool
is_flag c = c == 0x67 || c == 0x69 || c == 0x6d || c == 0x73 || c == 0x75 || c == 0x78 || c == 0x79

-- how far a text has come behind one character more
abbrev pub slash_next : Slashes → ℕ → Slashes
slash_next Start c = if c == 0x2f then Opened else Other
slash_next Opened c = if c == 0x2f then Other else Inside
slash_next Inside c = if c == 0x2f then Closed else Inside
slash_next Closed c = if is_flag c then Flagged else Other
slash_next Flagged c = if is_flag c then Flagged else Other
slash_next Other c = Other

-- how far a text comes from there
abbrev pub slashes_from : Slashes → Text → Slashes
slashes_from s [] = s
slashes_from s (c ∷ t) = slashes_from (slash_next s c) t

-- The text is a slash, characters that are none, a slash, and such letters: `/x/i`. Without letters it may be
-- a part of a path that is meant so.
abbrev pub HasSlashes : Text → Type 0
HasSlashes t = slashes_from Start t ≡ Flagged
