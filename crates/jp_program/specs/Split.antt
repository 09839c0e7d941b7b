-- A query that the shell has split at its blanks: the first part stands in its place, the others are files.
use Rattle.std.specs.Prelude.{◌==◌, ◌||◌, ◌&&◌, if◌then◌else◌, ℕ, Bool, true, false, List, [], ◌∷◌, codes}
use Rattle.std.specs.Prelude.{nat_eq}
use Rattle.std.specs.List.{ends_with, list_any, starts_with}
use Rattle.std.specs.Str.{bytes_eq}
use Rattle.clap.specs.Walk.{Text}

-- a name is one of the operators that may stand between blanks
abbrev pub is_operator : Text → Bool
is_operator name = bytes_eq name (codes "==") || bytes_eq name (codes "!=") || bytes_eq name (codes "<=")
    || bytes_eq name (codes ">=") || bytes_eq name (codes "&&") || bytes_eq name (codes "||")

-- it begins as a query does, or as one inside a filter
abbrev pub begins_as_query : Text → Bool
begins_as_query name = starts_with nat_eq name (codes "$.") || starts_with nat_eq name (codes "$[")
    || starts_with nat_eq name (codes "@.") || starts_with nat_eq name (codes "@[")

-- the first of its brackets closes, so another part has opened it: [ is 91, and ] is 93
abbrev pub closes_first : Text → Bool
closes_first [] = false
closes_first (b ∷ bytes) = if b == 91 then false else (if b == 93 then true else closes_first bytes)

-- the name of a file looks like a part of a query
abbrev pub looks_like_query : Text → Bool
looks_like_query name = is_operator name || begins_as_query name || ends_with nat_eq name (codes "]")
    || closes_first name

-- some of these names do
abbrev pub some_looks_so : List Text → Bool
some_looks_so names = list_any looks_like_query names

-- a text, in scalar values, begins with $, which is 36
abbrev pub begins_with_root : List ℕ → Bool
begins_with_root [] = false
begins_with_root (c ∷ cs) = c == 36

-- what stands for the query begins as one, and some file looks like a part of it
abbrev pub looks_split : List ℕ → List Text → Bool
looks_split query files = begins_with_root query && some_looks_so files

-- the line that asks for its quotes
abbrev pub question_line : List ℕ
question_line = codes "jp: is the query in single quotes?\n"

-- that line, where the query looks split, and else nothing
abbrev pub question : List ℕ → List Text → List ℕ
question query files = if looks_split query files then question_line else []
