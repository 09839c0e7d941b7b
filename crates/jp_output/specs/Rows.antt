-- Rows: the values of fields of a node, side by side.
use Rattle.std.specs.Prelude.{ℕ, ℤ, List, [], ◌∷◌, ◌++◌, map, string_bytes, Option, None, Some}
use Rattle.std.specs.Prelude.{option_and_then, option_to_list}
use Rattle.std.specs.List.{flat_map}
use Rattle.std.specs.Str.{chars}
use Rattle.jp_doc.specs.Json.{Json, Text}
use Rattle.jp_doc.specs.Location.{Node, node, member_of}
use Rattle.jp_node.specs.Nodes.{items_at}
use Rattle.jp_node.specs.Selected.{index_places}
use Rattle.jp_output.specs.UnquotedText.{unquoted_text}
use Rattle.jp_output.specs.declared.field.Field.{Field}
use Rattle.jp_output.specs.declared.field.FieldStep.{FieldStep}
use Rattle.jp_output.specs.declared.field.FieldStep.TheVariants.{Name, Index}

-- what a segment of a singular query selects (RFC 9535, 2.3.5.1): the member of this name (2.3.1), or the
-- item at this index, which counts from the end where it is negative (2.3.3)
pub data Step : Type 0 where
  member : Text → Step
  item : ℤ → Step

-- a field: the segments of a singular query of `@`
abbrev pub Path : Type 0
Path = List Step

-- what a `FieldStep` and a `Field` of `src/` stand for
abbrev pub step_of : FieldStep → Step
step_of (Name name) = member (chars (string_bytes name))
step_of (Index index) = item index

abbrev pub field_of : Field → Path
field_of f = map step_of f.steps.items

-- the value of the first of these nodes, if there is one
abbrev pub first_in : List Node → Option Json
first_in [] = None
first_in (n ∷ ns) = Some n.value

-- the item at this place, if there is one
abbrev pub item_by : Option ℕ → Json → Option Json
item_by place v = first_in (items_at (node [] v) (option_to_list place))

-- the value that a step leads to, if there is one
abbrev pub step_value : Step → Json → Option Json
step_value (member name) v = member_of name v
step_value (item index) v = first_in (items_at (node [] v) (index_places index v))

-- step after step
abbrev pub field_value : Path → Json → Option Json
field_value [] v = Some v
field_value (s ∷ ss) v = option_and_then (field_value ss) (step_value s v)

-- what is written of a field: a text without its quotes, any other value as its compact text, or nothing
-- where there is no value
abbrev pub field_text : Option Json → List ℕ
field_text None = []
field_text (Some v) = unquoted_text v

-- a field of a value
abbrev pub field_at : Json → Path → List ℕ
field_at v f = field_text (field_value f v)

-- each behind a tab
abbrev pub behind_tabs : List Path → Json → List ℕ
behind_tabs fs v = flat_map (λ f. 9 ∷ field_at v f) fs

-- the fields of a value with tabs between, and a line feed
abbrev pub row : List Path → Json → List ℕ
row [] v = 10 ∷ []
row (f ∷ fs) v = field_at v f ++ (behind_tabs fs v ++ 10 ∷ [])

-- the fields of a node
abbrev pub row_line : List Path → Node → List ℕ
row_line fs n = row fs n.value

-- The fields, and the bytes so far: what a further node does to them.
abbrev pub put_row : List Path × List ℕ → Node → List Path × List ℕ
put_row (fs, bytes) n = (fs, bytes ++ row_line fs n)
