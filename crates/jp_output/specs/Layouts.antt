-- What stands around what is written.
use Rattle.std.specs.Prelude.{ℕ, List}
use Rattle.jp_output.specs.Rows.{Path}
use Rattle.jp_output.specs.declared.layout.Ending.{Ending}
use Rattle.jp_output.specs.declared.layout.Ending.TheVariants.{LineFeed, Null}
use Rattle.jp_output.specs.declared.layout.Layout.{Layout}

-- the byte of an ending: that of a line feed, or of U+0000
abbrev pub ending_byte : Ending → ℕ
ending_byte LineFeed = 10
ending_byte Null = 0

-- these bytes before each line of nodes, this ending behind each value, and these fields in each row
abbrev pub laid_out : List ℕ → Ending → List Path → Layout
laid_out head ending fields = record { head = head; ending = ending; fields = fields }
