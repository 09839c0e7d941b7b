-- A working file, which nobody has to believe: what an output buffer holds, for private clauses alone.
use Rattle.std.specs.Prelude.{ℕ, List, ◌++◌}
use Rattle.jp_output.specs.Chunks.{bytes_in}
use Rattle.jp_output.specs.declared.output_buffer.OutputBuffer.{OutputBuffer}

abbrev pub buffered : OutputBuffer → List ℕ
buffered b = bytes_in b.before.items ++ b.out.items
