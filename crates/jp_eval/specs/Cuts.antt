-- How many walks of one document go on at once.
use Rattle.std.specs.Prelude.{ℕ, ◌^◌}
use Rattle.jp_eval.specs.declared.fork.Cuts.{Cuts}

-- at most so many: each cut that may lie around a list makes two of one
abbrev pub most_walks : Cuts → ℕ
most_walks c = 2 ^ c.left
