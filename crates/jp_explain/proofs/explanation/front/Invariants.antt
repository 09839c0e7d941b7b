use Rattle.std.proofs.Common.{◌≡◌, ◌++◌, length}
use Rattle.std.specs.Str.{chars}
use denote.Text.{Utf8}
use denote.Shadow.{shadow}
use Rattle.jp_tree.specs.View.{text_of}
use Rattle.jp_explain.proofs.explanation.front.Given as goal

abbrev pub invariant-loop-turn : goal.invariant-loop-turn
invariant-loop-turn l = shadow (Utf8 l.rest) × (chars l.fn.text ≡ text_of l.front ++ chars l.rest)
    × (length (text_of l.front) ≡ l._turn)
