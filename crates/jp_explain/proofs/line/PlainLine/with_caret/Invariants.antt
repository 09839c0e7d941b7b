use Rattle.std.proofs.Common.{◌≡◌, ◌∷◌, ◌++◌}
use Rattle.std.specs.Prelude.{replicate}
use Rattle.jp_tree.specs.View.{text_of}
use Rattle.jp_explain.proofs.line.PlainLine.with_caret.Given as goal

abbrev pub invariant-loop-at : goal.invariant-loop-at
invariant-loop-at l = text_of l.text ≡ text_of l.self.text ++ (10 ∷ replicate l._at 32)
