use Rattle.std.proofs.Common.{◌≡◌, ◌++◌, true}
use Rattle.std.specs.Str.{chars}
use Rattle.jp_tree.specs.View.{text_of}
use Rattle.jp_explain.specs.Picture.{is_shown}
use Rattle.jp_explain.proofs.line.PlainLine.push_text.Given as goal

abbrev pub invariant-loop-c : goal.invariant-loop-c
invariant-loop-c l = is_shown (chars l.fn.text) ≡ true → text_of l.self.text
    ≡ text_of l.fn.self.text ++ l.yielded
