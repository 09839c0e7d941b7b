use Rattle.std.proofs.Common.{◌≡◌, ◌*◌, ◌≤◌, true, length}
use Rattle.std.specs.Str.{chars}
use Rattle.jp_explain.specs.Picture.{is_shown}
use Rattle.jp_explain.proofs.picture.has_room.Given as goal

abbrev pub invariant-loop-c : goal.invariant-loop-c
invariant-loop-c l = is_shown (chars l.fn.text) ≡ true → l.taken ≤ 2 * length l.yielded
