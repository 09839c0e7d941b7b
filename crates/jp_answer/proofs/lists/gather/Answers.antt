use Rattle.std.proofs.Common.{◌∙◌, ◌++◌, ⊎_elim, ap, drop, drop_of_length-le, inl, inr, map, subst, ◌+◌}
use Rattle.std.proofs.Common.{sym, take}
use Rattle.jp_buffer.specs.Buffered.{line_at}
use Rattle.jp_answer.specs.Queued.{sent_lines}
use Rattle.jp_answer.specs.inner.Gathering.{Gathers}
use Rattle.jp_answer.proofs.Gathering.{all_gathered, cut_lines, gathers_sent, none_told, some_told}
use Rattle.jp_answer.proofs.lists.gather.Goals as goal

pub returns-then-is_some : goal.returns-then-is_some
returns-then-is_some g c =
    let form = g.F.Form.says in
    let all = map line_at c.args.lines.now in
    let rest = map line_at (drop c.loop-sent.sent c.args.lines.now) in
    let out = c.make_room.new.out.sent.items in
    let done = c.make_room.new.done in
    all_gathered form c.args.out.now.asked all rest out done
    (subst (λ a. Gathers form a all rest out done) c.loop-sent.invariant.asked
    (c.in_ok-make_room.ensures.gathers all rest c.loop-sent.invariant.gathers))
    (inr (some_told _ c.if-is_some.ensures))

pub loop-sent-preserved : goal.loop-sent-preserved
loop-sent-preserved g c =
    let form = g.F.Form.says in
    let lines = c.args.lines.now in
    let all = map line_at lines in
    let i = c.loop-sent.sent in
    let n = c.in_ok-sent.field-0 in
    let rest = map line_at (drop i lines) in
    let out = c.make_room.new.out.sent.items in
    let done = c.make_room.new.done in
    let asked = c.send_piece.new.out.asked in
    let h = c.in_ok-sent.ensures.sent in
    let same = sym (c.in_ok-sent.ensures.asked ∙ c.in_ok-make_room.ensures.asked) in
    record {
      gathers = subst (λ l. Gathers form asked all (map line_at (drop (i + n) lines)) l done) (sym h.out)
          (gathers_sent form asked all rest (map line_at (take n (drop i lines)))
          (map line_at (drop (i + n) lines)) out h.sent done (cut_lines lines i n) h.lines
          (h.asked ∙ sym c.in_ok-sent.ensures.asked)
          (subst (λ a. Gathers form a all rest out done) same
          (c.in_ok-make_room.ensures.gathers all rest c.loop-sent.invariant.gathers)));
      asked = c.in_ok-sent.ensures.asked ∙ c.in_ok-make_room.ensures.asked ∙ c.loop-sent.invariant.asked;
      unstopped = none_told _ c.if-is_some.ensures;
      within = c.in_ok-sent.ensures.some.1;
    }

pub returns : goal.returns
returns g c =
    let form = g.F.Form.says in
    let lines = c.args.lines.now in
    let all = map line_at lines in
    let rest = map line_at (drop c.loop-sent.sent lines) in
    let out = c.take_all.new.out.sent.items in
    let done = c.take_all.new.done in
    let none = ap (map line_at) (drop_of_length-le lines c.loop-sent-test.false) in
    all_gathered form c.args.out.now.asked all rest out done
    (subst (λ a. Gathers form a all rest out done) c.loop-sent.invariant.asked
    (c.in_ok-take_all.ensures.gathers all rest c.loop-sent.invariant.gathers))
    (⊎_elim (λ e. inl (ap (λ l. sent_lines l ++ rest) e ∙ none)) (λ e. inr e) c.in_ok-take_all.ensures.all)
