use Rattle.std.proofs.Common.{rules, ◌≡◌, ◌+◌, ◌-◌, ◌*◌, ◌≤◌, false, ◌||◌, ◌++◌, append-nil, drop, refl, sym}
use Rattle.std.proofs.Common.{ap, ◌∙◌, subst, arith}
use Rattle.jp_automaton.specs.declared.expressions.Expression.{the_lemmas}
use Rattle.jp_pattern.proofs.UnrolledLemmas.{letters-counted}
use Rattle.jp_automaton.specs.Expressions.{pattern_in, branches_before, unrolled_in, unrolled_in_turn}
use Rattle.jp_automaton.specs.Expressions.{unrolled_repeat}
use Rattle.jp_pattern.specs.Unrolled.{Unrolled, counted, counted_on, letters, nothing}
use Rattle.jp_automaton.specs.inner.Simulation.{step, is_elem, exits, IsAt, IsStep, IsWalk, or_entered}
use Rattle.jp_automaton.specs.inner.Simulation.{entered_as}
use Rattle.jp_automaton.proofs.KindLemmas.{exact, set_same, known_pieces, known_branches, known_repeat}
use Rattle.jp_automaton.proofs.SizedLemmas.{all_sized-at}
use Rattle.jp_automaton.proofs.WalkLemmas.{piece_next, branch_next, drop_none, nothing_walk, seq_walk}
use Rattle.jp_automaton.proofs.WalkLemmas.{either_walk, or_walk, copy_walk}
use Rattle.jp_automaton.proofs.WalkLemmas.{plus_walk}
use Rattle.jp_automaton.proofs.WalkLemmas.{copies_fit, copy_fits}
use Rattle.jp_automaton.proofs.WalkLemmas.{some_idle, not_entered, skip_copies, total_skipped}
use Rattle.jp_automaton.proofs.CopyLemmas.{counted-letters}
use Rattle.jp_automaton.proofs.OnLemmas.{on_letters, on_walk, on_reads}
use Rattle.jp_automaton.proofs.step.+step.Goals as goal
use Rattle.jp_automaton.proofs.ReadsLemmas.{end_reads, passed_reads, seq_reads, either_reads, copy_reads}
use Rattle.jp_automaton.proofs.ReadsLemmas.{skip_reads}
use Rattle.jp_automaton.proofs.StepLemmas.{exits_again}

-- ---- an expression

pub step-passed-requires-clause-fits : goal.step-passed-requires-clause-fits
step-passed-requires-clause-fits t c =
    let e = exact c.size.result (pattern_in c.args.expression.now) c.size.ensures
    (omega (arith, c.requires.fits)) in
    omega (arith, e, c.requires.fits)

pub step-returns-in-Some : goal.step-returns-in-Some
step-returns-in-Some t c =
    let e = exact c.size.result (pattern_in c.args.expression.now) c.size.ensures
    (omega (arith, c.requires.fits)) in
    record {
      walk = c.in-Some.ensures.passed.walk (unrolled_in c.args.expression.now) (sym e);
      reads = sym (append-nil c.args.out.now.items)
          ∙ ap (λ xs. c.args.out.now.items ++ xs)
          (sym (c.in-Some.ensures.passed.reads (unrolled_in c.args.expression.now) c.args.input.c (sym e)));
    }

pub step-returns-in_ok-step_set-in-Set : goal.step-returns-in_ok-step_set-in-Set
step-returns-in_ok-step_set-in-Set t c =
    subst (λ p. IsStep c.args.input.active.now c.args.input.c p c.args.at c.in_ok-step_set-in-Set.field-0
    c.args.out.now.items c.step_set.new.out.items)
    (set_same c.args.expression.now c.in-Set.set c.in-Set.is) c.in_ok-step_set-in-Set.ensures

pub step-overflow_add-end : goal.step-overflow_add-end
step-overflow_add-end t c =
    let k = known_pieces c.args.expression.now c.in-Pieces.size c.in-Pieces.pieces c.in-Pieces.pieces.items
    c.in-Pieces.is refl c.requires.sized (omega (arith, c.requires.fits)) in
    omega (arith, k.size, ap letters k.same, c.requires.fits)

pub step-step_in_turn-requires : goal.step-step_in_turn-requires
step-step_in_turn-requires t c = (
  search (rules, the_lemmas),
  let k = known_pieces c.args.expression.now c.in-Pieces.size c.in-Pieces.pieces c.deref-in-Pieces.result.now
      c.in-Pieces.is c.deref-in-Pieces.ensures.value c.requires.sized (omega (arith, c.requires.fits)) in (
        k.sized,
        (
          ap (λ n. c.args.at.past + n) k.size,
          (omega (arith, k.size, ap letters k.same, c.requires.fits), c.requires.stands),
        ),
      ),
)

pub step-step_before-requires : goal.step-step_before-requires
step-step_before-requires t c = (
  search (rules, the_lemmas),
  let k = known_branches c.args.expression.now c.in-Branches.size c.in-Branches.before c.in-Branches.last
      c.deref-in-Branches.result.now c.in-Branches.last.value c.in-Branches.is
      c.deref-in-Branches.ensures.value refl c.requires.sized in
      (k.all_sized, (omega (arith, k.size, c.requires.fits), c.requires.stands)),
)

pub step-step-requires-in-Branches : goal.step-step-requires-in-Branches
step-step-requires-in-Branches t c = (
  search (rules, the_lemmas),
  let k = known_branches c.args.expression.now c.in-Branches.size c.in-Branches.before c.in-Branches.last
      c.deref-in-Branches.result.now c.deref-in-Branches-2.result.now c.in-Branches.is
      c.deref-in-Branches.ensures.value c.deref-in-Branches-2.ensures c.requires.sized in
      let e = ap (λ r. r.past) c.with_entered.ensures in (
        k.sized,
        (
          omega (arith, k.size, c.requires.fits, c.in_ok-others-in-Branches.ensures.walk.past, e),
          subst (λ r. IsAt c.args.input.active.now r.past r.index) (sym c.with_entered.ensures)
              c.in_ok-others-in-Branches.ensures.walk.stands,
        ),
      ),
)

pub step-returns-in_ok-behind-in-Branches : goal.step-returns-in_ok-behind-in-Branches
step-returns-in_ok-behind-in-Branches t c =
    let active = c.args.input.active.now in
    let k = known_branches c.args.expression.now c.in-Branches.size c.in-Branches.before c.in-Branches.last
    c.deref-in-Branches.result.now c.deref-in-Branches-2.result.now c.in-Branches.is
    c.deref-in-Branches.ensures.value c.deref-in-Branches-2.ensures c.requires.sized in
    let last = unrolled_in c.deref-in-Branches-2.result.now in
    let others = c.in_ok-others-in-Branches in
    let y = c.in_ok-behind-in-Branches.behind in
    let mid = c.step_before.new.out.items in
    let fin = c.step-in-Branches.new.out.items in
    let s : IsStep active c.args.input.c last (entered_as c.args.at.entered others.others) y mid fin =
    subst (λ r. IsStep active c.args.input.c last r y mid fin) c.with_entered.ensures
    c.in_ok-behind-in-Branches.ensures in
    let is : c.with_entered-in-Branches.result ≡ or_entered others.others.entered y =
    c.with_entered-in-Branches.ensures ∙ ap (λ b. entered_as b y) c.either.ensures in
    let all = branches_before c.deref-in-Branches.result.now last in
    subst (λ p. IsStep active c.args.input.c p c.args.at c.with_entered-in-Branches.result
    c.args.out.now.items fin)
    k.same (record {
      walk = subst (λ r. IsWalk active all c.args.at r) (sym is) (others.ensures.walk.leads last y s.walk);
      reads = s.reads ∙ others.ensures.reads last;
    })

pub step-step_repeated-requires : goal.step-step_repeated-requires
step-step_repeated-requires t c = (
  search (rules, the_lemmas),
  let k = known_repeat c.args.expression.now c.in-Repeat.size c.in-Repeat.least c.in-Repeat.most
      c.in-Repeat.atom
      c.deref-in-Repeat.result.now c.size.result c.in-Repeat.is c.deref-in-Repeat.ensures c.requires.sized
      c.size.ensures c.in_default.ensures.entered in
      (k.sized, (k.some, (omega (arith, ap letters k.same, c.requires.fits), c.requires.stands))),
)

-- ---- pieces

pub step_in_turn-step-requires : goal.step_in_turn-step-requires
step_in_turn-step-requires t c = (
  search (rules, the_lemmas),
  let kept = c.loop-piece.invariant in
      let next = ap letters (piece_next c.args.pieces.now c.loop-piece.piece-index c.piece-item.result
      c.loop-piece-test.true c.piece-item.is) in (
        all_sized-at c.args.pieces.now c.loop-piece.piece-index c.piece-item.result c.loop-piece-test.true
            c.piece-item.is c.requires.sized,
        (omega (arith, next, kept.1, c.requires.fits), kept.2),
      ),
)

pub step_in_turn-loop-piece-preserved : goal.step_in_turn-loop-piece-preserved
step_in_turn-loop-piece-preserved t c =
    let active = c.args.input.active.now in
    let kept = c.loop-piece.invariant in
    let next = piece_next c.args.pieces.now c.loop-piece.piece-index c.piece-item.result
    c.loop-piece-test.true c.piece-item.is in
    let a = unrolled_in c.piece-item.result in
    let rest = unrolled_in_turn (drop (c.loop-piece.piece-index + 1) c.args.pieces.now) in
    let x = c.loop-piece.here in
    let y = c.in_ok-here.here in
    let o = c.loop-piece.out.items in
    let stepped = c.in_ok-here.ensures in (
      λ r w. kept.0 r (subst (λ p. IsWalk active p x r) (sym next)
          (seq_walk active a rest x y r stepped.walk w)),
      omega (arith, ap letters next, kept.1, stepped.walk.past),
      stepped.walk.stands,
      seq_reads active c.args.input.c _ a x y o c.step.new.out.items stepped rest
          (ap (λ p. o ++ step (is_elem active) c.args.input.c p x.past x.entered) (sym next) ∙ kept.3),
    )

pub step_in_turn-returns : goal.step_in_turn-returns
step_in_turn-returns t c =
    let active = c.args.input.active.now in
    let kept = c.loop-piece.invariant in
    let here = c.loop-piece.here in
    let none = drop_none c.args.pieces.now c.loop-piece.piece-index c.loop-piece-test.false in
    let w = subst (λ xs. IsWalk active (unrolled_in_turn xs) here here) (sym none)
    (nothing_walk active here kept.2) in
    record {
      walk = kept.0 here w;
      reads = end_reads active c.args.input.c _ c.loop-piece.out.items
          (ap (λ xs. c.loop-piece.out.items ++ step (is_elem active) c.args.input.c
          (unrolled_in_turn xs) here.past
          here.entered) (sym none) ∙ kept.3);
    }

pub step_in_turn-returns-in-Some : goal.step_in_turn-returns-in-Some
step_in_turn-returns-in-Some t c =
    let kept = c.loop-piece.invariant in
    let rest = unrolled_in_turn (drop c.loop-piece.piece-index c.args.pieces.now) in
    let size : letters rest ≡ c.args.end - c.loop-piece.here.past = omega (arith, kept.1) in
    record {
      walk = kept.0 c.in-Some.behind (c.in-Some.ensures.passed.walk rest size);
      reads = passed_reads c.args.input.active.now c.args.input.c _ c.loop-piece.out.items _ kept.3
          (c.in-Some.ensures.passed.reads rest c.args.input.c size);
    }

-- ---- branches

pub step_before-step-requires : goal.step_before-step-requires
step_before-step-requires t c = (
  search (rules, the_lemmas),
  let kept = c.loop-branch.invariant in
      let next = ap letters (branch_next c.args.branches.now nothing c.loop-branch.branch-index
      c.branch-item.result c.loop-branch-test.true c.branch-item.is) in
      let e = ap (λ r. r.past) c.with_entered.ensures in (
        all_sized-at c.args.branches.now c.loop-branch.branch-index c.branch-item.result
            c.loop-branch-test.true c.branch-item.is c.requires.sized,
        (
          omega (arith, next, kept.1, c.requires.fits, e),
          subst (λ r. IsAt c.args.input.active.now r.past r.index) (sym c.with_entered.ensures) kept.2,
        ),
      ),
)

pub step_before-loop-branch-preserved : goal.step_before-loop-branch-preserved
step_before-loop-branch-preserved t c =
    let active = c.args.input.active.now in
    let kept = c.loop-branch.invariant in
    let i = c.loop-branch.branch-index in
    let next = λ (q : Unrolled). branch_next c.args.branches.now q i c.branch-item.result
    c.loop-branch-test.true c.branch-item.is in
    let a = unrolled_in c.branch-item.result in
    let others = c.loop-branch.others in
    let y = c.in_ok-behind.behind in
    let o = c.loop-branch.out.items in
    let n = c.step.new.out.items in
    let from = entered_as c.args.at.entered others in
    let stepped : IsStep active c.args.input.c a from y o n = subst
    (λ r. IsStep active c.args.input.c a r y o n)
    c.with_entered.ensures c.in_ok-behind.ensures in
    let w = stepped.walk in
    let is : c.with_entered-others-in-loop-branch.result ≡ entered_as (others.entered || y.entered) y =
    c.with_entered-others-in-loop-branch.ensures ∙ ap (λ b. entered_as b y) c.either.ensures in (
      λ q r v.
          let v2 = subst (λ x. IsWalk active (branches_before (drop (i + 1) c.args.branches.now) q)
          (entered_as c.args.at.entered x) r) is v in
          let both = subst (λ p. IsWalk active p from (or_entered y.entered r)) (sym (next q))
          (either_walk active a (branches_before (drop (i + 1) c.args.branches.now) q) from y r w v2) in
          subst (λ x. IsWalk active (branches_before c.args.branches.now q) c.args.at
          (or_entered x.entered r))
          (sym is)
          (or_walk active (branches_before c.args.branches.now q) others.entered y.entered c.args.at r
          (kept.0 q (or_entered y.entered r) both)),
      omega (arith, ap letters (next nothing), kept.1, w.past, ap (λ r. r.past) is),
      subst (λ r. IsAt active r.past r.index) (sym is) w.stands,
      λ q.
          let rest = branches_before (drop (i + 1) c.args.branches.now) q in
          ap (λ r. n ++ step (is_elem active) c.args.input.c rest r.past c.args.at.entered) is
          ∙ either_reads active c.args.input.c _ a from y o n stepped rest
          (ap (λ p. o ++ step (is_elem active) c.args.input.c p others.past c.args.at.entered) (sym (next q))
          ∙ kept.3 q),
    )

pub step_before-returns : goal.step_before-returns
step_before-returns t c =
    let kept = c.loop-branch.invariant in
    let none = drop_none c.args.branches.now c.loop-branch.branch-index c.loop-branch-test.false in
    record {
      walk = record {
        past = omega (arith, kept.1, ap (λ xs. letters (branches_before xs nothing)) none);
        stands = kept.2;
        leads = λ q r w. kept.0 q r
            (subst (λ xs. IsWalk c.args.input.active.now (branches_before xs q)
            (entered_as c.args.at.entered c.loop-branch.others) r) (sym none) w);
      };
      reads = λ q. ap (λ xs. c.loop-branch.out.items ++ step (is_elem c.args.input.active.now) c.args.input.c
          (branches_before xs q) c.loop-branch.others.past c.args.at.entered) (sym none) ∙ kept.3 q;
    }

-- ---- copies

pub step_counted-idle_copies-idle-requires-clause-some
    : goal.step_counted-idle_copies-idle-requires-clause-some
step_counted-idle_copies-idle-requires-clause-some t c =
    let kept = c.loop-i.invariant in
    let a = unrolled_in c.args.atom.now in
    let fits = copy_fits a c.args.copies.least c.args.copies.most c.loop-i.i c.loop-i.here.past c.args.at.past
    c.loop-i-test.true kept.1 c.requires.fits in
    let e = exact c.size-size.result (pattern_in c.args.atom.now) c.size-size.ensures (omega (arith, fits)) in
    omega (arith, e, c.requires.some)

pub step_counted-idle_copies-idle-requires-clause-fits
    : goal.step_counted-idle_copies-idle-requires-clause-fits
step_counted-idle_copies-idle-requires-clause-fits t c =
    let kept = c.loop-i.invariant in
    let a = unrolled_in c.args.atom.now in
    let fits = copy_fits a c.args.copies.least c.args.copies.most c.loop-i.i c.loop-i.here.past c.args.at.past
    c.loop-i-test.true kept.1 c.requires.fits in
    let e = exact c.size-size.result (pattern_in c.args.atom.now) c.size-size.ensures (omega (arith, fits)) in
    subst (λ s. c.loop-i.here.past + (c.args.copies.most - c.loop-i.i) * s ≤ 10_000) (sym e)
    (copies_fit a c.args.copies.least c.args.copies.most c.loop-i.i c.loop-i.here.past c.args.at.past
    c.loop-i-test.true
    kept.1 c.requires.fits)

pub step_counted-overflow_mul-here : goal.step_counted-overflow_mul-here
step_counted-overflow_mul-here t c =
    let kept = c.loop-i.invariant in
    let a = unrolled_in c.args.atom.now in
    let fits = copy_fits a c.args.copies.least c.args.copies.most c.loop-i.i c.loop-i.here.past c.args.at.past
    c.loop-i-test.true kept.1 c.requires.fits in
    let e = exact c.size-size.result (pattern_in c.args.atom.now) c.size-size.ensures (omega (arith, fits)) in
    let all = subst (λ s. c.loop-i.here.past + (c.args.copies.most - c.loop-i.i) * s ≤ 10_000) (sym e)
    (copies_fit a c.args.copies.least c.args.copies.most c.loop-i.i c.loop-i.here.past c.args.at.past
    c.loop-i-test.true
    kept.1 c.requires.fits) in
    let h = some_idle c.loop-i.here.past c.idle_copies-idle.result (c.args.copies.most - c.loop-i.i)
    c.size-size.result c.idle_copies-idle.ensures.few all in
    omega (arith, h)

pub step_counted-overflow_add-here : goal.step_counted-overflow_add-here
step_counted-overflow_add-here t c =
    let kept = c.loop-i.invariant in
    let a = unrolled_in c.args.atom.now in
    let fits = copy_fits a c.args.copies.least c.args.copies.most c.loop-i.i c.loop-i.here.past c.args.at.past
    c.loop-i-test.true kept.1 c.requires.fits in
    let e = exact c.size-size.result (pattern_in c.args.atom.now) c.size-size.ensures (omega (arith, fits)) in
    let all = subst (λ s. c.loop-i.here.past + (c.args.copies.most - c.loop-i.i) * s ≤ 10_000) (sym e)
    (copies_fit a c.args.copies.least c.args.copies.most c.loop-i.i c.loop-i.here.past c.args.at.past
    c.loop-i-test.true
    kept.1 c.requires.fits) in
    let h = some_idle c.loop-i.here.past c.idle_copies-idle.result (c.args.copies.most - c.loop-i.i)
    c.size-size.result c.idle_copies-idle.ensures.few all in
    omega (arith, h)

pub step_counted-loop-i-preserved-then-idle-gt0 : goal.step_counted-loop-i-preserved-then-idle-gt0
step_counted-loop-i-preserved-then-idle-gt0 t c =
    let active = c.args.input.active.now in
    let kept = c.loop-i.invariant in
    let a = unrolled_in c.args.atom.now in
    let fits = copy_fits a c.args.copies.least c.args.copies.most c.loop-i.i c.loop-i.here.past c.args.at.past
    c.loop-i-test.true kept.1 c.requires.fits in
    let e = exact c.size-size.result (pattern_in c.args.atom.now) c.size-size.ensures (omega (arith, fits)) in
    let n = c.idle_copies-idle.result in
    let none = not_entered c.loop-i.here.entered n c.idle_copies-idle.ensures.not_entered c.if-idle-gt0.true
    in (
      λ r w. kept.0 r (skip_copies active a c.loop-i.i n c.size-size.result c.args.copies.least
          c.loop-i.here r e none
          c.idle_copies-idle.ensures.inactive c.args.copies.most c.idle_copies-idle.ensures.few w),
      total_skipped a c.args.copies.least c.args.copies.most c.loop-i.i n c.size-size.result
          c.loop-i.here.past _ e
          c.idle_copies-idle.ensures.few kept.1,
      c.idle_copies-idle.ensures.stands,
      omega (arith, c.idle_copies-idle.ensures.few, c.loop-i-test.true),
      skip_reads active c.args.input.c _ a c.loop-i.i n c.size-size.result c.args.copies.least c.loop-i.here
          c.loop-i.out.items e none c.idle_copies-idle.ensures.inactive c.args.copies.most
          c.idle_copies-idle.ensures.few
          kept.4,
    )

pub step_counted-step-requires : goal.step_counted-step-requires
step_counted-step-requires t c = (
  search (rules, the_lemmas),
  let kept = c.loop-i.invariant in (
    c.requires.sized,
    (
      copy_fits (unrolled_in c.args.atom.now) c.args.copies.least c.args.copies.most c.loop-i.i
          c.loop-i.here.past c.args.at.past c.loop-i-test.true kept.1 c.requires.fits,
      kept.2,
    ),
  ),
)

pub step_counted-loop-i-preserved : goal.step_counted-loop-i-preserved
step_counted-loop-i-preserved t c =
    let active = c.args.input.active.now in
    let kept = c.loop-i.invariant in
    let a = unrolled_in c.args.atom.now in
    let all = counted c.args.copies.least c.args.copies.most a in
    let y = c.in_ok-here.here in
    let more = sym (c.either-left.ensures ∙ ap (λ s. c.loop-i.left || s) c.may_stop-stop.ensures) in (
      λ r w. subst (λ b. IsWalk active all c.args.at (or_entered b r)) more
          (or_walk active all c.loop-i.left _ c.args.at r
          (kept.0 (or_entered _ r) (copy_walk active a c.args.copies.least c.loop-i.i c.loop-i.here y r
          c.in_ok-here.ensures.walk c.args.copies.most c.loop-i-test.true w))),
      omega (
        arith,
        kept.1,
        counted-letters a c.args.copies.least c.loop-i.i c.args.copies.most c.loop-i-test.true,
        c.in_ok-here.ensures.walk.past,
      ),
      c.in_ok-here.ensures.walk.stands,
      omega (arith, c.loop-i-test.true),
      copy_reads active c.args.input.c _ a c.loop-i.here y c.loop-i.out.items c.step.new.out.items
          c.in_ok-here.ensures c.args.copies.least c.loop-i.i c.args.copies.most c.loop-i-test.true kept.4,
    )

pub step_counted-returns : goal.step_counted-returns
step_counted-returns t c =
    let active = c.args.input.active.now in
    let kept = c.loop-i.invariant in
    let here = c.loop-i.here in
    let none : c.args.copies.most - c.loop-i.i ≡ 0 = omega (arith, c.loop-i-test.false) in
    let w : IsWalk active (counted (c.args.copies.least - c.loop-i.i) (c.args.copies.most - c.loop-i.i)
    (unrolled_in c.args.atom.now)) here here =
    subst (λ n. IsWalk active (counted (c.args.copies.least - c.loop-i.i) n
    (unrolled_in c.args.atom.now)) here here)
    (sym none) (nothing_walk active here kept.2) in
    let is : c.with_entered.result ≡ or_entered c.loop-i.left here = c.with_entered.ensures
    ∙ ap (λ b. entered_as b here) c.either.ensures in
    record {
      walk = subst (λ r. IsWalk active (counted c.args.copies.least c.args.copies.most
          (unrolled_in c.args.atom.now))
          c.args.at r) (sym is) (kept.0 here w);
      reads = end_reads active c.args.input.c _ c.loop-i.out.items
          (ap (λ n. c.loop-i.out.items ++ step (is_elem active) c.args.input.c
          (counted (c.args.copies.least - c.loop-i.i) n (unrolled_in c.args.atom.now)) here.past here.entered)
          (sym none) ∙ kept.4);
    }

pub step_counted_on-step_counted-requires : goal.step_counted_on-step_counted-requires
step_counted_on-step_counted-requires t c = (
  search (rules, the_lemmas),
  let e = on_letters c.args.least (unrolled_in c.args.atom.now) in (
    c.requires.sized,
    (c.requires.some, (omega (arith, e, c.requires.fits), c.requires.stands)),
  ),
)

pub step_counted_on-step_plus-requires : goal.step_counted_on-step_plus-requires
step_counted_on-step_plus-requires t c = (
  search (rules, the_lemmas),
  let e = on_letters c.args.least (unrolled_in c.args.atom.now) in (
    c.requires.sized,
    (
      omega (arith, e, c.in_ok-here.ensures.walk.past, c.requires.fits),
      c.in_ok-here.ensures.walk.stands,
    ),
  ),
)

pub step_counted_on-returns : goal.step_counted_on-returns
step_counted_on-returns t c =
    let active = c.args.input.active.now in
    let a = unrolled_in c.args.atom.now in
    let at = c.args.at in
    let least = c.args.least in
    let here = c.in_ok-here.here in
    let behind = c.in_ok-behind.behind in
    let is : c.with_entered.result ≡ or_entered here.entered behind = c.with_entered.ensures
    ∙ ap (λ b. entered_as b behind) c.either.ensures in
    record {
      walk = subst (λ r. IsWalk active (counted_on least a) at r) (sym is)
          (on_walk active least a at here behind c.in_ok-here.ensures.walk
          (plus_walk active a here behind c.in_ok-behind.ensures.walk));
      reads = on_reads active c.args.input.c least a at here behind _ _ _ c.in_ok-here.ensures
          c.in_ok-behind.ensures;
    }

pub step_plus-step-requires : goal.step_plus-step-requires
step_plus-step-requires t c = (
  search (rules, the_lemmas),
  (
    c.requires.sized,
    (
      omega (arith, c.requires.fits, ap (λ r. r.past) c.with_entered-from.ensures),
      subst (λ r. IsAt c.args.input.active.now r.past r.index)
          (sym c.with_entered-from.ensures) c.requires.stands,
    ),
  ),
)

pub step_plus-returns : goal.step_plus-returns
step_plus-returns t c =
    let active = c.args.input.active.now in
    let a = unrolled_in c.args.atom.now in
    let y = c.in_ok-step.field-0 in
    let is : c.with_entered-from.result
    ≡ entered_as (c.args.at.entered || exits (is_elem active) a c.args.at.past false) c.args.at =
    c.with_entered-from.ensures ∙ ap (λ b. entered_as b c.args.at) c.is_entered_again.ensures in
    let s = subst (λ r. IsStep active c.args.input.c a r y c.args.out.now.items c.step.new.out.items) is
    c.in_ok-step.ensures in
    record {
      walk = record {
        past = s.walk.past;
        entered = s.walk.entered ∙ exits_again (is_elem active) a c.args.at.past c.args.at.entered;
        stands = s.walk.stands;
      };
      reads = s.reads;
    }

pub step_repeated-step_set_copies-requires-clause-fits
    : goal.step_repeated-step_set_copies-requires-clause-fits
step_repeated-step_set_copies-requires-clause-fits t c =
    let a = unrolled_in c.args.atom.now in
    let m = c.in-Some.most in
    let e : letters (unrolled_repeat c.args.least c.args.most c.args.atom.now)
    ≡ letters (counted c.args.least m a) =
    ap (λ o. letters (unrolled_repeat c.args.least o c.args.atom.now)) c.in-Some.is in
    let one : letters a ≡ 1 = ap letters (sym (set_same c.args.atom.now c.in-Set.set c.in-Set.is)) in
    let f : letters (counted c.args.least m a) ≡ m * 1 = letters-counted a c.args.least m
    ∙ ap (λ n. m * n) one in
    omega (arith, e, f, c.requires.fits)

pub step_repeated-step_counted-requires : goal.step_repeated-step_counted-requires
step_repeated-step_counted-requires t c = search rules
