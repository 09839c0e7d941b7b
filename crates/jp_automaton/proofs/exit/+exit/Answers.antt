use Rattle.std.proofs.Common.{rules, ◌≡◌, ◌+◌, ◌-◌, ◌*◌, ◌≤◌, ◌||◌, drop, refl, sym, ap, ◌∙◌, subst, arith}
use Rattle.std.proofs.lemmas.Grind.{common_steps}
use Rattle.jp_automaton.specs.declared.expressions.Expression.{the_lemmas}
use Rattle.jp_automaton.specs.Letters.{letters_of}
use Rattle.jp_automaton.specs.Expressions.{pattern_in, branches_before, unrolled_in, unrolled_in_turn}
use Rattle.jp_pattern.specs.Unrolled.{Unrolled, counted, counted_on, letters, nothing}
use Rattle.jp_automaton.specs.inner.Simulation.{IsAt, IsWalk, or_entered, entered_as}
use Rattle.jp_automaton.proofs.KindLemmas.{exact, set_same, known_pieces, known_branches, known_repeat}
use Rattle.jp_automaton.proofs.SizedLemmas.{all_sized-at}
use Rattle.jp_automaton.proofs.WalkLemmas.{piece_next, branch_next, drop_none, nothing_walk, seq_walk}
use Rattle.jp_automaton.proofs.WalkLemmas.{either_walk, or_walk, copy_walk}
use Rattle.jp_automaton.proofs.WalkLemmas.{copies_fit}
use Rattle.jp_automaton.proofs.WalkLemmas.{copy_fits, some_idle}
use Rattle.jp_automaton.proofs.WalkLemmas.{not_entered, skip_copies, total_skipped}
use Rattle.jp_automaton.proofs.CopyLemmas.{counted-letters}
use Rattle.jp_automaton.proofs.OnLemmas.{on_letters, on_walk}
use Rattle.jp_automaton.proofs.exit.+exit.Goals as goal

-- ---- an expression

pub exit-passed-requires-clause-fits : goal.exit-passed-requires-clause-fits
exit-passed-requires-clause-fits t c =
    let e = exact c.size.result (pattern_in c.args.expression.now) c.size.ensures
    (omega (arith, c.requires.fits)) in
    omega (arith, e, c.requires.fits)

pub exit-returns-in-Some : goal.exit-returns-in-Some
exit-returns-in-Some t c =
    let e = exact c.size.result (pattern_in c.args.expression.now) c.size.ensures
    (omega (arith, c.requires.fits)) in
    c.in-Some.ensures.passed.walk (unrolled_in c.args.expression.now) (sym e)

pub exit-returns-in-Set : goal.exit-returns-in-Set
exit-returns-in-Set t c =
    subst (λ p. IsWalk c.args.active.now p c.args.at c.behind_set.result)
    (set_same c.args.expression.now c.in-Set.field-0 c.in-Set.is)
    (c.behind_set.ensures (letters_of c.in-Set.field-0))

pub exit-overflow_add-at : goal.exit-overflow_add-at
exit-overflow_add-at t c =
    let k = known_pieces c.args.expression.now c.in-Pieces.size c.in-Pieces.pieces c.in-Pieces.pieces.items
    c.in-Pieces.is refl c.requires.sized (omega (arith, c.requires.fits)) in
    omega (arith, k.size, ap letters k.same, c.requires.fits)

pub exit-exit_in_turn-requires : goal.exit-exit_in_turn-requires
exit-exit_in_turn-requires t c = (
  search (rules, the_lemmas),
  let k = known_pieces c.args.expression.now c.in-Pieces.size c.in-Pieces.pieces c.deref-in-Pieces.result.now
      c.in-Pieces.is c.deref-in-Pieces.ensures.value c.requires.sized (omega (arith, c.requires.fits)) in (
        k.sized,
        (
          ap (λ n. c.args.at.past + n) k.size,
          (omega (arith, k.size, ap letters k.same, c.requires.fits), c.requires.stands),
        ),
      ),
)

pub exit-exit_before-others-requires : goal.exit-exit_before-others-requires
exit-exit_before-others-requires t c = (
  search (rules, the_lemmas),
  let k = known_branches c.args.expression.now c.in-Branches.size c.in-Branches.before c.in-Branches.last
      c.deref-in-Branches.result.now c.in-Branches.last.value c.in-Branches.is
      c.deref-in-Branches.ensures.value refl c.requires.sized in
      (k.all_sized, (omega (arith, k.size, c.requires.fits), c.requires.stands)),
)

pub exit-exit-behind-requires : goal.exit-exit-behind-requires
exit-exit-behind-requires t c = (
  search (rules, the_lemmas),
  let k = known_branches c.args.expression.now c.in-Branches.size c.in-Branches.before c.in-Branches.last
      c.deref-in-Branches.result.now c.deref-in-Branches-2.result.now c.in-Branches.is
      c.deref-in-Branches.ensures.value c.deref-in-Branches-2.ensures c.requires.sized in
      let e = ap (λ r. r.past) c.with_entered.ensures in (
        k.sized,
        (
          omega (arith, k.size, c.requires.fits, c.exit_before-others.ensures.past, e),
          subst (λ r. IsAt c.args.active.now r.past r.index) (sym c.with_entered.ensures)
              c.exit_before-others.ensures.stands,
        ),
      ),
)

pub exit-returns-in-Branches : goal.exit-returns-in-Branches
exit-returns-in-Branches t c =
    let active = c.args.active.now in
    let k = known_branches c.args.expression.now c.in-Branches.size c.in-Branches.before c.in-Branches.last
    c.deref-in-Branches.result.now c.deref-in-Branches-2.result.now c.in-Branches.is
    c.deref-in-Branches.ensures.value c.deref-in-Branches-2.ensures c.requires.sized in
    let last = unrolled_in c.deref-in-Branches-2.result.now in
    let w = subst (λ r. IsWalk active last r c.exit-behind.result) c.with_entered.ensures
    c.exit-behind.ensures in
    let is : c.with_entered-in-Branches.result ≡ or_entered c.exit_before-others.result.entered
    c.exit-behind.result =
    c.with_entered-in-Branches.ensures ∙ ap (λ b. entered_as b c.exit-behind.result) c.either.ensures in
    subst (λ p. IsWalk active p c.args.at c.with_entered-in-Branches.result) k.same
    (subst (λ r. IsWalk active (branches_before c.deref-in-Branches.result.now last) c.args.at r) (sym is)
    (c.exit_before-others.ensures.leads last c.exit-behind.result w))

pub exit-exit_repeated-requires : goal.exit-exit_repeated-requires
exit-exit_repeated-requires t c = (
  search (rules, the_lemmas),
  let k = known_repeat c.args.expression.now c.in-Repeat.size c.in-Repeat.least c.in-Repeat.most
      c.in-Repeat.atom
      c.deref-in-Repeat.result.now c.size.result c.in-Repeat.is c.deref-in-Repeat.ensures c.requires.sized
      c.size.ensures c.in_default.ensures.entered in
      (k.sized, (k.some, (omega (arith, ap letters k.same, c.requires.fits), c.requires.stands))),
)

-- ---- pieces

pub exit_in_turn-exit-here-requires : goal.exit_in_turn-exit-here-requires
exit_in_turn-exit-here-requires t c = (
  search (rules, the_lemmas),
  let kept = c.loop-piece.invariant in
      let next = ap letters (piece_next c.args.pieces.now c.loop-piece.piece-index c.piece-item.result
      c.loop-piece-test.true c.piece-item.is) in (
        all_sized-at c.args.pieces.now c.loop-piece.piece-index c.piece-item.result c.loop-piece-test.true
            c.piece-item.is c.requires.sized,
        (omega (arith, next, kept.1, c.requires.fits), kept.2),
      ),
)

pub exit_in_turn-loop-piece-preserved : goal.exit_in_turn-loop-piece-preserved
exit_in_turn-loop-piece-preserved t c =
    let active = c.args.active.now in
    let kept = c.loop-piece.invariant in
    let next = piece_next c.args.pieces.now c.loop-piece.piece-index c.piece-item.result
    c.loop-piece-test.true c.piece-item.is in
    let a = unrolled_in c.piece-item.result in
    let rest = unrolled_in_turn (drop (c.loop-piece.piece-index + 1) c.args.pieces.now) in (
      λ r w. kept.0 r (subst (λ p. IsWalk active p c.loop-piece.here r) (sym next)
          (seq_walk active a rest c.loop-piece.here c.exit-here.result r c.exit-here.ensures w)),
      omega (arith, ap letters next, kept.1, c.exit-here.ensures.past),
      c.exit-here.ensures.stands,
    )

-- ---- branches

pub exit_before-exit-behind-requires : goal.exit_before-exit-behind-requires
exit_before-exit-behind-requires t c = (
  search (rules, the_lemmas),
  let kept = c.loop-branch.invariant in
      let next = ap letters (branch_next c.args.branches.now nothing c.loop-branch.branch-index
      c.branch-item.result c.loop-branch-test.true c.branch-item.is) in
      let e = ap (λ r. r.past) c.with_entered.ensures in (
        all_sized-at c.args.branches.now c.loop-branch.branch-index c.branch-item.result
            c.loop-branch-test.true c.branch-item.is c.requires.sized,
        (
          omega (arith, next, kept.1, c.requires.fits, e),
          subst (λ r. IsAt c.args.active.now r.past r.index) (sym c.with_entered.ensures) kept.2,
        ),
      ),
)

pub exit_before-loop-branch-preserved : goal.exit_before-loop-branch-preserved
exit_before-loop-branch-preserved t c =
    let active = c.args.active.now in
    let kept = c.loop-branch.invariant in
    let i = c.loop-branch.branch-index in
    let next = λ (q : Unrolled). branch_next c.args.branches.now q i c.branch-item.result
    c.loop-branch-test.true c.branch-item.is in
    let a = unrolled_in c.branch-item.result in
    let others = c.loop-branch.others in
    let y = c.exit-behind.result in
    let from = entered_as c.args.at.entered others in
    let w : IsWalk active a from y = subst (λ r. IsWalk active a r y) c.with_entered.ensures
    c.exit-behind.ensures in
    let is : c.with_entered-others-in-loop-branch.result ≡ entered_as (others.entered || y.entered) y =
    c.with_entered-others-in-loop-branch.ensures ∙ ap (λ b. entered_as b y) c.either.ensures in (
      λ q r v.
          let v2 = subst (λ x. IsWalk active (branches_before (drop (i + 1) c.args.branches.now) q)
          (entered_as c.args.at.entered x) r) is v in
          let both = subst (λ p. IsWalk active p from (or_entered y.entered r)) (sym (next q))
          (either_walk active a (branches_before (drop (i + 1) c.args.branches.now) q) from y r w v2) in
          subst (λ x. IsWalk active (branches_before c.args.branches.now q) c.args.at
          (or_entered x.entered r))
          (sym is)
          (or_walk active (branches_before c.args.branches.now q) others.entered y.entered c.args.at r
          (kept.0 q (or_entered y.entered r) both)),
      omega (arith, ap letters (next nothing), kept.1, w.past, ap (λ r. r.past) is),
      subst (λ r. IsAt active r.past r.index) (sym is) w.stands,
    )

pub exit_before-returns : goal.exit_before-returns
exit_before-returns t c =
    let kept = c.loop-branch.invariant in
    let none = drop_none c.args.branches.now c.loop-branch.branch-index c.loop-branch-test.false in
    record {
      past = omega (arith, kept.1, ap (λ xs. letters (branches_before xs nothing)) none);
      stands = kept.2;
      leads = λ q r w. kept.0 q r
          (subst (λ xs. IsWalk c.args.active.now (branches_before xs q)
          (entered_as c.args.at.entered c.loop-branch.others) r) (sym none) w);
    }

-- ---- copies

pub exit_counted-idle_copies-idle-requires-clause-some
    : goal.exit_counted-idle_copies-idle-requires-clause-some
exit_counted-idle_copies-idle-requires-clause-some t c =
    let kept = c.loop-i.invariant in
    let a = unrolled_in c.args.atom.now in
    let fits = copy_fits a c.args.least c.args.most c.loop-i.i c.loop-i.here.past c.args.at.past
    c.loop-i-test.true kept.1 c.requires.fits in
    let e = exact c.size-size.result (pattern_in c.args.atom.now) c.size-size.ensures (omega (arith, fits)) in
    omega (arith, e, c.requires.some)

pub exit_counted-idle_copies-idle-requires-clause-fits
    : goal.exit_counted-idle_copies-idle-requires-clause-fits
exit_counted-idle_copies-idle-requires-clause-fits t c =
    let kept = c.loop-i.invariant in
    let a = unrolled_in c.args.atom.now in
    let fits = copy_fits a c.args.least c.args.most c.loop-i.i c.loop-i.here.past c.args.at.past
    c.loop-i-test.true kept.1 c.requires.fits in
    let e = exact c.size-size.result (pattern_in c.args.atom.now) c.size-size.ensures (omega (arith, fits)) in
    subst (λ s. c.loop-i.here.past + (c.args.most - c.loop-i.i) * s ≤ 10_000) (sym e)
    (copies_fit a c.args.least c.args.most c.loop-i.i c.loop-i.here.past c.args.at.past c.loop-i-test.true
    kept.1 c.requires.fits)

pub exit_counted-overflow_mul-here : goal.exit_counted-overflow_mul-here
exit_counted-overflow_mul-here t c =
    let kept = c.loop-i.invariant in
    let a = unrolled_in c.args.atom.now in
    let fits = copy_fits a c.args.least c.args.most c.loop-i.i c.loop-i.here.past c.args.at.past
    c.loop-i-test.true kept.1 c.requires.fits in
    let e = exact c.size-size.result (pattern_in c.args.atom.now) c.size-size.ensures (omega (arith, fits)) in
    let all = subst (λ s. c.loop-i.here.past + (c.args.most - c.loop-i.i) * s ≤ 10_000) (sym e)
    (copies_fit a c.args.least c.args.most c.loop-i.i c.loop-i.here.past c.args.at.past c.loop-i-test.true
    kept.1 c.requires.fits) in
    let h = some_idle c.loop-i.here.past c.idle_copies-idle.result (c.args.most - c.loop-i.i)
    c.size-size.result c.idle_copies-idle.ensures.few all in
    omega (arith, h)

pub exit_counted-overflow_add-here : goal.exit_counted-overflow_add-here
exit_counted-overflow_add-here t c =
    let kept = c.loop-i.invariant in
    let a = unrolled_in c.args.atom.now in
    let fits = copy_fits a c.args.least c.args.most c.loop-i.i c.loop-i.here.past c.args.at.past
    c.loop-i-test.true kept.1 c.requires.fits in
    let e = exact c.size-size.result (pattern_in c.args.atom.now) c.size-size.ensures (omega (arith, fits)) in
    let all = subst (λ s. c.loop-i.here.past + (c.args.most - c.loop-i.i) * s ≤ 10_000) (sym e)
    (copies_fit a c.args.least c.args.most c.loop-i.i c.loop-i.here.past c.args.at.past c.loop-i-test.true
    kept.1 c.requires.fits) in
    let h = some_idle c.loop-i.here.past c.idle_copies-idle.result (c.args.most - c.loop-i.i)
    c.size-size.result c.idle_copies-idle.ensures.few all in
    omega (arith, h)

pub exit_counted-loop-i-preserved-then-idle-gt0 : goal.exit_counted-loop-i-preserved-then-idle-gt0
exit_counted-loop-i-preserved-then-idle-gt0 t c =
    let active = c.args.active.now in
    let kept = c.loop-i.invariant in
    let a = unrolled_in c.args.atom.now in
    let fits = copy_fits a c.args.least c.args.most c.loop-i.i c.loop-i.here.past c.args.at.past
    c.loop-i-test.true kept.1 c.requires.fits in
    let e = exact c.size-size.result (pattern_in c.args.atom.now) c.size-size.ensures (omega (arith, fits)) in
    let n = c.idle_copies-idle.result in
    let none = not_entered c.loop-i.here.entered n c.idle_copies-idle.ensures.not_entered c.if-idle-gt0.true
    in (
      λ r w. kept.0 r (skip_copies active a c.loop-i.i n c.size-size.result c.args.least
          c.loop-i.here r e none
          c.idle_copies-idle.ensures.inactive c.args.most c.idle_copies-idle.ensures.few w),
      total_skipped a c.args.least c.args.most c.loop-i.i n c.size-size.result c.loop-i.here.past _ e
          c.idle_copies-idle.ensures.few kept.1,
      c.idle_copies-idle.ensures.stands,
      omega (arith, c.idle_copies-idle.ensures.few, c.loop-i-test.true),
    )

pub exit_counted-exit-here-requires : goal.exit_counted-exit-here-requires
exit_counted-exit-here-requires t c = (
  search (rules, the_lemmas),
  let kept = c.loop-i.invariant in (
    c.requires.sized,
    (
      copy_fits (unrolled_in c.args.atom.now) c.args.least c.args.most c.loop-i.i
          c.loop-i.here.past c.args.at.past c.loop-i-test.true kept.1 c.requires.fits,
      kept.2,
    ),
  ),
)

pub exit_counted-loop-i-preserved : goal.exit_counted-loop-i-preserved
exit_counted-loop-i-preserved t c =
    let active = c.args.active.now in
    let kept = c.loop-i.invariant in
    let a = unrolled_in c.args.atom.now in
    let all = counted c.args.least c.args.most a in
    let y = c.exit-here.result in
    let more = sym (c.either-left.ensures ∙ ap (λ s. c.loop-i.left || s) c.may_stop-stop.ensures) in (
      λ r w. subst (λ b. IsWalk active all c.args.at (or_entered b r)) more
          (or_walk active all c.loop-i.left _ c.args.at r
          (kept.0 (or_entered _ r) (copy_walk active a c.args.least c.loop-i.i c.loop-i.here y r
          c.exit-here.ensures c.args.most c.loop-i-test.true w))),
      omega (
        arith,
        kept.1,
        counted-letters a c.args.least c.loop-i.i c.args.most c.loop-i-test.true,
        c.exit-here.ensures.past,
      ),
      c.exit-here.ensures.stands,
      omega (arith, c.loop-i-test.true),
    )

pub exit_counted-returns : goal.exit_counted-returns
exit_counted-returns t c =
    let active = c.args.active.now in
    let kept = c.loop-i.invariant in
    let here = c.loop-i.here in
    let none : c.args.most - c.loop-i.i ≡ 0 = omega (arith, c.loop-i-test.false) in
    let w : IsWalk active (counted (c.args.least - c.loop-i.i) (c.args.most - c.loop-i.i)
    (unrolled_in c.args.atom.now)) here here =
    subst (λ n. IsWalk active (counted (c.args.least - c.loop-i.i) n (unrolled_in c.args.atom.now)) here here)
    (sym none) (nothing_walk active here kept.2) in
    let is : c.with_entered.result ≡ or_entered c.loop-i.left here = c.with_entered.ensures
    ∙ ap (λ b. entered_as b here) c.either.ensures in
    subst (λ r. IsWalk active (counted c.args.least c.args.most (unrolled_in c.args.atom.now)) c.args.at r)
    (sym is) (kept.0 here w)

-- ---- copies without an end

pub exit_counted_on-exit_counted-here-requires : goal.exit_counted_on-exit_counted-here-requires
exit_counted_on-exit_counted-here-requires t c = (
  search (rules, the_lemmas),
  let e = on_letters c.args.least (unrolled_in c.args.atom.now) in (
    c.requires.sized,
    (c.requires.some, (omega (arith, e, c.requires.fits), c.requires.stands)),
  ),
)

pub exit_counted_on-exit-behind-requires : goal.exit_counted_on-exit-behind-requires
exit_counted_on-exit-behind-requires t c = (
  search (rules, the_lemmas),
  let e = on_letters c.args.least (unrolled_in c.args.atom.now) in (
    c.requires.sized,
    (
      omega (arith, e, c.exit_counted-here.ensures.past, c.requires.fits),
      c.exit_counted-here.ensures.stands,
    ),
  ),
)

pub exit_counted_on-returns : goal.exit_counted_on-returns
exit_counted_on-returns t c =
    let active = c.args.active.now in
    let a = unrolled_in c.args.atom.now in
    let here = c.exit_counted-here.result in
    let behind = c.exit-behind.result in
    let is : c.with_entered.result ≡ or_entered here.entered behind = c.with_entered.ensures
    ∙ ap (λ b. entered_as b behind) c.either.ensures in
    subst (λ r. IsWalk active (counted_on c.args.least a) c.args.at r) (sym is)
    (on_walk active c.args.least a c.args.at here behind c.exit_counted-here.ensures c.exit-behind.ensures)

pub exit_in_turn-returns : goal.exit_in_turn-returns
exit_in_turn-returns c = grind (arith, common_steps)
