use Rattle.std.proofs.Common.{◌≡◌, ◌+◌, ◌-◌, ◌*◌, ◌≤◌, ◌||◌, ◌++◌, refl, sym, ap, ◌∙◌, subst, arith}
use Rattle.jp_automaton.specs.Letters.{letters_of}
use Rattle.jp_pattern.specs.Unrolled.{counted, letters, letter}
use Rattle.jp_automaton.specs.inner.Simulation.{step, is_elem, read_if, IsAt, IsStep, IsWalk, or_entered}
use Rattle.jp_automaton.specs.inner.Simulation.{entered_as}
use Rattle.jp_automaton.proofs.CopyLemmas.{counted-letters}
use Rattle.jp_automaton.proofs.ReadsLemmas.{end_reads, copy_reads, skip_reads}
use Rattle.jp_pattern.proofs.UnrolledLemmas.{letters-counted}
use Rattle.jp_automaton.proofs.WalkLemmas.{nothing_walk, or_walk, copy_walk, copies_fit, copy_fits}
use Rattle.jp_automaton.proofs.WalkLemmas.{not_entered}
use Rattle.jp_automaton.proofs.WalkLemmas.{skip_copies, total_skipped}
use Rattle.jp_automaton.proofs.step_sets.step_set_copies.Goals as goal

pub idle_copies-idle-requires-clause-fits : goal.idle_copies-idle-requires-clause-fits
idle_copies-idle-requires-clause-fits c =
    let kept = c.loop-i.invariant in
    let a = letter (letters_of c.args.set.now) in
    let whole : c.args.at.past + letters (counted c.args.copies.least c.args.copies.most a) ≤ 10_000 =
    omega (arith, letters-counted a c.args.copies.least c.args.copies.most, c.requires.fits) in
    copies_fit a c.args.copies.least c.args.copies.most c.loop-i.i c.loop-i.here.past c.args.at.past
    c.loop-i-test.true
    kept.1 whole

pub overflow_add-here : goal.overflow_add-here
overflow_add-here c =
    let kept = c.loop-i.invariant in
    let a = letter (letters_of c.args.set.now) in
    let whole : c.args.at.past + letters (counted c.args.copies.least c.args.copies.most a) ≤ 10_000 =
    omega (arith, letters-counted a c.args.copies.least c.args.copies.most, c.requires.fits) in
    let all = copies_fit a c.args.copies.least c.args.copies.most c.loop-i.i c.loop-i.here.past c.args.at.past
    c.loop-i-test.true kept.1 whole in
    omega (arith, all, c.idle_copies-idle.ensures.few)

pub loop-i-preserved-then-idle-gt0 : goal.loop-i-preserved-then-idle-gt0
loop-i-preserved-then-idle-gt0 c =
    let active = c.args.input.active.now in
    let kept = c.loop-i.invariant in
    let a = letter (letters_of c.args.set.now) in
    let here = c.loop-i.here in
    let n = c.idle_copies-idle.result in
    let none = not_entered here.entered n c.idle_copies-idle.ensures.not_entered c.if-idle-gt0.true in
    let one : n * 1 ≡ n = omega arith in
    let past : here.past + n * 1 ≡ here.past + n = omega arith in (
      λ r w. kept.0 r (skip_copies active a c.loop-i.i n 1 c.args.copies.least here r refl none
          c.idle_copies-idle.ensures.inactive c.args.copies.most c.idle_copies-idle.ensures.few
          (subst (λ k. IsWalk active (counted (c.args.copies.least - (c.loop-i.i + n))
          (c.args.copies.most - (c.loop-i.i + n))
          a) (record { past = k; index = here.index; entered = here.entered }) r) (sym past) w)),
      omega (
        arith,
        total_skipped a c.args.copies.least c.args.copies.most c.loop-i.i n 1 here.past _ refl
            c.idle_copies-idle.ensures.few kept.1,
      ),
      subst (λ k. IsAt active k here.index) past c.idle_copies-idle.ensures.stands,
      omega (arith, c.idle_copies-idle.ensures.few, c.loop-i-test.true),
      ap (λ k. c.loop-i.out.items ++ step (is_elem active) c.args.input.c
          (counted (c.args.copies.least - (c.loop-i.i + n)) (c.args.copies.most -
          (c.loop-i.i + n)) a) k here.entered)
          (sym past)
          ∙ skip_reads active c.args.input.c _ a c.loop-i.i n 1 c.args.copies.least here c.loop-i.out.items
          refl none
          c.idle_copies-idle.ensures.inactive c.args.copies.most c.idle_copies-idle.ensures.few kept.4,
    )

pub read_known-requires : goal.read_known-requires
read_known-requires c =
    let kept = c.loop-i.invariant in
    let a = letter (letters_of c.args.set.now) in
    let whole : c.args.at.past + letters (counted c.args.copies.least c.args.copies.most a) ≤ 10_000 =
    omega (arith, letters-counted a c.args.copies.least c.args.copies.most, c.requires.fits) in
    let fits = copy_fits a c.args.copies.least c.args.copies.most c.loop-i.i c.loop-i.here.past c.args.at.past
    c.loop-i-test.true kept.1 whole in
    omega (arith, fits)

pub behind_set-here-requires : goal.behind_set-here-requires
behind_set-here-requires c =
    let kept = c.loop-i.invariant in
    let a = letter (letters_of c.args.set.now) in
    let whole : c.args.at.past + letters (counted c.args.copies.least c.args.copies.most a) ≤ 10_000 =
    omega (arith, letters-counted a c.args.copies.least c.args.copies.most, c.requires.fits) in
    let fits = copy_fits a c.args.copies.least c.args.copies.most c.loop-i.i c.loop-i.here.past c.args.at.past
    c.loop-i-test.true kept.1 whole in
    record { fits = omega (arith, fits); stands = kept.2 }

pub loop-i-preserved : goal.loop-i-preserved
loop-i-preserved c =
    let active = c.args.input.active.now in
    let kept = c.loop-i.invariant in
    let set = letters_of c.args.set.now in
    let a = letter set in
    let all = counted c.args.copies.least c.args.copies.most a in
    let here = c.loop-i.here in
    let y = c.behind_set-here.result in
    let stepped : IsStep active c.args.input.c a here y c.loop-i.out.items c.read_known.new.out.items =
    record {
      walk = c.behind_set-here.ensures set;
      reads = c.in_ok-read_known.ensures ∙ ap (λ b. c.loop-i.out.items ++ read_if b here)
          c.has_letter-has.ensures;
    } in
    let more = sym (c.either-left.ensures ∙ ap (λ s. c.loop-i.left || s) c.may_stop-stop.ensures) in (
      λ r w. subst (λ b. IsWalk active all c.args.at (or_entered b r)) more
          (or_walk active all c.loop-i.left _ c.args.at r
          (kept.0 (or_entered _ r) (copy_walk active a c.args.copies.least c.loop-i.i here y r
          stepped.walk c.args.copies.most
          c.loop-i-test.true w))),
      omega (
        arith,
        kept.1,
        counted-letters a c.args.copies.least c.loop-i.i c.args.copies.most c.loop-i-test.true,
        stepped.walk.past,
      ),
      stepped.walk.stands,
      omega (arith, c.loop-i-test.true),
      copy_reads active c.args.input.c _ a here y c.loop-i.out.items c.read_known.new.out.items stepped
          c.args.copies.least
          c.loop-i.i c.args.copies.most c.loop-i-test.true kept.4,
    )

pub returns : goal.returns
returns c =
    let active = c.args.input.active.now in
    let kept = c.loop-i.invariant in
    let here = c.loop-i.here in
    let none : c.args.copies.most - c.loop-i.i ≡ 0 = omega (arith, c.loop-i-test.false) in
    let w : IsWalk active (counted (c.args.copies.least - c.loop-i.i) (c.args.copies.most - c.loop-i.i)
    (letter (letters_of c.args.set.now))) here here =
    subst (λ n. IsWalk active (counted (c.args.copies.least - c.loop-i.i) n (letter
    (letters_of c.args.set.now))) here
    here) (sym none) (nothing_walk active here kept.2) in
    let is : c.with_entered.result ≡ or_entered c.loop-i.left here = c.with_entered.ensures
    ∙ ap (λ b. entered_as b here) c.either.ensures in
    record {
      walk = subst (λ r. IsWalk active (counted c.args.copies.least c.args.copies.most (letter
          (letters_of c.args.set.now)))
          c.args.at r) (sym is) (kept.0 here w);
      reads = end_reads active c.args.input.c _ c.loop-i.out.items
          (ap (λ n. c.loop-i.out.items ++ step (is_elem active) c.args.input.c
          (counted (c.args.copies.least - c.loop-i.i) n (letter
          (letters_of c.args.set.now))) here.past here.entered)
          (sym none) ∙ kept.4);
    }
