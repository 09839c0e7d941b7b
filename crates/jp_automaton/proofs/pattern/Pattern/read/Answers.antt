use Rattle.std.proofs.Common.{◌≡◌, ◌≤◌, min, sym, ap, ◌∙◌, subst, lit<, arith, true, false}
use Rattle.std.specs.Str.{chars}
use Rattle.jp_pattern.specs.Profile.{size}
use Rattle.jp_pattern.specs.Tree.{node_of}
use Rattle.jp_automaton.specs.Expressions.{pattern_in}
use Rattle.jp_automaton.proofs.PrefilterLemmas.{no_prefilter}
use Rattle.jp_automaton.proofs.EndingLemmas.{no_endings}
use Rattle.jp_automaton.proofs.DfaLemmas.{no_dfa}
use Rattle.jp_automaton.proofs.SizeLemmas.{size_is, size_over}
use Rattle.jp_pattern.proofs.ReadLemmas.{is_pattern, too_large}
use Rattle.jp_automaton.proofs.pattern.Pattern.read.Goals as goal

pub returns-in-Err-NoPattern : goal.returns-in-Err-NoPattern
returns-in-Err-NoPattern c =
    rw (c.in-Err-NoPattern.field-0-is, c.deref.ensures.value, c.in_ok-text.ensures) at
    c.in-Err-NoPattern.ensures

pub returns-then-size-gt-MAX_SIZE : goal.returns-then-size-gt-MAX_SIZE
returns-then-size-gt-MAX_SIZE c =
    let read = rw (c.deref.ensures.value, c.in_ok-text.ensures) at c.in-Ok.ensures in
    let p = node_of c.in-Ok.node in
    let simpler = c.in_ok-root-in-Ok.ensures.same read.counts in
    let same = c.size.ensures ∙ ap (λ n. min n 4_294_967_295) (sym simpler.language.same_size) in
    too_large (chars c.args.text.now) p read (size_over (size p) c.size.result 4_294_967_295 same
    c.if-size-gt-MAX_SIZE.true)

pub returns : goal.returns
returns c =
    let read = rw (c.deref.ensures.value, c.in_ok-text.ensures) at c.in-Ok.ensures in
    let p = node_of c.in-Ok.node in
    let simpler = c.in_ok-root-in-Ok.ensures.same read.counts in
    let is : c.size.result ≡ min (size p) 4_294_967_295 = c.size.ensures ∙ ap
    (λ n. min n 4_294_967_295) (sym simpler.language.same_size) in
    let fits = c.if-size-gt-MAX_SIZE.false in
    let same = size_is (size p) c.size.result 4_294_967_295 is fits (lit< tt) in
    (p, is_pattern (chars c.args.text.now) p read (subst (λ n. n ≤ 10_000) same fits), simpler.language)

pub invariant_of-result : goal.invariant_of-result
invariant_of-result c =
    let read = rw (c.deref.ensures.value, c.in_ok-text.ensures) at c.in-Ok.ensures in
    let root = c.in_ok-root-in-Ok.root in
    let simpler = c.in_ok-root-in-Ok.ensures.same read.counts in
    let fits = c.if-size-gt-MAX_SIZE.false in
    let same = size_is (size (pattern_in root)) c.size.result 4_294_967_295 c.size.ensures fits (lit< tt) in
    record {
      sized = c.in_ok-root-in-Ok.ensures.sized;
      in_profile = ∣ record {
        counts = simpler.counts;
        depth_fits = omega (arith, simpler.no_deeper, read.depth_fits);
        size_fits = subst (λ n. n ≤ 10_000) same fits;
      } ∣₁;
      whole_steps = ∣ no_dfa (pattern_in root) false c.new-whole.result c.new-whole.ensures.states
          c.new-whole.ensures.cells ∣₁;
      part_steps = ∣ no_dfa (pattern_in root) true c.new-part.result c.new-part.ensures.states
          c.new-part.ensures.cells ∣₁;
      right_prefilter = ∣ no_prefilter c.new-part.result.cells.items c.new-prefilter.result.flags.items
          c.new-prefilter.ensures.flags ∣₁;
      right_endings = ∣ no_endings c.new-part.result.cells.items c.new-prefilter.result.endings
          c.new-prefilter.ensures.endings ∣₁;
    }
