use Rattle.std.proofs.Common.{◌≡◌, ◌++◌, drop, map}
use Rattle.jp_tree.specs.Tree.{segments, selectors, logicals}
use Rattle.jp_tree.specs.PartViews.{segments_of, selectors_of, logicals_of}
use Rattle.jp_check.specs.Known.{known_texts}
use Rattle.jp_check.specs.LiteralPatterns.{segments_patterns, selectors_patterns, logicals_patterns}
use Rattle.jp_tree.specs.PartViews.{segment_of, selector_of, logical_of}
use Rattle.jp_check.specs.inner.Making.{Begins, Reads}
use Rattle.jp_compiled.specs.Parts.{roots_of, segment_in, selector_in, logical_in}
use Rattle.jp_check.proofs.making.+making.Given as goal

abbrev pub invariant-make_segments-loop-segment : goal.invariant-make_segments-loop-segment
invariant-make_segments-loop-segment l =
    Reads (roots_of l.listed.roots.items) (λ all. map (segment_in all) l.made.items ++ map segment_of
    (drop l.segment-index l.segments)) (map segment_of l.segments)
    × Begins (roots_of l.initial.listed.roots.items) (roots_of l.listed.roots.items)
    × (known_texts l.listed.patterns.items ++ segments_patterns
    (segments (segments_of (drop l.segment-index l.segments)))
    ≡ known_texts l.initial.listed.patterns.items ++ segments_patterns
    (segments (segments_of l.segments)))

abbrev pub invariant-make_selectors-loop-selector : goal.invariant-make_selectors-loop-selector
invariant-make_selectors-loop-selector l =
    Reads (roots_of l.listed.roots.items) (λ all. map (selector_in all) l.made.items ++ map selector_of
    (drop l.selector-index l.selectors)) (map selector_of l.selectors)
    × Begins (roots_of l.initial.listed.roots.items) (roots_of l.listed.roots.items)
    × (known_texts l.listed.patterns.items ++ selectors_patterns
    (selectors (selectors_of (drop l.selector-index l.selectors)))
    ≡ known_texts l.initial.listed.patterns.items ++ selectors_patterns
    (selectors (selectors_of l.selectors)))

abbrev pub invariant-make_parts-loop-part : goal.invariant-make_parts-loop-part
invariant-make_parts-loop-part l =
    Reads (roots_of l.listed.roots.items) (λ all. map (logical_in all) l.made.items ++ map logical_of
    (drop l.part-index l.parts)) (map logical_of l.parts)
    × Begins (roots_of l.initial.listed.roots.items) (roots_of l.listed.roots.items)
    × (known_texts l.listed.patterns.items ++ logicals_patterns
    (logicals (logicals_of (drop l.part-index l.parts)))
    ≡ known_texts l.initial.listed.patterns.items ++ logicals_patterns
    (logicals (logicals_of l.parts)))
