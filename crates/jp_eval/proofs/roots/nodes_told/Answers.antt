use Rattle.std.proofs.Common.{[], is_some, refl, sym, ap, ap₂, ◌∙◌}
use Rattle.jp_compiled.specs.Parts.{roots_of, segments_in}
use Rattle.jp_eval.specs.inner.Rooted.{root_nodes}
use Rattle.jp_eval.specs.inner.Base.{base_of}
use Rattle.jp_found.specs.Aggregates.{tells}
use Rattle.jp_found.specs.Kept.{put_found, plus}
use Rattle.jp_node.specs.Part.{part_value}
use Rattle.jp_found.proofs.Keeping.{not_taken}
use Rattle.jp_eval.proofs.CompiledParts.{from_root}
use Rattle.jp_eval.proofs.roots.nodes_told.Goals as goal

pub returns : goal.returns
returns g c =
    let context = c.args.context.now in
    let query = c.args.query.now in
    let root = part_value context.root in
    let ss = segments_in (roots_of context.roots.now) query.segments.items in
    let nodes = from_root (base_of context) query.segments c.as_slice-segments.result.now context.root
    c.new-path.result c.as_slice-segments.ensures.value c.new-path.ensures refl in
    let held = c.in_ok-run.ensures.found
    ∙ ap₂ (plus (put_found g.V.Visit.put)) c.none_found-found.ensures nodes in
    c.in-Some-into_aggregate.ensures.answer query.want (root_nodes root ss) held

pub returns-in-Some : goal.returns-in-Some
returns-in-Some g c =
    let context = c.args.context.now in
    let query = c.args.query.now in
    let nodes = from_root (base_of context) query.segments c.as_slice-segments.result.now context.root
    [] c.as_slice-segments.ensures.value refl refl in
    ap (λ ns. tells query.want ns c.in-Some.answer) (sym nodes) ∙ c.in-Some.ensures (base_of context) []

pub unreachable-requires : goal.unreachable-requires
unreachable-requires g c =
    not_taken g.V.Visit.put c.args.query.now.want _ _ _ c.in_ok-run.ensures.found c.none_found-found.ensures
    (c.into_aggregate.ensures.other.0 (ap is_some c.in-None.is))
