use Rattle.std.proofs.Common.{◌≡◌, ◌∙◌, ap}
use Rattle.jp_doc.specs.Location.{location_of}
use Rattle.jp_tree.specs.Tree as tree
use Rattle.jp_tree.specs.View.{query_of}
use Rattle.jp_tree.specs.declared.tree.Start.TheVariants.{Root}
use Rattle.jp_path.specs.PathQuery.{path_query}
use Rattle.jp_path.proofs.OfPath as of_path
use Rattle.jp_path.proofs.query.query_of.Goals as goal

the_query : (c : goal.After-root_query) → query_of c.root_query.result
    ≡ path_query (location_of c.args.location.now)
the_query c = c.root_query.ensures.from_root
    ∙ ap (tree.query_from Root) c.in_ok-path_segments.ensures.segments

pub returns-clause-accepted : goal.returns-clause-accepted
returns-clause-accepted c = of_path.accepted (location_of c.args.location.now) (query_of c.root_query.result)
    (the_query c) c.in_ok-path_segments.ensures.steps

pub returns-clause-checkable : goal.returns-clause-checkable
returns-clause-checkable c = of_path.checkable (location_of c.args.location.now)
    (query_of c.root_query.result) (the_query c) c.in_ok-path_segments.ensures.steps

pub returns-clause-only : goal.returns-clause-only
returns-clause-only c = of_path.only (location_of c.args.location.now) (query_of c.root_query.result)
    (the_query c) c.in_ok-path_segments.ensures.steps

pub returns-clause-node : goal.returns-clause-node
returns-clause-node c = of_path.own (location_of c.args.location.now) (query_of c.root_query.result)
    (the_query c) c.in_ok-path_segments.ensures.steps
