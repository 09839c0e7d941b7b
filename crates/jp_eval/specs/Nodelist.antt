-- What a query selects (RFC 9535, 2.1.2, 2.3 and 2.5).
use Rattle.std.specs.Prelude.{Bool, true, false, not, ◌&&◌, ◌||◌, List}
use Rattle.std.specs.Prelude.{[], ◌∷◌, ◌++◌, Option, Some}
use Rattle.std.specs.List.{filter, flat_map}
use Rattle.jp_doc.specs.Json.{Json}
use Rattle.jp_doc.specs.Location as at
use Rattle.jp_doc.specs.Location.{Node, node}
use Rattle.jp_tree.specs.Tree.{Query, query, Segment, segment}
use Rattle.jp_tree.specs.Tree.{Selector, name, wildcard, index, slice, filter as filter_by, Logical, any}
use Rattle.jp_tree.specs.Tree.{all, negation, comparing, test, test_call, Comparison, comparison}
use Rattle.jp_tree.specs.Tree.{Comparable, literal, single, value_call, Call, call, Argument}
use Rattle.jp_tree.specs.Tree.{literal_argument, query_argument, logical_argument, call_argument, Segments}
use Rattle.jp_tree.specs.Tree.{no_segments, add_segment, Selectors, no_selectors, add_selector, Logicals}
use Rattle.jp_tree.specs.Tree.{no_logicals, add_logical, Arguments, no_arguments, add_argument}
use Rattle.jp_tree.specs.declared.tree.Start.TheVariants.{Root, Current}
use Rattle.jp_pattern.specs.Tests.{Tests}
use Rattle.jp_types.specs.Numbers.{whole_number}
use Rattle.jp_types.specs.Functions.{function_named}
use Rattle.jp_node.specs.Nodes.{children, child, items_at, descendants}
use Rattle.jp_node.specs.Selected.{index_places, slice_places}
use Rattle.jp_value.specs.Literals.{literal_value, written_value}
use Rattle.jp_value.specs.Comparison.{compared}
use Rattle.jp_value.specs.Functions.{Handed, handed_value, handed_truth, handed_nodes, as_truth, as_value}
use Rattle.jp_value.specs.Functions.{first_value, is_empty, called_if_known}

-- In a document with this root.
module _ (tests : Tests) (root : Json) where
  abbrev mutual
    -- the nodelist of a query, where `@` is the current node
    pub nodelist : Query → Node → List Node
    nodelist (query Root ss) current = through ss (node [] root ∷ [])
    nodelist (query Current ss) current = through ss (current ∷ [])

    -- segment after segment, each from the whole list before it
    pub through : Segments → List Node → List Node
    through no_segments ns = ns
    through (add_segment s ss) ns = through ss (flat_map (segment_nodes s) ns)

    -- A descendant segment goes over the node and each of its descendants.
    pub segment_nodes : Segment → Node → List Node
    segment_nodes (segment true xs) n = flat_map (selected xs) (descendants n)
    segment_nodes (segment false xs) n = selected xs n

    -- selector after selector
    pub selected : Selectors → Node → List Node
    selected no_selectors n = []
    selected (add_selector x xs) n = select x n ++ selected xs n

    -- what one selector selects
    pub select : Selector → Node → List Node
    select (name k) n = child (at.name k) n
    select wildcard n = children n
    select (index t) n = items_at n (index_places (whole_number t) n.value)
    select (slice first past step) n = items_at n
        (slice_places (written_value first) (written_value past) (written_value step) n.value)
    select (filter_by l) n = filter (holds l) (children n)

    -- whether a logical expression is true, where `@` is the node
    pub holds : Logical → Node → Bool
    holds (any ls) n = any_holds ls n
    holds (all ls) n = all_hold ls n
    holds (negation l) n = not (holds l n)
    holds (comparing c) n = comparison_holds c n
    holds (test q) n = not (is_empty (nodelist q n))
    holds (test_call c) n = as_truth (given_by c n)

    pub any_holds : Logicals → Node → Bool
    any_holds no_logicals n = false
    any_holds (add_logical l ls) n = holds l n || any_holds ls n

    pub all_hold : Logicals → Node → Bool
    all_hold no_logicals n = true
    all_hold (add_logical l ls) n = holds l n && all_hold ls n

    pub comparison_holds : Comparison → Node → Bool
    comparison_holds (comparison left operator right) n = compared operator (value_of left n)
        (value_of right n)

    -- the value of one side of a comparison, or nothing
    pub value_of : Comparable → Node → Option Json
    value_of (literal x) n = Some (literal_value x)
    value_of (single q) n = first_value (nodelist q n)
    value_of (value_call c) n = as_value (given_by c n)

    -- what a call gives
    pub given_by : Call → Node → Handed
    given_by (call function given) n = called_if_known tests (function_named function) (all_handed given n)

    pub all_handed : Arguments → Node → List Handed
    all_handed no_arguments n = []
    all_handed (add_argument a others) n = handed a n ∷ all_handed others n

    -- what an argument hands over
    pub handed : Argument → Node → Handed
    handed (literal_argument x) n = handed_value (Some (literal_value x))
    handed (query_argument q) n = handed_nodes (nodelist q n)
    handed (logical_argument l) n = handed_truth (holds l n)
    handed (call_argument c) n = given_by c n

-- the nodelist of a query on a document
abbrev pub document_nodes : Tests → Query → Json → List Node
document_nodes tests q root = nodelist tests root q (node [] root)
