-- Well-typedness (RFC 9535, 2.4.3).
use Rattle.std.specs.Prelude.{Bool, true, false, ◌&&◌, List, [], ◌∷◌, Option, Some, None, option_map}
use Rattle.jp_tree.specs.Tree.{Query, query, Segment, segment, Selector, filter, Logical, any, all}
use Rattle.jp_tree.specs.Tree.{negation, comparing, test, test_call, Comparison, comparison, Comparable}
use Rattle.jp_tree.specs.Tree.{literal, single, value_call, Call, call, Argument, literal_argument}
use Rattle.jp_tree.specs.Tree.{query_argument, logical_argument, call_argument, Segments, no_segments}
use Rattle.jp_tree.specs.Tree.{add_segment, Selectors, no_selectors, add_selector, Logicals, no_logicals}
use Rattle.jp_tree.specs.Tree.{add_logical, Arguments, no_arguments, add_argument}
use Rattle.jp_tree.specs.Singular.{is_singular}
use Rattle.jp_types.specs.Functions.{FunctionType, value_type, logical_type, nodes_type, Function}
use Rattle.jp_types.specs.Functions.{function_named}
use Rattle.jp_types.specs.Functions.{parameters, result_type}

-- the type of what a call gives, where its function is known
abbrev pub type_of_call : Call → Option FunctionType
type_of_call (call function given) = option_map result_type (function_named function)

-- what gives this type may stand where the other is asked for: a list of nodes also where true or false is
abbrev pub serves_as : FunctionType → Option FunctionType → Bool
serves_as value_type (Some value_type) = true
serves_as nodes_type (Some nodes_type) = true
serves_as logical_type (Some logical_type) = true
serves_as logical_type (Some nodes_type) = true
serves_as _ _ = false

-- An argument for a parameter of this type. For a value: a literal, a singular query, or a call that gives a
-- value.
-- For nodes: a query, or a call that gives nodes. For true or false: a logical expression, a query, or a call
-- that
-- gives either of the last two.
abbrev pub fits : FunctionType → Argument → Bool
fits value_type (literal_argument x) = true
fits value_type (query_argument q) = is_singular q
fits nodes_type (query_argument q) = true
fits logical_type (query_argument q) = true
fits logical_type (logical_argument l) = true
fits kind (call_argument c) = serves_as kind (type_of_call c)
fits _ _ = false

-- as many arguments as parameters, each of which fits
abbrev pub all_fit : List FunctionType → Arguments → Bool
all_fit [] no_arguments = true
all_fit (kind ∷ kinds) (add_argument a others) = fits kind a && all_fit kinds others
all_fit _ _ = false

abbrev pub fits_parameters : Option Function → Arguments → Bool
fits_parameters None given = false
fits_parameters (Some function) given = all_fit (parameters function) given

-- The rules hold at each place of the tree: each call has a known function and arguments that fit its
-- parameters,
-- a call by itself as a test gives true or false or nodes, and a call in a comparison gives a value.
abbrev mutual
  pub query_typed : Query → Bool
  query_typed (query start ss) = segments_typed ss

  pub segments_typed : Segments → Bool
  segments_typed no_segments = true
  segments_typed (add_segment s ss) = segment_typed s && segments_typed ss

  pub segment_typed : Segment → Bool
  segment_typed (segment deep xs) = selectors_typed xs

  pub selectors_typed : Selectors → Bool
  selectors_typed no_selectors = true
  selectors_typed (add_selector x xs) = selector_typed x && selectors_typed xs

  pub selector_typed : Selector → Bool
  selector_typed (filter l) = logical_typed l
  selector_typed _ = true

  pub logical_typed : Logical → Bool
  logical_typed (any ls) = logicals_typed ls
  logical_typed (all ls) = logicals_typed ls
  logical_typed (negation l) = logical_typed l
  logical_typed (comparing c) = comparison_typed c
  logical_typed (test q) = query_typed q
  logical_typed (test_call c) = call_typed c && serves_as logical_type (type_of_call c)

  pub logicals_typed : Logicals → Bool
  logicals_typed no_logicals = true
  logicals_typed (add_logical l ls) = logical_typed l && logicals_typed ls

  pub comparison_typed : Comparison → Bool
  comparison_typed (comparison left operator right) = comparable_typed left && comparable_typed right

  pub comparable_typed : Comparable → Bool
  comparable_typed (literal x) = true
  comparable_typed (single q) = query_typed q
  comparable_typed (value_call c) = call_typed c && serves_as value_type (type_of_call c)

  pub call_typed : Call → Bool
  call_typed (call function given) = fits_parameters (function_named function) given && arguments_typed given

  pub arguments_typed : Arguments → Bool
  arguments_typed no_arguments = true
  arguments_typed (add_argument a others) = argument_typed a && arguments_typed others

  pub argument_typed : Argument → Bool
  argument_typed (literal_argument x) = true
  argument_typed (query_argument q) = query_typed q
  argument_typed (logical_argument l) = logical_typed l
  argument_typed (call_argument c) = call_typed c
