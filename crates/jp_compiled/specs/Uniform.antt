-- Which expressions ask nothing of the current node (RFC 9535, 2.3.5): no query in them begins with `@`. What
-- `@` is in a filter inside of a query is bound by that filter.
use Rattle.std.specs.Prelude.{Bool, true, false, ◌&&◌, List, [], ◌∷◌}
use Rattle.jp_tree.specs.Tree.{Query, query, Logical, any, all, negation, comparing, test, test_call}
use Rattle.jp_tree.specs.Tree.{Comparison, comparison, Comparable, literal, single, value_call, Call, call}
use Rattle.jp_tree.specs.Tree.{Argument, literal_argument, query_argument, logical_argument, call_argument}
use Rattle.jp_tree.specs.Tree.{Logicals, no_logicals, add_logical, Arguments, no_arguments, add_argument}
use Rattle.jp_tree.specs.declared.tree.Start.TheVariants.{Root, Current}
use Rattle.jp_compiled.specs.Parts.{Wanted, truth_of}

abbrev pub is_rooted : Query → Bool
is_rooted (query Root ss) = true
is_rooted (query Current ss) = false

abbrev mutual
  pub is_uniform : Logical → Bool
  is_uniform (any ls) = all_uniform ls
  is_uniform (all ls) = all_uniform ls
  is_uniform (negation l) = is_uniform l
  is_uniform (comparing c) = comparison_uniform c
  is_uniform (test q) = is_rooted q
  is_uniform (test_call c) = call_uniform c

  pub all_uniform : Logicals → Bool
  all_uniform no_logicals = true
  all_uniform (add_logical l ls) = is_uniform l && all_uniform ls

  pub comparison_uniform : Comparison → Bool
  comparison_uniform (comparison left o right) = side_uniform left && side_uniform right

  pub side_uniform : Comparable → Bool
  side_uniform (literal x) = true
  side_uniform (single q) = is_rooted q
  side_uniform (value_call c) = call_uniform c

  pub call_uniform : Call → Bool
  call_uniform (call function given) = arguments_uniform given

  pub arguments_uniform : Arguments → Bool
  arguments_uniform no_arguments = true
  arguments_uniform (add_argument a others) = argument_uniform a && arguments_uniform others

  pub argument_uniform : Argument → Bool
  argument_uniform (literal_argument x) = true
  argument_uniform (query_argument q) = is_rooted q
  argument_uniform (logical_argument l) = is_uniform l
  argument_uniform (call_argument c) = call_uniform c

-- each expression that is listed asks nothing of the current node
abbrev pub wanted_uniform : Wanted → Bool
wanted_uniform (truth_of l) = is_uniform l
wanted_uniform _ = true

abbrev pub are_uniform : List Wanted → Bool
are_uniform [] = true
are_uniform (w ∷ ws) = wanted_uniform w && are_uniform ws
