-- The literal patterns of a query: the texts that are given to `match` and `search` as literals (RFC 9535,
-- 2.4.6 and 2.4.7).
use Rattle.std.specs.Prelude.{List, [], ◌∷◌, ◌++◌, Option, Some}
use Rattle.jp_tree.specs.Tree.{Text, text, Query, query, Segment, segment, Selector, filter, Logical, any}
use Rattle.jp_tree.specs.Tree.{all, negation, comparing, test, test_call, Comparison, comparison}
use Rattle.jp_tree.specs.Tree.{Comparable, literal, single, value_call, Call, call, Argument}
use Rattle.jp_tree.specs.Tree.{literal_argument, query_argument, logical_argument, call_argument, Segments}
use Rattle.jp_tree.specs.Tree.{no_segments, add_segment, Selectors, no_selectors, add_selector, Logicals}
use Rattle.jp_tree.specs.Tree.{no_logicals, add_logical, Arguments, no_arguments, add_argument}
use Rattle.jp_types.specs.Functions.{Function, match_function, search_function, function_named}

-- the text that an argument is as a literal
abbrev pub literal_text : Argument → List Text
literal_text (literal_argument (text t)) = t ∷ []
literal_text _ = []

-- the text that the second argument is as a literal
abbrev pub second_text : Arguments → List Text
second_text (add_argument first (add_argument second others)) = literal_text second
second_text _ = []

-- the pattern that a call of this function has as a literal
abbrev pub given_pattern : Option Function → Arguments → List Text
given_pattern (Some match_function) given = second_text given
given_pattern (Some search_function) given = second_text given
given_pattern _ given = []

-- all literal patterns of a query, however deep, in the order of the text
abbrev mutual
  pub literal_patterns : Query → List Text
  literal_patterns (query start ss) = segments_patterns ss

  pub segments_patterns : Segments → List Text
  segments_patterns no_segments = []
  segments_patterns (add_segment s ss) = segment_patterns s ++ segments_patterns ss

  pub segment_patterns : Segment → List Text
  segment_patterns (segment deep xs) = selectors_patterns xs

  pub selectors_patterns : Selectors → List Text
  selectors_patterns no_selectors = []
  selectors_patterns (add_selector x xs) = selector_patterns x ++ selectors_patterns xs

  pub selector_patterns : Selector → List Text
  selector_patterns (filter l) = logical_patterns l
  selector_patterns _ = []

  pub logical_patterns : Logical → List Text
  logical_patterns (any ls) = logicals_patterns ls
  logical_patterns (all ls) = logicals_patterns ls
  logical_patterns (negation l) = logical_patterns l
  logical_patterns (comparing c) = comparison_patterns c
  logical_patterns (test q) = literal_patterns q
  logical_patterns (test_call c) = call_patterns c

  pub logicals_patterns : Logicals → List Text
  logicals_patterns no_logicals = []
  logicals_patterns (add_logical l ls) = logical_patterns l ++ logicals_patterns ls

  pub comparison_patterns : Comparison → List Text
  comparison_patterns (comparison left operator right) = comparable_patterns left ++ comparable_patterns right

  pub comparable_patterns : Comparable → List Text
  comparable_patterns (literal x) = []
  comparable_patterns (single q) = literal_patterns q
  comparable_patterns (value_call c) = call_patterns c

  pub call_patterns : Call → List Text
  call_patterns (call function given) = given_pattern (function_named function) given ++ arguments_patterns
      given

  pub arguments_patterns : Arguments → List Text
  arguments_patterns no_arguments = []
  arguments_patterns (add_argument a others) = argument_patterns a ++ arguments_patterns others

  pub argument_patterns : Argument → List Text
  argument_patterns (literal_argument x) = []
  argument_patterns (query_argument q) = literal_patterns q
  argument_patterns (logical_argument l) = logical_patterns l
  argument_patterns (call_argument c) = call_patterns c
