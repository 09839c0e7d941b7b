-- The functions and their types: those of RFC 9535 (2.4.1 to 2.4.8), and this project's own, `xor` and
-- `distinct`.
use Rattle.std.specs.Prelude.{List, [], ◌∷◌, Option, Some, None, codes, if◌then◌else◌}
use Rattle.std.specs.Str.{bytes_eq}
use Rattle.jp_tree.specs.Tree.{Text}

-- the three types: a value or nothing, true or false, a list of nodes
pub data FunctionType : Type 0 where
  value_type : FunctionType
  logical_type : FunctionType
  nodes_type : FunctionType

pub data Function : Type 0 where
  length_function : Function
  count_function : Function
  match_function : Function
  search_function : Function
  value_function : Function
  xor_function : Function
  distinct_function : Function

-- the function of this name
abbrev pub function_named : Text → Option Function
function_named t =
    if bytes_eq t (codes "length") then Some length_function
    else if bytes_eq t (codes "count") then Some count_function
    else if bytes_eq t (codes "match") then Some match_function
    else if bytes_eq t (codes "search") then Some search_function
    else if bytes_eq t (codes "value") then Some value_function
    else if bytes_eq t (codes "xor") then Some xor_function
    else if bytes_eq t (codes "distinct") then Some distinct_function
    else None

-- the types of a function's parameters, in order
abbrev pub parameters : Function → List FunctionType
parameters length_function = value_type ∷ []
parameters count_function = nodes_type ∷ []
parameters match_function = value_type ∷ value_type ∷ []
parameters search_function = value_type ∷ value_type ∷ []
parameters value_function = nodes_type ∷ []
parameters xor_function = logical_type ∷ logical_type ∷ []
parameters distinct_function = nodes_type ∷ []

-- the type of its result
abbrev pub result_type : Function → FunctionType
result_type length_function = value_type
result_type count_function = value_type
result_type match_function = logical_type
result_type search_function = logical_type
result_type value_function = value_type
result_type xor_function = logical_type
result_type distinct_function = nodes_type
