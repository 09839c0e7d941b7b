-- The functions and types of `src/` as those of the definitions.
use Rattle.jp_types.specs.Functions as functions
use Rattle.jp_types.specs.declared.functions.FunctionType.{FunctionType}
use Rattle.jp_types.specs.declared.functions.FunctionType.TheVariants as kind
use Rattle.jp_types.specs.declared.functions.Function.{Function}
use Rattle.jp_types.specs.declared.functions.Function.TheVariants as function

abbrev pub kind_of : FunctionType → functions.FunctionType
kind_of kind.Value = functions.value_type
kind_of kind.Logical = functions.logical_type
kind_of kind.Nodes = functions.nodes_type

abbrev pub function_of : Function → functions.Function
function_of function.Length = functions.length_function
function_of function.Count = functions.count_function
function_of function.Match = functions.match_function
function_of function.Search = functions.search_function
function_of function.Value = functions.value_function
function_of function.Xor = functions.xor_function
function_of function.Distinct = functions.distinct_function
