-- A function of the files that a program knows, by the number of its file and its own.
use Rattle.std.specs.Prelude.{ℕ, Option, Some, None, nat_eq, option_and_then}
use Rattle.std.specs.Option.{option_map}
use Rattle.code_spec.specs.Blocks.{Ops}
use Rattle.indexmap.specs.IndexMap.{IndexMap, get}
use Rattle.star_spec.specs.Calls.{Code, Table}
use Rattle.star_functions.specs.View.{code_of}
use Rattle.star_functions.specs.declared.function.Function.{Function}
use Rattle.star_functions.specs.declared.function.FunctionCode.{FunctionCode}
use Rattle.star_functions.specs.declared.functions.Functions.{Functions}

-- the plain code of a function
abbrev pub code_in : (file : ℕ) → Option Function → Option (Code Ops)
code_in file o = option_map (code_of file) (option_map (λ f. f.code) o)

-- the function with a number in the file with one
abbrev pub function_in : {S T : Type 0} → (file number : ℕ) → IndexMap ℕ (IndexMap ℕ Function S) T → Option Function
function_in f k files = option_and_then (λ functions. get nat_eq functions k) (get nat_eq files f)

-- the code in these functions, or where there are none of the file this
abbrev pub code_or : {S : Type 0} → (file number : ℕ) → Option (IndexMap ℕ Function S) → Option (Code Ops) → Option (Code Ops)
code_or f k None more = more
code_or f k (Some functions) more = code_in f (get nat_eq functions k)

-- its code
abbrev pub code_with : (file number : ℕ) → Functions → Option FunctionCode
code_with f k fs = option_map (λ g. g.code) (function_in f k fs.files.value)

-- the plain code of all of them
abbrev pub table_of : Functions → Table Ops
table_of fs f k = option_map (code_of f) (code_with f k fs)
