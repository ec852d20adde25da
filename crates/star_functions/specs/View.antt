-- The plain data that functions stand for.
use Rattle.std.specs.Prelude.{ℕ, List, map as each}
use Rattle.std.specs.Option.{option_map}
use Rattle.code_spec.specs.Blocks.{Ops}
use Rattle.star_blocks.specs.Nested.{ops_of}
use Rattle.star_spec.specs.Calls.{Code, of_def, of_lambda}
use Rattle.star_tree.specs.View.{item_kind_of}
use Rattle.star_tree.specs.Whole.{expr_of, parameters_of}
use Rattle.star_functions.specs.Numbered as plain
use Rattle.star_functions.specs.declared.function.FunctionCode.{FunctionCode}
use Rattle.star_functions.specs.declared.function.FunctionCode.TheVariants as function
use Rattle.star_functions.specs.declared.function.Numbered.{Numbered}

-- the code of a function, in a file of this number
abbrev pub code_of : (file : ℕ) → FunctionCode → Code Ops
code_of file (function.Lambda ps e) = of_lambda (parameters_of file ps.now) (expr_of file e.now)
code_of file (function.Def ps kind os) = of_def (parameters_of file ps.now) (option_map item_kind_of kind) (ops_of file os.now)

abbrev pub numbered_of : (file : ℕ) → Numbered → plain.Numbered
numbered_of file f = record { number = f.number; code = code_of file f.code }

abbrev pub all_of : (file : ℕ) → List Numbered → List plain.Numbered
all_of file fs = each (numbered_of file) fs
