-- What the names of short programs are.
use Rattle.std.proofs.Common.{◌≡◌, pos, List, [], ◌∷◌, Some, None, refl, map as each}
use Rattle.ytt_base.specs.declared.fault.Place.{Place}
use Rattle.ytt_base.specs.Outcomes.{place_at}
use Rattle.code_spec.specs.Code as code
use Rattle.code_spec.specs.Code.{Name, Expr, no_exprs, an_expr, no_clauses, for_clause, Parameters, no_parameters, required, defaulted, evaluate, assign}
use Rattle.code_spec.specs.Program.{node_note, node_value_from, Instruction, part, statement, begin_for, begin_def, close}
use Rattle.code_spec.specs.Scopes.{Home, local, global, builtin, unknown, home_of, program_names, program_uses, unknown_first, use_at}

-- `f`, `g`, `x`, `y`
abbrev f : Name
f = 102 ∷ []

abbrev g : Name
g = 103 ∷ []

abbrev x : Name
x = 120 ∷ []

abbrev y : Name
y = 121 ∷ []

abbrev p : Place
p = place_at 1 1

abbrev q : Place
q = place_at 1 2

abbrev read : Name → Instruction
read z = statement (evaluate p (code.name p z))

abbrev set : Name → Instruction
set z = statement (assign p (code.name p z) (code.int p (pos 1)))

abbrev function : Name → Parameters → Instruction
function z ps = begin_def p 0 None z ps

-- what the names of a program are, in text order, where `g` is of the language
abbrev homes : List Instruction → List Home
homes is = each (home_of (program_names is) (g ∷ [])) (program_uses is)

-- a name in an item's value, bound nowhere
unknown_in_a_value : unknown_first [] [] (program_uses (part (node_value_from p (code.name p x)) ∷ [])) ≡ Some (use_at [] p x)
unknown_in_a_value = refl

-- the first of two is told, here in a note's argument
first_unknown_is_told : unknown_first [] [] (program_uses (part (node_note p f (an_expr (code.name p y) no_exprs)) ∷ part (node_value_from q (code.name q x)) ∷ [])) ≡ Some (use_at [] p y)
first_unknown_is_told = refl

-- `def f(): x; x = 1`: local also before it is bound
local_before_its_binding : homes (function f no_parameters ∷ read x ∷ set x ∷ close p ∷ []) ≡ global ∷ local 0 ∷ local 0 ∷ []
local_before_its_binding = refl

-- `def f(): x = 1; def g(): x`: the outer function's variable
shared_with_an_inner_function : homes (function f no_parameters ∷ set x ∷ function g no_parameters ∷ read x ∷ close p ∷ close p ∷ []) ≡ global ∷ local 0 ∷ local 0 ∷ local 1 ∷ []
shared_with_an_inner_function = refl

-- `x = 1; def f(x): x`
shadowed_by_a_parameter : homes (set x ∷ function f (required x no_parameters) ∷ read x ∷ close p ∷ []) ≡ global ∷ global ∷ local 0 ∷ []
shadowed_by_a_parameter = refl

-- `x = 1; def f(): for x in y: x`
shadowed_by_a_loop : homes (set x ∷ function f no_parameters ∷ begin_for p (code.name p x) (code.name p y) ∷ read x ∷ close p ∷ close p ∷ []) ≡ global ∷ global ∷ local 0 ∷ unknown ∷ local 0 ∷ []
shadowed_by_a_loop = refl

-- `x = 1; [x for x in x]`: the last one belongs outside
first_members_stand_outside :
    homes (set x ∷ statement (evaluate p (code.list_comprehension p (code.name p x) (for_clause (code.name p x) (code.name p x) no_clauses))) ∷ []) ≡ global ∷ local 0 ∷ local 0 ∷ global ∷ []
first_members_stand_outside = refl

-- `def f(x=lambda: x): x = 1`: a default belongs to what stands around the function
default_stands_outside : homes (function f (defaulted x (code.lambda p 1 no_parameters (code.name p x)) no_parameters) ∷ set x ∷ close p ∷ []) ≡ global ∷ unknown ∷ local 0 ∷ []
default_stands_outside = refl

-- `def f(): x` above `x = 1`
global_bound_below : homes (function f no_parameters ∷ read x ∷ close p ∷ set x ∷ []) ≡ global ∷ global ∷ global ∷ []
global_bound_below = refl

-- one of the language, and an assignment before it
builtin_read : homes (read g ∷ []) ≡ builtin ∷ []
builtin_read = refl

builtin_shadowed : homes (read g ∷ set g ∷ []) ≡ global ∷ global ∷ []
builtin_shadowed = refl
