-- The calls that code may make: of functions of files, of the language's own, and of natives of whom a host is asked.
use Rattle.std.specs.Prelude.{ℕ, zero, suc}
use Rattle.code_spec.specs.Code.{Name}
use Rattle.code_spec.specs.Scopes.{ops_names}
use Rattle.star_functions.specs.Table.{table_of}
use Rattle.star_functions.specs.declared.functions.Functions.{Functions}
use Rattle.star_spec.specs.Calls.{after_reply, asking, call_with_natives, function_call, replied, too_deep}
use Rattle.star_spec.specs.Eval.{starlark}
use Rattle.star_spec.specs.Language.{Call}
use Rattle.template_meaning.specs.Calls.{enter_ops}
use Rattle.value_spec.specs.Outcomes.{Computation, Question, Reply, asks, then_do}
use Rattle.value_spec.specs.Values.{Value, Values}
use Rattle.ytt_base.specs.declared.fault.Place.{Place}
use Rattle.star_eval.specs.Meets.{Here}

-- a call where functions of the file are called so, and so many steps are left for the calls that natives ask for
unfoldable pub calls_from : (function : Call Here) → (left : ℕ) → Call Here
calls_from f left = call_with_natives starlark asking f left

-- all calls, in which natives may ask for as many calls as there are steps
unfoldable pub calls_of : (function : Call Here) → Call Here
calls_of f p g vs s = calls_from f s.steps p g vs s

-- the calls of functions where so many may still stand in one another
unfoldable pub functions_at : Functions → (depth : ℕ) → Call Here
functions_at fs zero = too_deep
functions_at fs (suc d) = function_call starlark ops_names (enter_ops starlark) (table_of fs) (calls_of (functions_at fs d))

-- and all calls there
abbrev pub calls_at : Functions → (depth : ℕ) → Call Here
calls_at fs d = calls_of (functions_at fs d)

-- ---- natives of a host

-- what follows from a native's reply, which may ask for so many calls
unfoldable pub after_replied : (function : Call Here) → (left : ℕ) → Place → Name → (held : Values) → Reply → Computation Here Value
after_replied f left p x held r = after_reply starlark asking f left p x held r

-- a question to the host, and what follows from its reply
abbrev pub after_question : (function : Call Here) → (left : ℕ) → Place → Name → (held : Values) → Question → Computation Here Value
after_question f left p x held q = λ s. asks q s (λ got t. then_do (replied got t) (after_replied f left p x held))
