-- What the code's natives are in the definitions.
use Rattle.std.specs.Prelude.{ℕ, not, List, [], ◌∷◌, codes, map as each}
use Rattle.std.specs.Borrow.{Bor}
use Rattle.ytt_base.specs.declared.fault.FaultKind.TheVariants as kind
use Rattle.ytt_base.specs.declared.fault.Place.{Place}
use Rattle.builtin_spec.specs.Binding.{Own, taking}
use Rattle.code_spec.specs.Code.{Name}
use Rattle.module_spec.specs.Asserting.{check_row, checking, equals_row, fail_row, is_callable, is_none, length_in, rule_checked, rule_of_number, rule_of_value, rule_parts, try_row, unless_not}
use Rattle.module_spec.specs.Replacing.{replace}
use Rattle.module_spec.specs.Rows.{Row, of_one, of_own, of_text}
use Rattle.module_spec.specs.Structs as structs
use Rattle.operator_spec.specs.Order.{comparison, is_above, is_below}
use Rattle.text_spec.specs.Answers.{paid_operation}
use Rattle.text_spec.specs.Signatures.{value_at}
use Rattle.value_spec.specs.Members.{as_text}
use Rattle.value_spec.specs.Outcomes.{Computation, Reply, answer, call_then, fail, give, need, or_fail, reads, ◌>>=◌}
use Rattle.value_spec.specs.Values.{Arguments, Value, arguments, no_fields, no_values}
use Rattle.mod_basic.specs.Walks.{Here}
use Rattle.mod_basic.specs.declared.table.Basic.{Basic}
use Rattle.mod_basic.specs.declared.table.Basic.TheVariants as basic

-- ---- rows

abbrev pub row_of : Basic → Row Here
row_of basic.Make = of_own structs.make
row_of basic.Encode = of_one (codes "x") structs.encode
row_of basic.Decode = of_one (codes "x") structs.decode
row_of basic.Fail = of_text (codes "text") fail_row
row_of basic.Equals = of_own (taking (codes "a" ∷ codes "b" ∷ []) [] (λ p vs. equals_row p (value_at 0 vs) (value_at 1 vs)))
row_of basic.TryTo = try_row
row_of basic.Min = of_one (codes "n") (rule_of_value (codes "min"))
row_of basic.Max = of_one (codes "n") (rule_of_value (codes "max"))
row_of basic.MinLen = of_one (codes "n") (rule_of_number (codes "min_len"))
row_of basic.MaxLen = of_one (codes "n") (rule_of_number (codes "max_len"))
row_of basic.NotNull = of_own (taking [] [] (λ p vs. give (checking (codes "not_null") [])))
row_of basic.Check = check_row
row_of basic.Replace = of_one (codes "x") replace

-- names with the natives that they are
abbrev pub named_rows : List (Bor (List ℕ) × Basic) → List (Name × Row Here)
named_rows bs = each (λ b. (b.0.now, row_of b.1)) bs

-- ---- their parts

abbrev pub needed_of : Basic → List Name
needed_of basic.Make = []
needed_of basic.Encode = codes "x" ∷ []
needed_of basic.Decode = codes "x" ∷ []
needed_of basic.Fail = codes "text" ∷ []
needed_of basic.Equals = codes "a" ∷ codes "b" ∷ []
needed_of basic.TryTo = codes "f" ∷ []
needed_of basic.Min = codes "n" ∷ []
needed_of basic.Max = codes "n" ∷ []
needed_of basic.MinLen = codes "n" ∷ []
needed_of basic.MaxLen = codes "n" ∷ []
needed_of basic.NotNull = []
needed_of basic.Check = codes "v" ∷ []
needed_of basic.Replace = codes "x" ∷ []

-- a failure with the text that a value is
abbrev pub failing : Place → Value → Computation Here Value
failing p v = or_fail kind.ValueKind p (as_text v) >>= fail_row p

-- what a native gives that holds these, for the values of its parameters; a struct is made of arguments by name alone
abbrev pub gives_of : Basic → (held : List Value) → Place → List Value → Computation Here Value
gives_of basic.Make held p vs = fail kind.ArgBind p
gives_of basic.Encode held p vs = structs.encode p (value_at 0 vs)
gives_of basic.Decode held p vs = structs.decode p (value_at 0 vs)
gives_of basic.Fail held p vs = failing p (value_at 0 vs)
gives_of basic.Equals held p vs = equals_row p (value_at 0 vs) (value_at 1 vs)
gives_of basic.TryTo held p vs = give (value_at 0 vs)
gives_of basic.Min held p vs = rule_of_value (codes "min") p (value_at 0 vs)
gives_of basic.Max held p vs = rule_of_value (codes "max") p (value_at 0 vs)
gives_of basic.MinLen held p vs = rule_of_number (codes "min_len") p (value_at 0 vs)
gives_of basic.MaxLen held p vs = rule_of_number (codes "max_len") p (value_at 0 vs)
gives_of basic.NotNull held p vs = give (checking (codes "not_null") [])
gives_of basic.Check held p vs = rule_checked (rule_parts (value_at 0 held)) p (value_at 0 vs)
gives_of basic.Replace held p vs = replace p (value_at 0 vs)

-- what it gives for its arguments
abbrev pub bound_of : Basic → (held : List Value) → Own Here
bound_of b held p args = taking (needed_of b) [] (gives_of b held) p args

abbrev pub value_row : Basic → (held : List Value) → Own Here
value_row basic.Make held p args = structs.make p args
value_row b held p args = bound_of b held p args

-- `try_to` asks for a call of what can be called
abbrev pub asked_call : Place → Value → Computation Here Reply
asked_call p f = need kind.ValueKind p (is_callable f) >>= λ u. give (call_then f (arguments no_values no_fields) 0)

-- what comes of its value
abbrev pub replied : Basic → Place → Value → Computation Here Reply
replied basic.TryTo p v = asked_call p v
replied b p v = give (answer v)

-- ---- what rules say

abbrev pub not_below : Name → Place → (of value : Value) → Computation Here Value
not_below x p n v = comparison p v n >>= λ c. unless_not p x (not (is_below c))

abbrev pub not_above : Name → Place → (of value : Value) → Computation Here Value
not_above x p n v = comparison p v n >>= λ c. unless_not p x (not (is_above c))

abbrev pub not_null : Name → Place → Value → Computation Here Value
not_null x p v = paid_operation p (v ∷ []) 0 0 (unless_not p x (not (is_none v)))

-- a length, after the cost of what has it
abbrev pub length_paid : Place → Value → Computation Here ℕ
length_paid p v = do
  n ← reads (λ store. length_in store v) >>= or_fail kind.ValueKind p
  paid_operation p (v ∷ []) 0 0 (give n)
