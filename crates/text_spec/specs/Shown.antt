-- The text that a value is by `repr` and by `str`, which takes its size as steps: 1 for each member before it is shown, and a
-- sixteenth of the bytes of each text.
use Rattle.std.specs.Prelude.{ℕ, zero, suc, ℤ, pos, List, [], ◌∷◌, ◌++◌, length, map as each, Option, Some, None, codes, if◌then◌else◌}
use Rattle.ytt_base.specs.declared.fault.FaultKind.TheVariants as kind
use Rattle.ytt_base.specs.declared.fault.Place.{Place}
use Rattle.ytt_base.specs.Trees.{max_depth, same_integer}
use Rattle.code_spec.specs.Code.{Name}
use Rattle.index_spec.specs.KeyTexts.{bool_text, integer_text, quoted}
use Rattle.operator_spec.specs.Equality.{native_name}
use Rattle.value_spec.specs.Built.{body_paid, fragment_body}
use Rattle.value_spec.specs.Keys.{text_cost}
use Rattle.value_spec.specs.Numbers.{range_count}
use Rattle.value_spec.specs.Outcomes.{Computation, fail, give, paid, paid_by, reads, ◌>>=◌}
use Rattle.value_spec.specs.Store.{function_at, list_at, pairs_at}
use Rattle.value_spec.specs.Values.{Value, none_value, bool_value, int_value, text_value, tuple_value, range_value, struct_value, fragment_value, list_value, dict_value, function_value, module_value, native_value, values_in, fields_in, Function}

-- ---- members

-- texts one behind another, with `, ` before each
abbrev pub more_shown : {H : Type 0} → List (Computation H (List ℕ)) → Computation H (List ℕ)
more_shown [] = give []
more_shown (m ∷ ms) = do
  t ← m
  more ← more_shown ms
  give (codes ", " ++ (t ++ more))

-- with `, ` between them
abbrev pub all_shown : {H : Type 0} → List (Computation H (List ℕ)) → Computation H (List ℕ)
all_shown [] = give []
all_shown (m ∷ ms) = do
  t ← m
  more ← more_shown ms
  give (t ++ more)

-- what stands between an opening and a closing
abbrev pub within : {H : Type 0} → (opening closing : List ℕ) → Computation H (List ℕ) → Computation H (List ℕ)
within a b m = m >>= λ t. give (a ++ (t ++ b))

-- a tuple of one member has a comma behind it
abbrev pub tuple_end : List Value → List ℕ
tuple_end (v ∷ []) = codes ",)"
tuple_end _ = codes ")"

abbrev pub pair_shown : {H : Type 0} → (Value → Computation H (List ℕ)) → Place → Value × Value → Computation H (List ℕ)
pair_shown show p q = paid p (do
  k ← show q.0
  v ← show q.1
  give (k ++ (codes ": " ++ v)))

abbrev pub field_shown : {H : Type 0} → (Value → Computation H (List ℕ)) → Place → Name × Value → Computation H (List ℕ)
field_shown show p q = paid p (paid_by (text_cost (length q.0)) p (show q.1 >>= λ v. give (q.0 ++ (codes " = " ++ v))))

-- the step of a range where it isn't 1
abbrev pub step_text : ℤ → List ℕ
step_text d = if same_integer d (pos 1) then [] else codes ", " ++ integer_text d

abbrev pub range_text : (start stop step : ℤ) → List ℕ
range_text a b d = codes "range(" ++ (integer_text a ++ (codes ", " ++ (integer_text b ++ (step_text d ++ codes ")"))))

-- ---- values

abbrev pub named_text : (word : List ℕ) → Name → List ℕ
named_text word x = codes "<" ++ (word ++ (32 ∷ (x ++ codes ">")))

abbrev pub function_text : Option Function → List ℕ
function_text None = named_text (codes "function") []
function_text (Some f) = named_text (codes "function") f.name

-- how what stands in a value is shown
pub record Inside (H : Type 0) : Type 0 where
  pub tuple : List Value → Computation H (List ℕ)
  pub list : List Value → Computation H (List ℕ)
  pub pairs : List (Value × Value) → Computation H (List ℕ)
  pub range : (start stop step : ℤ) → Computation H (List ℕ)
  pub fields : List (Name × Value) → Computation H (List ℕ)

-- a value, where what stands in it is shown so
abbrev pub shown_by : {H : Type 0} → Inside H → (levels : ℕ) → Place → Value → Computation H (List ℕ)
shown_by inside n p none_value = give (codes "None")
shown_by inside n p (bool_value b) = give (bool_text b)
shown_by inside n p (int_value z) = give (integer_text z)
shown_by inside n p (text_value t) = paid_by (text_cost (length t)) p (give (quoted t))
shown_by inside n p (tuple_value vs) = inside.tuple (values_in vs)
shown_by inside n p (list_value r) = reads (list_at r) >>= inside.list
shown_by inside n p (dict_value r) = reads (pairs_at r) >>= inside.pairs
shown_by inside n p (range_value a b d) = inside.range a b d
shown_by inside n p (struct_value fs) = inside.fields (fields_in fs)
shown_by inside n p (fragment_value k cs) = body_paid p n (fragment_body k cs) >>= λ u. give (codes "<yamlfragment>")
shown_by inside n p (function_value r) = reads (λ store. function_text (function_at r store))
shown_by inside n p (module_value x fs) = give (named_text (codes "module") x)
shown_by inside n p (native_value f) = give (named_text (codes "builtin") (native_name f))

abbrev pub members_shown : {H : Type 0} → (Value → Computation H (List ℕ)) → Place → List Value → Computation H (List ℕ)
members_shown show p vs = all_shown (each (λ v. paid p (show v)) vs)

-- where what stands in values may stand in so many levels
abbrev pub inside_at : {H : Type 0} → (levels : ℕ) → Place → Inside H
inside_at zero p = record {
  tuple = λ vs. fail kind.TooDeep p;
  list = λ vs. fail kind.TooDeep p;
  pairs = λ ps. fail kind.TooDeep p;
  range = λ a b d. fail kind.TooDeep p;
  fields = λ fs. fail kind.TooDeep p;
}
inside_at (suc n) p = record {
  tuple = λ vs. within (codes "(") (tuple_end vs) (members_shown (shown_by (inside_at n p) n p) p vs);
  list = λ vs. within (codes "[") (codes "]") (members_shown (shown_by (inside_at n p) n p) p vs);
  pairs = λ ps. within (codes "{") (codes "}") (all_shown (each (pair_shown (shown_by (inside_at n p) n p) p) ps));
  range = λ a b d. paid_by (range_count a b d) p (give (range_text a b d));
  fields = λ fs. within (codes "struct(") (codes ")") (all_shown (each (field_shown (shown_by (inside_at n p) n p) p) fs));
}

abbrev pub shown : {H : Type 0} → (levels : ℕ) → Place → Value → Computation H (List ℕ)
shown n p v = shown_by (inside_at n p) n p v

abbrev pub repr_of : {H : Type 0} → Place → Value → Computation H (List ℕ)
repr_of p v = shown max_depth p v

-- a text is itself, and all else is as by `repr`
abbrev pub str_of : {H : Type 0} → Place → Value → Computation H (List ℕ)
str_of p (text_value t) = paid_by (text_cost (length t)) p (give t)
str_of p v = repr_of p v
