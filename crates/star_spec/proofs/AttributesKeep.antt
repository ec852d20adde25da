-- What attributes give is what the program holds.
use Rattle.std.proofs.Common.{◌≡◌, Bool, true, false, ◌&&◌, ◌||◌, if◌then◌else◌, is_some, List, [], ◌∷◌, Option, Some, None, IsUtf8, bytes_eq, codes, refl, sym, subst}
use Rattle.std.proofs.lemmas.Bool.{and_parts}
use Rattle.std.proofs.lemmas.Slice.Eq.{bytes_eq-Decides}
use Rattle.ytt_base.specs.declared.fault.FaultKind.TheVariants as kind
use Rattle.ytt_base.specs.declared.fault.Place.{Place}
use Rattle.builtin_spec.specs.Attributes.{attribute_of, attribute_row, is_dict_method, is_list_method, is_text_method, method_if, or_missing}
use Rattle.builtin_spec.specs.Binding.{Own, own_in}
use Rattle.builtin_spec.specs.Dicts.{dict_methods}
use Rattle.builtin_spec.specs.Lists.{list_methods}
use Rattle.code_spec.specs.Code.{Name}
use Rattle.code_spec.specs.Names.{is_among}
use Rattle.star_spec.specs.Held.{HeldValue}
use Rattle.text_spec.specs.Methods.{Method, method_in, text_methods}
use Rattle.value_spec.specs.Values.{Value, text_value, struct_value, list_value, dict_value, module_value}
use Rattle.star_spec.proofs.BindingsKeep.{field_held}
use Rattle.star_spec.proofs.Keeping.{IfFound, Keeps, keeps_give, keeps_fail}
use Rattle.star_spec.proofs.TextsKeep.{all_low, low_utf8}

-- ---- names of the language

-- each name of a table is of bytes of ASCII
abbrev low_names : {A : Type 0} → List (Name × A) → Bool
low_names [] = true
low_names (m ∷ ms) = all_low m.0 && low_names ms

equal_utf8 : (x y : Name) → all_low y ≡ true → bytes_eq x y ≡ true → IsUtf8 x
equal_utf8 x y l same = subst IsUtf8 (sym ((bytes_eq-Decides x y).0 same)) (low_utf8 y l)

either_utf8 : (x : Name) (a b : Bool) → (a ≡ true → IsUtf8 x) → (b ≡ true → IsUtf8 x) → (a || b) ≡ true → IsUtf8 x
either_utf8 x true b u w e = u refl
either_utf8 x false b u w e = w e

-- a name that is among names of ASCII
abbrev are_low : List Name → Bool
are_low [] = true
are_low (x ∷ xs) = all_low x && are_low xs

pub among_utf8 : (x : Name) (xs : List Name) → are_low xs ≡ true → is_among x xs ≡ true → IsUtf8 x
among_utf8 x [] l e = cc
among_utf8 x (y ∷ ys) l e = let p = and_parts (all_low y) (are_low ys) l in either_utf8 x (bytes_eq x y) (is_among x ys) (equal_utf8 x y p.0) (among_utf8 x ys p.1) e

-- a name that is this one, or one of those behind it in a table
next_utf8 : {A : Type 0} (x y : Name) (a : A) (o : Option A) → all_low y ≡ true → (is_some o ≡ true → IsUtf8 x) → is_some (if bytes_eq x y then Some a else o) ≡ true → IsUtf8 x
next_utf8 x y a o l more e = by (bytes_eq x y) refl e where
  by : (h : Bool) → bytes_eq x y ≡ h → is_some (if h then Some a else o) ≡ true → IsUtf8 x
  by true same e = equal_utf8 x y l same
  by false same e = more e

own_utf8 : {H : Type 0} (x : Name) (fs : List (Name × Own H)) → low_names fs ≡ true → is_some (own_in x fs) ≡ true → IsUtf8 x
own_utf8 x [] l e = cc
own_utf8 x (f ∷ fs) l e = let p = and_parts (all_low f.0) (low_names fs) l in next_utf8 x f.0 f.1 (own_in x fs) p.0 (own_utf8 x fs p.1) e

method_utf8 : (x : Name) (ms : List (Name × Method)) → low_names ms ≡ true → is_some (method_in x ms) ≡ true → IsUtf8 x
method_utf8 x [] l e = cc
method_utf8 x (m ∷ ms) l e = let p = and_parts (all_low m.0) (low_names ms) l in next_utf8 x m.0 m.1 (method_in x ms) p.0 (method_utf8 x ms p.1) e

text_utf8 : (x : Name) → is_text_method x ≡ true → IsUtf8 x
text_utf8 x = either_utf8 x _ _ (equal_utf8 x (codes "format") refl) (method_utf8 x text_methods refl)

dict_utf8 : (x : Name) → is_dict_method x ≡ true → IsUtf8 x
dict_utf8 x = own_utf8 {H = Unit {0}} x (dict_methods 0) refl

-- ---- attributes

method_held : (b : Bool) (x : Name) (v : Value) → (b ≡ true → IsUtf8 x) → HeldValue v → IfFound HeldValue (method_if b x v)
method_held true x v u h = (u refl, h)
method_held false x v u h = tt

pub attribute_held : (v : Value) (x : Name) → HeldValue v → IfFound HeldValue (attribute_of v x)
attribute_held (struct_value fs) x h = field_held x fs h.0
attribute_held (module_value m fs) x h = field_held x fs h.1
attribute_held (text_value t) x h = method_held (is_text_method x) x (text_value t) (text_utf8 x) h
attribute_held (list_value r) x h = method_held (is_list_method x) x (list_value r) (own_utf8 {H = Unit {0}} x (list_methods 0) refl) h
attribute_held (dict_value r) x h = method_held (is_dict_method x) x (dict_value r) (dict_utf8 x) h
attribute_held _ x h = tt

missing_keeps : {H : Type 0} (p : Place) (x : Name) (o : Option Value) → IfFound HeldValue o → Keeps {H = H} HeldValue (or_missing p x o)
missing_keeps p x None h = keeps_fail kind.KeyMissing p x
missing_keeps p x (Some v) h = keeps_give v h

pub attribute_keeps : {H : Type 0} (p : Place) (v : Value) (x : Name) → HeldValue v → Keeps {H = H} HeldValue (attribute_row p v x)
attribute_keeps p v x h = missing_keeps p x (attribute_of v x) (attribute_held v x h)
