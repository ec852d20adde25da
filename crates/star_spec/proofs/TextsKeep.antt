-- The texts that values are shown as, and those that `%` and `format` make, are in UTF-8 where the program holds what they are
-- made of.
use Rattle.std.proofs.Common.{◌≡◌, ℤ, pos, negsuc, ℕ, zero, suc, ◌+◌, ◌/◌, ◌%◌, ◌≤◌, ◌<◌, nat_lt, ◌==◌, Bool, true, false, ◌&&◌, ◌||◌, if◌then◌else◌, List, [], ◌∷◌, ◌++◌, length, map as each, Option, Some, None, IsUtf8, IsAscii, refl, sym, subst, arith, codes, ltb-true}
use Rattle.std.proofs.lemmas.Bool.{and_parts}
use Rattle.std.proofs.lemmas.Bool.Decides.{nat_tests}
use Rattle.std.proofs.lemmas.Str.{IsUtf8-append, IsUtf8-from_ascii, IsUtf8-nil}
use Rattle.std.proofs.lemmas.Str.Ascii.{IsAscii-cons, IsAscii-nil}
use Rattle.std.proofs.Math.Nat.{mod-lt}
use Rattle.std.specs.Fmt.{digit_glyph, digits, digits_onto}
use Rattle.ytt_base.specs.Trees.{max_depth, same_integer}
use Rattle.ytt_base.specs.declared.fault.FaultKind.TheVariants as kind
use Rattle.ytt_base.specs.declared.fault.Place.{Place}
use Rattle.code_spec.specs.Code.{Name}
use Rattle.index_spec.specs.KeyTexts.{bool_text, hex_digit, integer_text, quoted, quoted_byte, quoted_bytes}
use Rattle.operator_spec.specs.Equality.{native_name}
use Rattle.star_spec.specs.Held.{HeldValue, HeldFields, HeldList, HeldPairs}
use Rattle.text_spec.specs.Shown.{Inside, all_shown, field_shown, function_text, inside_at, more_shown, named_text, pair_shown, range_text, repr_of, shown_by, step_text, str_of, tuple_end, within}
use Rattle.value_spec.specs.Built.{fragment_body}
use Rattle.value_spec.specs.Keys.{text_cost}
use Rattle.value_spec.specs.Numbers.{range_count}
use Rattle.value_spec.specs.Outcomes.{Computation, paid}
use Rattle.value_spec.specs.Store.{function_at, object_at}
use Rattle.value_spec.specs.Values.{Value, none_value, bool_value, int_value, text_value, tuple_value, range_value, struct_value, fragment_value, list_value, dict_value, function_value, module_value, native_value, Native, builtin, method, host_native, replacement, values_in, Fields, no_fields, a_field, fields_in, Function}
use Rattle.text_spec.proofs.Characters.{AreInner, IsHigh, each_character}
use Rattle.star_spec.proofs.FreshKeeps.{body_keeps}
use Rattle.star_spec.proofs.Keeping.{Keeps, keeps_then, keeps_give, keeps_fail, keeps_paid, keeps_reads, object_held, HeldFunction, function_held}
use Rattle.star_spec.proofs.MembersHeld.{in_values, list_keeps, pairs_keep}

-- ---- bytes of ASCII

abbrev pub all_low : List ℕ → Bool
all_low [] = true
all_low (b ∷ t) = nat_lt b 128 && all_low t

low_ascii : (t : List ℕ) → all_low t ≡ true → IsAscii t
low_ascii [] e = IsAscii-nil
low_ascii (b ∷ t) e = let p = and_parts (nat_lt b 128) (all_low t) e in IsAscii-cons b t (ltb-true b 128 p.0) (low_ascii t p.1)

pub low_utf8 : (t : List ℕ) → all_low t ≡ true → IsUtf8 t
low_utf8 t e = IsUtf8-from_ascii t (low_ascii t e)

pub byte_utf8 : (b : ℕ) (t : List ℕ) → b < 128 → IsUtf8 t → IsUtf8 (b ∷ t)
byte_utf8 b t l u = IsUtf8-append (b ∷ []) t (IsUtf8-from_ascii (b ∷ []) (IsAscii-cons b [] l IsAscii-nil)) u

utf8_if : (h : Bool) (x y : List ℕ) → IsUtf8 x → IsUtf8 y → IsUtf8 (if h then x else y)
utf8_if true x y u w = u
utf8_if false x y u w = w

-- ---- integers

glyph_low : (capitals : Bool) (d : ℕ) → d < 16 → digit_glyph capitals d < 128
glyph_low capitals d l = by (nat_lt d 10) capitals where
  by : (a b : Bool) → (if a then 48 + d else (if b then 55 + d else 87 + d)) < 128
  by true b = omega arith
  by false true = omega arith
  by false false = omega arith

onto_utf8 : (k base : ℕ) (capitals : Bool) (n : ℕ) (more : List ℕ) → 2 ≤ base → base ≤ 16 → IsUtf8 more → IsUtf8 (digits_onto k base capitals n more)
onto_utf8 zero base capitals n more l h u = u
onto_utf8 (suc k) base capitals n more l h u =
    let positive : 0 < base = omega arith in
    let below : n % base < 16 = omega (arith, mod-lt n positive) in
    let next = byte_utf8 (digit_glyph capitals (n % base)) more (glyph_low capitals (n % base) below) u in
    utf8_if (n / base == 0) _ _ next (onto_utf8 k base capitals (n / base) _ l h next)

pub digits_utf8 : (base : ℕ) (capitals : Bool) (n : ℕ) → 2 ≤ base → base ≤ 16 → IsUtf8 (digits base capitals n)
unfolding digits
digits_utf8 base capitals n l h = onto_utf8 64 base capitals n [] l h IsUtf8-nil

pub integer_utf8 : (z : ℤ) → IsUtf8 (integer_text z)
integer_utf8 (pos n) = digits_utf8 10 false n (omega arith) (omega arith)
integer_utf8 (negsuc n) = byte_utf8 45 _ (omega arith) (digits_utf8 10 false (suc n) (omega arith) (omega arith))

-- ---- texts in quotes

hex_low : (n : ℕ) → n < 16 → hex_digit n < 128
hex_low n l = grind (arith, nat_tests)

quoted_low : (b : ℕ) → b < 128 → IsUtf8 (quoted_byte b)
quoted_low b l =
    let itself = byte_utf8 b [] l IsUtf8-nil in
    let last = byte_utf8 (hex_digit (b % 16)) [] (hex_low (b % 16) (omega arith)) IsUtf8-nil in
    let escaped = IsUtf8-append (codes "\\x") _ (low_utf8 (codes "\\x") refl) (byte_utf8 (hex_digit (b / 16)) _ (hex_low (b / 16) (omega arith)) last) in
    utf8_if (b == 34 || b == 92) _ _ (byte_utf8 92 (b ∷ []) (omega arith) itself)
    (utf8_if (b == 10) _ _ (low_utf8 (codes "\\n") refl)
    (utf8_if (b == 9) _ _ (low_utf8 (codes "\\t") refl)
    (utf8_if (b == 13) _ _ (low_utf8 (codes "\\r") refl) (utf8_if (nat_lt b 32 || b == 127) _ _ escaped itself))))

quoted_same : (b : ℕ) → 128 ≤ b → quoted_byte b ≡ b ∷ []
quoted_same b h = grind (arith, nat_tests)

quoted_inner : (bs t : List ℕ) → AreInner bs → quoted_bytes (bs ++ t) ≡ bs ++ quoted_bytes t
unfolding AreInner
quoted_inner [] t h = refl
quoted_inner (b ∷ bs) t h = λ i. quoted_same b h.0 i ++ quoted_inner bs t h.2 i

quoted_high : (c t : List ℕ) → IsHigh c → quoted_bytes (c ++ t) ≡ c ++ quoted_bytes t
quoted_high c t h =
    subst (λ x. quoted_bytes (x ++ t) ≡ x ++ quoted_bytes t) (sym h.is) (λ i. quoted_same h.byte (omega (arith, h.lead)) i ++ quoted_inner h.rest t h.inner i)

bytes_utf8 : (t : List ℕ) → IsUtf8 t → IsUtf8 (quoted_bytes t)
bytes_utf8 = each_character (λ t. IsUtf8 (quoted_bytes t)) IsUtf8-nil
    (λ b t l u p. IsUtf8-append (quoted_byte b) (quoted_bytes t) (quoted_low b l) p)
    (λ c t h u w p. subst IsUtf8 (sym (quoted_high c t h)) (IsUtf8-append c (quoted_bytes t) u p))

quoted_utf8 : (t : List ℕ) → IsUtf8 t → IsUtf8 (quoted t)
quoted_utf8 t u = byte_utf8 34 _ (omega arith) (IsUtf8-append (quoted_bytes t) (34 ∷ []) (bytes_utf8 t u) (low_utf8 (34 ∷ []) refl))

-- ---- what values are shown as

-- what each of these gives is in UTF-8
abbrev AllTexts : {H : Type 0} → List (Computation H (List ℕ)) → Type 0
AllTexts [] = Unit {0}
AllTexts (m ∷ ms) = Keeps IsUtf8 m × AllTexts ms

more_keep : {H : Type 0} (ms : List (Computation H (List ℕ))) → AllTexts ms → Keeps IsUtf8 (more_shown ms)
more_keep [] h = keeps_give [] IsUtf8-nil
more_keep (m ∷ ms) h = keeps_then h.0 (λ t u. keeps_then (more_keep ms h.1) (λ more w. keeps_give (codes ", " ++ (t ++ more)) (IsUtf8-append (codes ", ") (t ++ more) (low_utf8 (codes ", ") refl) (IsUtf8-append t more u w))))

all_keep : {H : Type 0} (ms : List (Computation H (List ℕ))) → AllTexts ms → Keeps IsUtf8 (all_shown ms)
all_keep [] h = keeps_give [] IsUtf8-nil
all_keep (m ∷ ms) h = keeps_then h.0 (λ t u. keeps_then (more_keep ms h.1) (λ more w. keeps_give (t ++ more) (IsUtf8-append t more u w)))

within_keeps : {H : Type 0} (a b : List ℕ) {m : Computation H (List ℕ)} → IsUtf8 a → IsUtf8 b → Keeps IsUtf8 m → Keeps IsUtf8 (within a b m)
within_keeps a b u w h = keeps_then h (λ t v. keeps_give (a ++ (t ++ b)) (IsUtf8-append a (t ++ b) u (IsUtf8-append t b v w)))

end_utf8 : (vs : List Value) → IsUtf8 (tuple_end vs)
end_utf8 [] = low_utf8 (codes ")") refl
end_utf8 (v ∷ []) = low_utf8 (codes ",)") refl
end_utf8 (v ∷ w ∷ vs) = low_utf8 (codes ")") refl

bool_utf8 : (b : Bool) → IsUtf8 (bool_text b)
bool_utf8 true = low_utf8 (codes "True") refl
bool_utf8 false = low_utf8 (codes "False") refl

range_utf8 : (a b d : ℤ) → IsUtf8 (range_text a b d)
range_utf8 a b d =
    let comma = low_utf8 (codes ", ") refl in
    let step = utf8_if (same_integer d (pos 1)) [] _ IsUtf8-nil (IsUtf8-append (codes ", ") (integer_text d) comma (integer_utf8 d)) in
    IsUtf8-append (codes "range(") _ (low_utf8 (codes "range(") refl)
    (IsUtf8-append (integer_text a) _ (integer_utf8 a)
    (IsUtf8-append (codes ", ") _ comma (IsUtf8-append (integer_text b) _ (integer_utf8 b) (IsUtf8-append (step_text d) (codes ")") step (low_utf8 (codes ")") refl)))))

named_utf8 : (word : List ℕ) (x : Name) → IsUtf8 word → IsUtf8 x → IsUtf8 (named_text word x)
named_utf8 word x u w =
    IsUtf8-append (codes "<") _ (low_utf8 (codes "<") refl) (IsUtf8-append word _ u (byte_utf8 32 _ (omega arith) (IsUtf8-append x (codes ">") w (low_utf8 (codes ">") refl))))

function_utf8 : (o : Option Function) → HeldFunction o → IsUtf8 (function_text o)
function_utf8 None h = named_utf8 (codes "function") [] (low_utf8 (codes "function") refl) IsUtf8-nil
function_utf8 (Some f) h = named_utf8 (codes "function") f.name (low_utf8 (codes "function") refl) h.0

native_utf8 : (f : Native) → HeldValue (native_value f) → IsUtf8 (native_name f)
native_utf8 (builtin x) h = h
native_utf8 (method x v) h = h.0
native_utf8 (host_native x held) h = h.0
native_utf8 (replacement v) h = low_utf8 (codes "template.replace") refl

record InsideKeeps {H : Type 0} (inside : Inside H) : Type 0 where
  tuple : (vs : List Value) → HeldList vs → Keeps IsUtf8 (inside.tuple vs)
  list : (vs : List Value) → HeldList vs → Keeps IsUtf8 (inside.list vs)
  pairs : (ps : List (Value × Value)) → HeldPairs ps → Keeps IsUtf8 (inside.pairs ps)
  range : (a b d : ℤ) → Keeps IsUtf8 (inside.range a b d)
  fields : (fs : Fields) → HeldFields fs → Keeps IsUtf8 (inside.fields (fields_in fs))

shown_keeps : {H : Type 0} (inside : Inside H) (n : ℕ) (p : Place) (v : Value) → InsideKeeps inside → HeldValue v → Keeps IsUtf8 (shown_by inside n p v)
shown_keeps inside n p none_value i h = keeps_give (codes "None") (low_utf8 (codes "None") refl)
shown_keeps inside n p (bool_value b) i h = keeps_give (bool_text b) (bool_utf8 b)
shown_keeps inside n p (int_value z) i h = keeps_give (integer_text z) (integer_utf8 z)
shown_keeps inside n p (text_value t) i h = keeps_paid (text_cost (length t)) p (keeps_give (quoted t) (quoted_utf8 t h))
shown_keeps inside n p (tuple_value vs) i h = i.tuple (values_in vs) (in_values vs h)
shown_keeps inside n p (list_value r) i h = keeps_then (list_keeps r) (λ vs k. i.list vs k)
shown_keeps inside n p (dict_value r) i h = keeps_then (pairs_keep r) (λ ps k. i.pairs ps k)
shown_keeps inside n p (range_value a b d) i h = i.range a b d
shown_keeps inside n p (struct_value fs) i h = i.fields fs h.0
shown_keeps inside n p (fragment_value k cs) i h = keeps_then (body_keeps p n (fragment_body k cs)) (λ u w. keeps_give (codes "<yamlfragment>") (low_utf8 (codes "<yamlfragment>") refl))
shown_keeps inside n p (function_value r) i h = keeps_reads (λ store. function_text (function_at r store)) (λ store k. function_utf8 (function_at r store) (function_held (object_at r store) (object_held store r k)))
shown_keeps inside n p (module_value x fs) i h = keeps_give (named_text (codes "module") x) (named_utf8 (codes "module") x (low_utf8 (codes "module") refl) h.0)
shown_keeps inside n p (native_value f) i h = keeps_give (named_text (codes "builtin") (native_name f)) (named_utf8 (codes "builtin") (native_name f) (low_utf8 (codes "builtin") refl) (native_utf8 f h))

module _ {H : Type 0} (show : Value → Computation H (List ℕ)) (p : Place) (shows : (v : Value) → HeldValue v → Keeps IsUtf8 (show v)) where
  each_member : (vs : List Value) → HeldList vs → AllTexts (each (λ v. paid p (show v)) vs)
  each_member [] h = tt
  each_member (v ∷ vs) h = (keeps_paid 1 p (shows v h.0), each_member vs h.1)

  each_pair : (ps : List (Value × Value)) → HeldPairs ps → AllTexts (each (pair_shown show p) ps)
  each_pair [] h = tt
  each_pair (q ∷ qs) h = (
    keeps_paid 1 p (keeps_then (shows q.0 h.0) (λ k u. keeps_then (shows q.1 h.1) (λ v w. keeps_give (k ++ (codes ": " ++ v)) (IsUtf8-append k _ u (IsUtf8-append (codes ": ") v (low_utf8 (codes ": ") refl) w))))),
    each_pair qs h.3,
  )

  each_field : (fs : Fields) → HeldFields fs → AllTexts (each (field_shown show p) (fields_in fs))
  each_field no_fields h = tt
  each_field (a_field x v fs) h = (
    keeps_paid 1 p (keeps_paid (text_cost (length x)) p (keeps_then (shows v h.1) (λ t w. keeps_give (x ++ (codes " = " ++ t)) (IsUtf8-append x _ h.0 (IsUtf8-append (codes " = ") t (low_utf8 (codes " = ") refl) w))))),
    each_field fs h.2,
  )

inside_keeps : {H : Type 0} (n : ℕ) (p : Place) → InsideKeeps {H = H} (inside_at n p)
inside_keeps zero p = record {
  tuple = λ vs h. keeps_fail kind.TooDeep p [];
  list = λ vs h. keeps_fail kind.TooDeep p [];
  pairs = λ ps h. keeps_fail kind.TooDeep p [];
  range = λ a b d. keeps_fail kind.TooDeep p [];
  fields = λ fs h. keeps_fail kind.TooDeep p [];
}
inside_keeps (suc n) p =
    let shows : (v : Value) → HeldValue v → Keeps IsUtf8 (shown_by (inside_at n p) n p v) = λ v h. shown_keeps (inside_at n p) n p v (inside_keeps n p) h in
    record {
      tuple = λ vs h. within_keeps (codes "(") (tuple_end vs) (low_utf8 (codes "(") refl) (end_utf8 vs) (all_keep _ (each_member (shown_by (inside_at n p) n p) p shows vs h));
      list = λ vs h. within_keeps (codes "[") (codes "]") (low_utf8 (codes "[") refl) (low_utf8 (codes "]") refl) (all_keep _ (each_member (shown_by (inside_at n p) n p) p shows vs h));
      pairs = λ ps h. within_keeps (codes "{") (codes "}") (low_utf8 (codes "{") refl) (low_utf8 (codes "}") refl) (all_keep _ (each_pair (shown_by (inside_at n p) n p) p shows ps h));
      range = λ a b d. keeps_paid (range_count a b d) p (keeps_give (range_text a b d) (range_utf8 a b d));
      fields = λ fs h. within_keeps (codes "struct(") (codes ")") (low_utf8 (codes "struct(") refl) (low_utf8 (codes ")") refl) (all_keep _ (each_field (shown_by (inside_at n p) n p) p shows fs h));
    }

pub repr_keeps : {H : Type 0} (p : Place) (v : Value) → HeldValue v → Keeps {H = H} IsUtf8 (repr_of p v)
repr_keeps p v h = shown_keeps (inside_at max_depth p) max_depth p v (inside_keeps max_depth p) h

pub str_keeps : {H : Type 0} (p : Place) (v : Value) → HeldValue v → Keeps {H = H} IsUtf8 (str_of p v)
str_keeps p (text_value t) h = keeps_paid (text_cost (length t)) p (keeps_give t h)
str_keeps p v h = repr_keeps p v h
