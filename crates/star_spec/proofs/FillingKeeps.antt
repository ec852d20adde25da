-- What `%` and `format` make of a text in UTF-8 is in UTF-8, where the program holds the values that it is filled with.
use Rattle.std.proofs.Common.{◌≡◌, ℤ, pos, negsuc, ℕ, suc, ◌≤◌, ◌<◌, nat_le, ◌==◌, Bool, true, false, ◌&&◌, ◌||◌, not, if◌then◌else◌, List, [], ◌∷◌, ◌++◌, length, slice_get, Option, Some, None, IsUtf8, refl, sym, ap, subst, arith, ◌∙◌}
use Rattle.std.proofs.lemmas.Bool.{eqb-true}
use Rattle.std.proofs.lemmas.Bool.Decides.{nat_tests}
use Rattle.std.proofs.lemmas.Str.{IsUtf8-append, IsUtf8-nil}
use Rattle.ytt_base.specs.declared.fault.FaultKind.TheVariants as kind
use Rattle.ytt_base.specs.declared.fault.Place.{Place}
use Rattle.star_spec.specs.Held.{HeldValue, HeldValues, HeldFields, HeldList, HeldArguments}
use Rattle.text_spec.specs.Answers.{paid_operation, operation_cost}
use Rattle.text_spec.specs.Fields.{Met, none_met, by_turn, by_number, Which, next_one, numbered, named, no_which, Field, argument_for, at_place, begins, cut_at, field_filled, field_in, format, formatted, found, is_shown, onto_first, opened, values_of_fields}
use Rattle.text_spec.specs.Percent.{Conversion, by_str, by_repr, by_decimal, by_base, percent_sign, of_float, no_conversion, at_end, by_conversion, by_next, conversion_of, converted, filled, in_base, integer_by, percent_row, text_before, values_for}
use Rattle.value_spec.specs.Binding.{field_of, has_twice}
use Rattle.value_spec.specs.Outcomes.{Computation, fail, fail_with}
use Rattle.value_spec.specs.Values.{Value, int_value, text_value, tuple_value, Values, values_in, Fields, Arguments, arguments}
use Rattle.index_spec.specs.KeyTexts.{integer_text}
use Rattle.text_spec.proofs.Characters.{AreInner, IsHigh, each_character}
use Rattle.text_spec.proofs.Filling.{AllPass, is_no_brace, is_plain, one_filled, one_formatted}
use Rattle.star_spec.proofs.BindingsKeep.{field_held}
use Rattle.star_spec.proofs.Keeping.{IfFound, Keeps, Anything, keeps_then, keeps_give, keeps_fail, keeps_need, keeps_paid, keeps_if, keeps_reads, keeps_weaker, needed}
use Rattle.star_spec.proofs.MembersHeld.{in_values, member_held}
use Rattle.star_spec.proofs.TextsKeep.{byte_utf8, digits_utf8, integer_utf8, repr_keeps, str_keeps}

-- ---- characters, and what stands behind bytes of ASCII

-- each byte is beyond ASCII
abbrev AreBeyond : List ℕ → Type 0
AreBeyond [] = Unit {0}
AreBeyond (b ∷ t) = (128 ≤ b) × AreBeyond t

inner_beyond : (t : List ℕ) → AreInner t → AreBeyond t
unfolding AreInner
inner_beyond [] h = tt
inner_beyond (b ∷ t) h = (h.0, inner_beyond t h.2)

high_beyond : (c : List ℕ) → IsHigh c → AreBeyond c
high_beyond c h = subst AreBeyond (sym h.is) (omega (arith, h.lead), inner_beyond h.rest h.inner)

-- what holds of each text that stands behind a byte of ASCII of this one
abbrev Behind : (List ℕ → Type 0) → List ℕ → Type 0
Behind P t = (a : List ℕ) (x : ℕ) (b : List ℕ) → t ≡ a ++ x ∷ b → x < 128 → P b

behind_low : (P : List ℕ → Type 0) (y : ℕ) (t : List ℕ) → P t → Behind P t → Behind P (y ∷ t)
behind_low P y t here later [] x b e l = let same : t ≡ b = cc in subst P same here
behind_low P y t here later (z ∷ a) x b e l = let rest : t ≡ a ++ x ∷ b = cc in later a x b rest l

behind_high : (P : List ℕ → Type 0) (c t : List ℕ) → AreBeyond c → Behind P t → Behind P (c ++ t)
behind_high P [] t h later a x b e l = later a x b e l
behind_high P (y ∷ c) t h later [] x b e l = let same : y ≡ x = cc in absurd (omega (arith, h.0, l, same))
behind_high P (y ∷ c) t h later (z ∷ a) x b e l = let rest : c ++ t ≡ a ++ x ∷ b = cc in behind_high P c t h.1 later a x b rest l

-- what holds of a text holds with a byte of ASCII before it, where it holds of all that stands behind such bytes
module _ (P : List ℕ → Type 0) (none : P []) (low : (b : ℕ) (t : List ℕ) → b < 128 → P t → Behind P t → P (b ∷ t)) (past : (c t : List ℕ) → AreBeyond c → IsUtf8 c → P t → P (c ++ t)) where
  abbrev WithBehind : List ℕ → Type 0
  WithBehind t = P t × Behind P t

  none_behind : Behind P []
  none_behind [] x b e l = cc
  none_behind (z ∷ a) x b e l = cc

  by_characters : (t : List ℕ) → IsUtf8 t → P t
  by_characters t u = (each_character WithBehind (none, none_behind)
      (λ b t l u p. (low b t l p.0 p.1, behind_low P b t p.0 p.1))
      (λ c t h u w p. (past c t (high_beyond c h) u p.0, behind_high P c t (high_beyond c h) p.1)) t u).0

-- ---- conversions

pub paid_keeps : {H A : Type 0} {P : A → Type 0} {m : Computation H A} (p : Place) (vs : List Value) (bytes members : ℕ) → Keeps P m → Keeps P (paid_operation p vs bytes members m)
paid_keeps p vs bytes members h = keeps_then {P = Anything} (keeps_reads (operation_cost vs bytes members) (λ store k. tt)) (λ n u. keeps_paid n p h)

integer_keeps : {H : Type 0} (f : ℤ → List ℕ) (p : Place) (v : Value) → ((z : ℤ) → IsUtf8 (f z)) → Keeps {H = H} IsUtf8 (integer_by f p v)
integer_keeps f p (int_value z) u = keeps_give (f z) (u z)
integer_keeps f p v u = keeps_fail kind.ValueKind p []

based_utf8 : (base : ℕ) (capitals : Bool) (z : ℤ) → 2 ≤ base → base ≤ 16 → IsUtf8 (in_base base capitals z)
based_utf8 base capitals (pos n) l h = digits_utf8 base capitals n l h
based_utf8 base capitals (negsuc n) l h = byte_utf8 45 _ (omega arith) (digits_utf8 base capitals (suc n) l h)

-- the bases that conversions have
abbrev Writes : Conversion → Type 0
Writes (by_base base capitals) = (2 ≤ base) × (base ≤ 16)
Writes _ = Unit {0}

converted_keeps : {H : Type 0} (p : Place) (c : Conversion) (v : Value) → Writes c → HeldValue v → Keeps {H = H} IsUtf8 (converted p c v)
converted_keeps p by_str v w h = str_keeps p v h
converted_keeps p by_repr v w h = repr_keeps p v h
converted_keeps p by_decimal v w h = integer_keeps integer_text p v integer_utf8
converted_keeps p (by_base base capitals) v w h = integer_keeps (in_base base capitals) p v (λ z. based_utf8 base capitals z w.0 w.1)
converted_keeps p percent_sign v w h = keeps_fail kind.ValueKind p []
converted_keeps p of_float v w h = keeps_fail kind.ValueKind p []
converted_keeps p no_conversion v w h = keeps_fail kind.ValueKind p []

before_keeps : {H : Type 0} (t : List ℕ) {m : Computation H (List ℕ)} → IsUtf8 t → Keeps IsUtf8 m → Keeps IsUtf8 (text_before t m)
before_keeps t u h = keeps_then h (λ more w. keeps_give (t ++ more) (IsUtf8-append t more u w))

-- ---- `%`

conversion_if : (P : Conversion → Type 0) (h : Bool) (c d : Conversion) → (h ≡ true → P c) → (h ≡ false → P d) → P (if h then c else d)
conversion_if P true c d u w = u refl
conversion_if P false c d u w = w refl

-- a byte that writes a conversion is of ASCII
abbrev Known : ℕ → Conversion → Type 0
Known b no_conversion = Unit {0}
Known b c = Writes c × (b < 128)

known : (b : ℕ) → Known b (conversion_of b)
known b =
    let this : (n : ℕ) → n < 128 → (b == n) ≡ true → b < 128 = λ n l e. let same = eqb-true b n e in omega (arith, l, same) in
    conversion_if (Known b) (b == 37) _ _ (λ e. (tt, this 37 (omega arith) e))
    (λ e. conversion_if (Known b) (b == 115) _ _ (λ e. (tt, this 115 (omega arith) e))
    (λ e. conversion_if (Known b) (b == 114) _ _ (λ e. (tt, this 114 (omega arith) e))
    (λ e. conversion_if (Known b) (b == 100) _ _ (λ e. (tt, this 100 (omega arith) e))
    (λ e. conversion_if (Known b) (b == 120) _ _ (λ e. ((omega arith, omega arith), this 120 (omega arith) e))
    (λ e. conversion_if (Known b) (b == 88) _ _ (λ e. ((omega arith, omega arith), this 88 (omega arith) e))
    (λ e. conversion_if (Known b) (b == 111) _ _ (λ e. ((omega arith, omega arith), this 111 (omega arith) e))
    (λ e. conversion_if (Known b) (nat_le 101 b && nat_le b 103) _ _ (λ e. (tt, grind (arith, nat_tests))) (λ e. tt))))))))

-- what is made of this text, whichever values are left
abbrev Fills : (H : Type 0) → Place → List ℕ → Type 0
Fills H p t = (vs : List Value) → HeldList vs → Keeps {H = H} IsUtf8 (filled p t vs)

end_keeps : {H : Type 0} (p : Place) (vs : List Value) → Keeps {H = H} IsUtf8 (at_end p vs)
end_keeps p [] = keeps_give [] IsUtf8-nil
end_keeps p (v ∷ vs) = keeps_fail kind.ValueKind p []

next_keeps : {H : Type 0} (p : Place) (c : Conversion) (vs : List Value) (k : List Value → Computation H (List ℕ)) → Writes c → HeldList vs → ((ws : List Value) → HeldList ws → Keeps IsUtf8 (k ws)) → Keeps IsUtf8 (by_next p c vs k)
next_keeps p c [] k w h m = keeps_fail kind.ValueKind p []
next_keeps p c (v ∷ vs) k w h m = keeps_then (converted_keeps p c v w h.0) (λ t u. before_keeps t u (m vs h.1))

conversion_keeps : {H : Type 0} (p : Place) (b : ℕ) (c : Conversion) (vs : List Value) (k : List Value → Computation H (List ℕ)) → Known b c → HeldList vs → (b < 128 → (ws : List Value) → HeldList ws → Keeps IsUtf8 (k ws)) → Keeps IsUtf8 (by_conversion p c vs k)
conversion_keeps p b by_str vs k w h m = next_keeps p by_str vs k w.0 h (m w.1)
conversion_keeps p b by_repr vs k w h m = next_keeps p by_repr vs k w.0 h (m w.1)
conversion_keeps p b by_decimal vs k w h m = next_keeps p by_decimal vs k w.0 h (m w.1)
conversion_keeps p b (by_base base capitals) vs k w h m = next_keeps p (by_base base capitals) vs k w.0 h (m w.1)
conversion_keeps p b percent_sign vs k w h m = before_keeps (37 ∷ []) (byte_utf8 37 [] (omega arith) IsUtf8-nil) (m w.1 vs h)
conversion_keeps p b of_float vs k w h m = keeps_fail kind.FloatRefused p []
conversion_keeps p b no_conversion vs k w h m = keeps_fail kind.ValueKind p []

-- each byte that is none of ASCII stands for itself
beyond_plain : (c : List ℕ) → AreBeyond c → AllPass is_plain c
beyond_plain [] h = tt
beyond_plain (b ∷ c) h = (grind (arith, nat_tests, h.0), beyond_plain c h.1)

beyond_no_brace : (c : List ℕ) → AreBeyond c → AllPass is_no_brace c
beyond_no_brace [] h = tt
beyond_no_brace (b ∷ c) h = (grind (arith, nat_tests, h.0), beyond_no_brace c h.1)

-- what is made of a text that such bytes stand before
plain_keeps : {H : Type 0} (P : List ℕ → Type 0) (p : Place) (a t : List ℕ) (vs : List Value) → AllPass is_plain a → Keeps {H = H} (λ r. P (a ++ r)) (filled p t vs) → Keeps {H = H} P (filled p (a ++ t) vs)
plain_keeps P p [] t vs h k = k
plain_keeps {H = H} P p (b ∷ a) t vs h k =
    subst (Keeps {H = H} P) (sym (one_filled p b (a ++ t) vs h.0)) (keeps_then (plain_keeps (λ r. P (b ∷ r)) p a t vs h.1 k) (λ r g. keeps_give (b ∷ r) g))

fills_past : {H : Type 0} (p : Place) (c t : List ℕ) → AllPass is_plain c → IsUtf8 c → Fills H p t → Fills H p (c ++ t)
fills_past p c t h u k vs g = plain_keeps IsUtf8 p c t vs h (keeps_weaker (λ r w. IsUtf8-append c r u w) (k vs g))

-- behind `%` stands a conversion
fills_sign : {H : Type 0} (p : Place) (t : List ℕ) → Behind (Fills H p) t → Fills H p (37 ∷ t)
fills_sign p [] later vs h = keeps_fail kind.ValueKind p []
fills_sign p (c ∷ t) later vs h = conversion_keeps p c (conversion_of c) vs (filled p t) (known c) h (λ l. later [] c t refl l)

fills_low : {H : Type 0} (p : Place) (b : ℕ) (t : List ℕ) → b < 128 → Fills H p t → Behind (Fills H p) t → Fills H p (b ∷ t)
fills_low {H = H} p b t l here later = by (b == 37) refl where
  by : (h : Bool) → (b == 37) ≡ h → Fills H p (b ∷ t)
  by true e = let same = eqb-true b 37 e in subst (λ x. Fills H p (x ∷ t)) (sym same) (fills_sign p t later)
  by false e = fills_past p (b ∷ []) t (ap not e, tt) (byte_utf8 b [] l IsUtf8-nil) here

filled_keeps : {H : Type 0} (p : Place) (t : List ℕ) → IsUtf8 t → Fills H p t
filled_keeps {H = H} p t u = by_characters (Fills H p) (λ vs h. end_keeps p vs) (fills_low p) (λ c t h u k. fills_past p c t (beyond_plain c h) u k) t u

values_held : (v : Value) → HeldValue v → HeldList (values_for v)
values_held (tuple_value vs) h = in_values vs h
values_held v h = (h, tt)

pub percent_keeps : {H : Type 0} (p : Place) (t : List ℕ) (v : Value) → IsUtf8 t → HeldValue v → Keeps {H = H} HeldValue (percent_row p t v)
percent_keeps p t v u h =
    keeps_then (filled_keeps p t u (values_for v) (values_held v h)) (λ r w. paid_keeps p (text_value t ∷ v ∷ []) (length r) 0 (keeps_give (text_value r) w))

-- ---- `format`

-- a text that is filled, with the kinds of fields that were met
abbrev FirstUtf8 : List ℕ × Met → Type 0
FirstUtf8 r = IsUtf8 r.0

abbrev FirstHeld : Value × Met → Type 0
FirstHeld r = HeldValue r.0

found_keeps : {H : Type 0} (otherwise : Computation H (Value × Met)) (o : Option Value) (met : Met) → IfFound HeldValue o → Keeps FirstHeld otherwise → Keeps FirstHeld (found otherwise o met)
found_keeps otherwise None met h k = k
found_keeps otherwise (Some v) met h k = keeps_give (v, met) h

-- a text is cut at the first such byte
cut_is : (x : ℕ) (t : List ℕ) (q : List ℕ × List ℕ) → cut_at x t ≡ Some q → t ≡ q.0 ++ x ∷ q.1
cut_is x [] q e = cc
cut_is x (b ∷ t) q e = by (b == x) (cut_at x t) refl (cut_is x t) refl e where
  by : (h : Bool) (o : Option (List ℕ × List ℕ)) → (b == x) ≡ h → ((r : List ℕ × List ℕ) → cut_at x t ≡ Some r → t ≡ r.0 ++ x ∷ r.1) → cut_at x t ≡ o → (if h then Some ([], t) else onto_first b o) ≡ Some q → b ∷ t ≡ q.0 ++ x ∷ q.1
  by true o e more same is = let here : ([], t) ≡ q = cc in subst (λ r. b ∷ t ≡ r.0 ++ x ∷ r.1) here (λ i. eqb-true b x e i ∷ t)
  by false None e more same is = cc
  by false (Some r) e more same is = let here : (b ∷ r.0, r.1) ≡ q = cc in subst (λ r. b ∷ t ≡ r.0 ++ x ∷ r.1) here (λ i. b ∷ more r same i)

-- a conversion of no integer has no base
shown_writes : (c : Conversion) → is_shown c ≡ true → Writes c
shown_writes (by_base base capitals) e = cc
shown_writes c e = tt

module _ (H : Type 0) (p : Place) (vs : Values) (fs : Fields) (values : HeldValues vs) (fields : HeldFields fs) where
  place_keeps : (n : ℕ) (met : Met) → Keeps {H = H} FirstHeld (at_place p n met (values_in vs))
  place_keeps n met = found_keeps (fail kind.IndexRange p) (slice_get (values_in vs) n) met (member_held (values_in vs) n (in_values vs values)) (keeps_fail kind.IndexRange p [])

  argument_keeps : (met : Met) (w : Which) → Keeps {H = H} FirstHeld (argument_for p vs fs met w)
  argument_keeps none_met next_one = place_keeps 0 (by_turn 1)
  argument_keeps (by_turn n) next_one = place_keeps n (by_turn (suc n))
  argument_keeps by_number next_one = keeps_fail kind.ValueKind p []
  argument_keeps none_met (numbered k) = place_keeps k by_number
  argument_keeps (by_turn n) (numbered k) = keeps_fail kind.ValueKind p []
  argument_keeps by_number (numbered k) = place_keeps k by_number
  argument_keeps met (named x) = found_keeps (fail_with kind.KeyMissing p x) (field_of x fs) met (field_held x fs fields) (keeps_fail kind.KeyMissing p x)
  argument_keeps met no_which = keeps_fail kind.ValueKind p []

  field_keeps : (met : Met) (f : Field) → Keeps {H = H} FirstUtf8 (field_filled p vs fs met f)
  field_keeps met f =
      keeps_then (needed kind.ValueKind p (is_shown f.conversion)) (λ u e. keeps_then (argument_keeps met f.which) (λ v h. keeps_then (converted_keeps p f.conversion v.0 (shown_writes f.conversion e) h) (λ t w. keeps_give (t, v.1) w)))

  -- what is made of this text, whichever kinds of fields were met
  abbrev Formats : List ℕ → Type 0
  Formats t = (met : Met) → Keeps {H = H} IsUtf8 (formatted p vs fs met 0 t)

  skipped : (met : Met) (a : List ℕ) (x : ℕ) (t : List ℕ) → formatted {H = H} p vs fs met (suc (length a)) (a ++ x ∷ t) ≡ formatted p vs fs met 0 t
  skipped met [] x t = refl
  skipped met (b ∷ a) x t = skipped met a x t

  opened_keeps : (met : Met) (t : List ℕ) (o : Option (List ℕ × List ℕ)) → ((q : List ℕ × List ℕ) → o ≡ Some q → t ≡ q.0 ++ 125 ∷ q.1) → Behind Formats t → Keeps {H = H} IsUtf8 (opened p vs fs met o (λ m k. formatted p vs fs m k t))
  opened_keeps met t None is later = keeps_fail kind.ValueKind p []
  opened_keeps met t (Some q) is later =
      let parts = is q refl in
      keeps_then (field_keeps met (field_in q.0)) (λ r u. before_keeps r.0 u (subst (λ m. Keeps {H = H} IsUtf8 m)
      (sym (ap (λ x. formatted p vs fs r.1 (suc (length q.0)) x) parts ∙ skipped r.1 q.0 125 q.1)) (later q.0 125 q.1 parts (omega arith) r.1)))

  run_keeps : (P : List ℕ → Type 0) (met : Met) (a t : List ℕ) → AllPass is_no_brace a → Keeps {H = H} (λ r. P (a ++ r)) (formatted p vs fs met 0 t) → Keeps {H = H} P (formatted p vs fs met 0 (a ++ t))
  run_keeps P met [] t h k = k
  run_keeps P met (b ∷ a) t h k =
      subst (Keeps {H = H} P) (sym (one_formatted p vs fs met b (a ++ t) h.0)) (keeps_then (run_keeps (λ r. P (b ∷ r)) met a t h.1 k) (λ r g. keeps_give (b ∷ r) g))

  formats_past : (c t : List ℕ) → AllPass is_no_brace c → IsUtf8 c → Formats t → Formats (c ++ t)
  formats_past c t h u k met = run_keeps IsUtf8 met c t h (keeps_weaker (λ r w. IsUtf8-append c r u w) (k met))

  -- two braces of a kind are one
  doubled_keeps : (met : Met) (b : ℕ) (t : List ℕ) → b < 128 → begins b t ≡ true → Behind Formats t → Keeps {H = H} IsUtf8 (text_before (b ∷ []) (formatted p vs fs met 1 t))
  doubled_keeps met b [] l e later = cc
  doubled_keeps met b (c ∷ t) l e later = before_keeps (b ∷ []) (byte_utf8 b [] l IsUtf8-nil) (later [] c t refl (let same = eqb-true b c e in omega (arith, l, same)) met)

  formats_low : (b : ℕ) (t : List ℕ) → b < 128 → Formats t → Behind Formats t → Formats (b ∷ t)
  formats_low b t l here later met =
      keeps_if (b == 123 || b == 125)
      (λ e. keeps_if (begins b t) (λ e. doubled_keeps met b t l e later) (λ e. keeps_if (b == 125) (λ e. keeps_fail kind.ValueKind p []) (λ e. opened_keeps met t (cut_at 125 t) (cut_is 125 t) later)))
      (λ e. before_keeps (b ∷ []) (byte_utf8 b [] l IsUtf8-nil) (here met))

  formatted_keeps : (t : List ℕ) → IsUtf8 t → Formats t
  formatted_keeps t u = by_characters Formats (λ met. keeps_give [] IsUtf8-nil) formats_low (λ c t h u k. formats_past c t (beyond_no_brace c h) u k) t u

pub format_keeps : {H : Type 0} (p : Place) (t : List ℕ) (vs : Arguments) → IsUtf8 t → HeldArguments vs → Keeps {H = H} HeldValue (format p t vs)
format_keeps p t (arguments vs fs) u h =
    keeps_then (keeps_need kind.ArgBind p (not (has_twice fs))) (λ v g. keeps_then (formatted_keeps _ p vs fs h.0 h.1 t u none_met) (λ r w. paid_keeps p (text_value t ∷ (values_in vs ++ values_of_fields fs)) (length r) 0 (keeps_give (text_value r) w)))
