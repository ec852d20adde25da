-- Going through a text in UTF-8 character by character, and what goes through it byte by byte.
use Rattle.std.proofs.Common.{◌≡◌, ℕ, zero, suc, ◌<◌, ◌≤◌, true, false, Bool, cond, if◌then◌else◌, List, [], ◌∷◌, ◌++◌, IsUtf8, refl, sym, ap, subst, arith, rules, ◌∙◌}
use Rattle.std.specs.Prelude.{nat_lt}
use Rattle.std.proofs.lemmas.Bool.{and_parts, le-ltb, ltb-false, ltb-true}
use Rattle.std.proofs.lemmas.Bool.Decides.{nat_tests}
use Rattle.std.proofs.lemmas.Str.{encode_ascii, IsUtf8-append, IsUtf8-encode, IsUtf8-from_ascii, IsUtf8-nil}
use Rattle.std.proofs.lemmas.Str.Ascii.{IsAscii-cons, IsAscii-nil}
use lib.Utf8.{encode, encodes, scalars, scalar}
use Rattle.index_spec.specs.Index.{is_inner}
use Rattle.text_spec.specs.Classes.{capitalized, characters, lower_byte, lowered, to_front, upper_byte, uppered}
use Rattle.text_spec.specs.Cutting.{cut_at_bounds, cut_behind, joined, pieces_between}
use Rattle.text_spec.proofs.Cuts.{behind_utf8}
use Rattle.text_spec.proofs.Utf8.{AreUtf8, pieces_utf8}

-- each byte stands inside a character
unfoldable pub AreInner : List ℕ → Type 0
AreInner [] = Unit {0}
AreInner (b ∷ bs) = (128 ≤ b) × (b < 192) × AreInner bs

-- a character past ASCII: its first byte, and those inside it
pub record IsHigh (c : List ℕ) : Type 0 where
  pub byte : ℕ
  pub rest : List ℕ
  pub is : c ≡ byte ∷ rest
  pub lead : 192 ≤ byte
  pub inner : AreInner rest

high_if : (h : Bool) (x y : List ℕ) → IsHigh x → IsHigh y → IsHigh (cond h x y)
high_if true x y p q = p
high_if false x y p q = q

high : (b : ℕ) (bs : List ℕ) → 192 ≤ b → AreInner bs → IsHigh (b ∷ bs)
high b bs l i = record { byte = b; rest = bs; is = refl; lead = l; inner = i }

encode_high : (c : ℕ) → 128 ≤ c → IsHigh (encode c)
unfolding encode AreInner
encode_high c h =
    rw (le-ltb c 128 h)
    (high_if (nat_lt c 2048) _ _ (high _ _ (omega arith) (omega arith, omega arith, tt))
    (high_if (nat_lt c 65536) _ _ (high _ _ (omega arith) (omega arith, omega arith, (omega arith, omega arith, tt)))
    (high _ _ (omega arith) (omega arith, omega arith, (omega arith, omega arith, (omega arith, omega arith, tt))))))

-- what holds of the rest of a text holds with a byte of ASCII, and with another character, before it
module _ (P : List ℕ → Type 0) (none : P []) (low : (b : ℕ) (t : List ℕ) → b < 128 → IsUtf8 t → P t → P (b ∷ t)) (past : (c : List ℕ) (t : List ℕ) → IsHigh c → IsUtf8 c → IsUtf8 t → P t → P (c ++ t)) where
  by_scalars : (cs : List ℕ) → scalars cs ≡ true → P (encodes cs)
  by_scalars [] s = none
  by_scalars (c ∷ cs) s =
      let p = and_parts (scalar c) (scalars cs) s in
      by (by_scalars cs p.1) p.0 p.1 (nat_lt c 128) refl where
        by : P (encodes cs) → scalar c ≡ true → scalars cs ≡ true → (h : Bool) → nat_lt c 128 ≡ h → P (encode c ++ encodes cs)
        by more s r true e = rw (encode_ascii c (ltb-true c 128 e)) (low c (encodes cs) (ltb-true c 128 e) (cs, (r, refl)) more)
        by more s r false e = past (encode c) (encodes cs) (encode_high c (ltb-false c 128 e)) (IsUtf8-encode c s) (cs, (r, refl)) more

  pub each_character : (t : List ℕ) → IsUtf8 t → P t
  each_character t u = subst P u.1.1 (by_scalars u.0 u.1.0)

-- ---- letters

one_byte : (b : ℕ) → b < 128 → IsUtf8 (b ∷ [])
one_byte b l = IsUtf8-from_ascii (b ∷ []) (IsAscii-cons b [] l IsAscii-nil)

-- a change of letters that leaves bytes beyond ASCII, and gives bytes of ASCII for such
module _ (f : ℕ → ℕ) (low : (b : ℕ) → b < 128 → f b < 128) (same : (b : ℕ) → 128 ≤ b → f b ≡ b) where
  changed : List ℕ → List ℕ
  changed [] = []
  changed (b ∷ t) = f b ∷ changed t

  changed_inner : (bs t : List ℕ) → AreInner bs → changed (bs ++ t) ≡ bs ++ changed t
  unfolding AreInner changed
  changed_inner [] t h = refl
  changed_inner (b ∷ bs) t h = λ i. same b h.0 i ∷ changed_inner bs t h.2 i

  changed_high : (c t : List ℕ) → IsHigh c → changed (c ++ t) ≡ c ++ changed t
  unfolding changed
  changed_high c t h =
      ap (λ x. changed (x ++ t)) h.is
      ∙ (λ i. same h.byte (search (rules, arith, h.lead)) i ∷ changed_inner h.rest t h.inner i)
      ∙ ap (λ x. x ++ changed t) (sym h.is)

  changed_utf8 : (t : List ℕ) → IsUtf8 t → IsUtf8 (changed t)
  unfolding changed
  changed_utf8 = each_character (λ t. IsUtf8 (changed t)) IsUtf8-nil
      (λ b t l u p. IsUtf8-append (f b ∷ []) (changed t) (one_byte (f b) (low b l)) p)
      (λ c t h u v p. subst IsUtf8 (sym (changed_high c t h)) (IsUtf8-append c (changed t) u p))

lower_low : (b : ℕ) → b < 128 → lower_byte b < 128
lower_low b l = grind (arith, nat_tests)

lower_same : (b : ℕ) → 128 ≤ b → lower_byte b ≡ b
lower_same b h = grind (arith, nat_tests)

upper_low : (b : ℕ) → b < 128 → upper_byte b < 128
upper_low b l = grind (arith, nat_tests)

upper_same : (b : ℕ) → 128 ≤ b → upper_byte b ≡ b
upper_same b h = grind (arith, nat_tests)

lowered_is : (t : List ℕ) → changed lower_byte lower_low lower_same t ≡ lowered t
unfolding changed
lowered_is [] = refl
lowered_is (b ∷ t) = ap (λ x. lower_byte b ∷ x) (lowered_is t)

uppered_is : (t : List ℕ) → changed upper_byte upper_low upper_same t ≡ uppered t
unfolding changed
uppered_is [] = refl
uppered_is (b ∷ t) = ap (λ x. upper_byte b ∷ x) (uppered_is t)

pub lowered_utf8 : (t : List ℕ) → IsUtf8 t → IsUtf8 (lowered t)
lowered_utf8 t u = subst IsUtf8 (lowered_is t) (changed_utf8 lower_byte lower_low lower_same t u)

pub uppered_utf8 : (t : List ℕ) → IsUtf8 t → IsUtf8 (uppered t)
uppered_utf8 t u = subst IsUtf8 (uppered_is t) (changed_utf8 upper_byte upper_low upper_same t u)

pub capitalized_utf8 : (t : List ℕ) → IsUtf8 t → IsUtf8 (capitalized t)
capitalized_utf8 [] u = u
capitalized_utf8 (b ∷ t) u = by (nat_lt b 128) refl where
  by : (h : Bool) → nat_lt b 128 ≡ h → IsUtf8 (upper_byte b ∷ lowered t)
  by true e =
      let l = ltb-true b 128 e in
      IsUtf8-append (upper_byte b ∷ []) (lowered t) (one_byte (upper_byte b) (upper_low b l)) (lowered_utf8 t (behind_utf8 (b ∷ []) t (one_byte b l) u))
  by false e =
      let h = ltb-false b 128 e in
      subst (λ x. IsUtf8 (x ∷ lowered t)) (lower_same b h ∙ sym (upper_same b h)) (lowered_utf8 (b ∷ t) u)

-- ---- characters

-- the first of them begins with a byte that stands inside none
unfoldable pub AreWhole : List (List ℕ) → Type 0
AreWhole [] = Unit {0}
AreWhole ([] ∷ cs) = ⊥
AreWhole ((x ∷ c) ∷ cs) = is_inner x ≡ false

-- behind such, a byte is a character of its own
alone : (b : ℕ) (cs : List (List ℕ)) → AreWhole cs → to_front b cs ≡ (b ∷ []) ∷ cs
unfolding AreWhole
alone b [] h = refl
alone b ([] ∷ cs) h = elim h [ ]
alone b ((x ∷ c) ∷ cs) h = ap (λ t. if t then (b ∷ x ∷ c) ∷ cs else (b ∷ []) ∷ (x ∷ c) ∷ cs) h

is_inner_byte : (b : ℕ) → 128 ≤ b → b < 192 → is_inner b ≡ true
is_inner_byte b h l = search (rules, arith, nat_tests)

inner_run : (b : ℕ) (bs t : List ℕ) → AreInner bs → AreWhole (characters t) → characters (b ∷ (bs ++ t)) ≡ (b ∷ bs) ∷ characters t
unfolding AreInner
inner_run b [] t h w = alone b (characters t) w
inner_run b (c ∷ bs) t h w =
    ap (to_front b) (inner_run c bs t h.2 w)
    ∙ ap (λ k. if k then (b ∷ c ∷ bs) ∷ characters t else (b ∷ []) ∷ (c ∷ bs) ∷ characters t) (is_inner_byte c h.0 h.1)

pub record Whole (t : List ℕ) : Type 0 where
  pub utf8 : AreUtf8 (characters t)
  pub whole : AreWhole (characters t)

low_whole : (b : ℕ) (t : List ℕ) → b < 128 → IsUtf8 t → Whole t → Whole (b ∷ t)
unfolding AreWhole
low_whole b t l u p =
    let same = alone b (characters t) p.whole in
    record { utf8 = subst AreUtf8 (sym same) (one_byte b l, p.utf8); whole = subst AreWhole (sym same) (search (rules, arith, nat_tests)) }

lead_outside : (b : ℕ) → 192 ≤ b → is_inner b ≡ false
lead_outside b h = search (rules, arith, nat_tests)

high_whole : (c t : List ℕ) → IsHigh c → IsUtf8 c → IsUtf8 t → Whole t → Whole (c ++ t)
unfolding AreWhole
high_whole c t h u v p =
    let same = ap (λ x. characters (x ++ t)) h.is ∙ inner_run h.byte h.rest t h.inner p.whole in
    record { utf8 = subst AreUtf8 (sym same) (subst IsUtf8 h.is u, p.utf8); whole = subst AreWhole (sym same) (lead_outside h.byte h.lead) }

pub characters_whole : (t : List ℕ) → IsUtf8 t → Whole t
unfolding AreWhole
characters_whole = each_character Whole (record { utf8 = tt; whole = tt }) low_whole high_whole

-- ---- at the bounds of characters

joined_utf8 : (cs : List (List ℕ)) → AreUtf8 cs → IsUtf8 (joined cs)
joined_utf8 [] u = IsUtf8-nil
joined_utf8 (c ∷ cs) u = IsUtf8-append c (joined cs) u.0 (joined_utf8 cs u.1)

cut_behind_utf8 : (n : ℕ) (cs : List (List ℕ)) → AreUtf8 cs → AreUtf8 (cut_behind n cs)
cut_behind_utf8 zero cs u = (joined_utf8 cs u, tt)
cut_behind_utf8 (suc n) [] u = (IsUtf8-nil, tt)
cut_behind_utf8 (suc n) (c ∷ cs) u = (u.0, cut_behind_utf8 n cs u.1)

cut_at_bounds_utf8 : (n : ℕ) (cs : List (List ℕ)) → AreUtf8 cs → AreUtf8 (cut_at_bounds n cs)
cut_at_bounds_utf8 zero cs u = (joined_utf8 cs u, tt)
cut_at_bounds_utf8 (suc n) cs u = (IsUtf8-nil, cut_behind_utf8 n cs u)

pub pieces_between_utf8 : (x : List ℕ) (n : ℕ) (t : List ℕ) → IsUtf8 x → IsUtf8 t → AreUtf8 (pieces_between x n t)
pieces_between_utf8 [] n t u w = cut_at_bounds_utf8 n (characters t) (characters_whole t w).utf8
pieces_between_utf8 (b ∷ x) n t u w = pieces_utf8 (b ∷ x) u (search (rules, arith)) n t w
