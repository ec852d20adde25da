-- How characters stand between quotes.
use Rattle.star_steps.proofs.Names.{◌≡◌, ℕ, ◌+◌, ◌/◌, ◌%◌, ◌≤◌, ◌<◌, Bool, true, false, cond, nat_lt, ◌||◌, ◌==◌, List, [], ◌∷◌, ◌++◌, length, if◌then◌else◌, codes, refl, sym, ap, subst, ◌∙◌, arith, append-nil, append_assoc, encode_utf8_all, ltb-true, ltb-false, ne_eqb, encode_ascii, encodes-append, values_from, closed, hex_digit, quoted_byte, quoted_bytes, Each}
use Rattle.std.specs.Char.{encode_utf8}
use Rattle.value_spec.specs.Values.{Value}
use Rattle.star_index.specs.Quoting.{quoted_character, unescaped}

pub quoted_joined : (s t : List ℕ) → quoted_bytes (s ++ t) ≡ quoted_bytes s ++ quoted_bytes t
quoted_joined [] t = refl
quoted_joined (b ∷ s) t = ap (λ l. quoted_byte b ++ l) (quoted_joined s t) ∙ sym (append_assoc (quoted_byte b) (quoted_bytes s) (quoted_bytes t))

-- one more character
pub quoted_next : (front cs : List ℕ) (c : ℕ) → (front ++ quoted_bytes (encode_utf8_all cs)) ++ quoted_bytes (encode_utf8 c) ≡ front ++ quoted_bytes (encode_utf8_all (cs ++ c ∷ []))
quoted_next front cs c =
    append_assoc front (quoted_bytes (encode_utf8_all cs)) (quoted_bytes (encode_utf8 c))
    ∙ ap (λ l. front ++ l) (sym (quoted_joined (encode_utf8_all cs) (encode_utf8 c)) ∙ ap quoted_bytes (ap (λ l. encode_utf8_all cs ++ l) (sym (append-nil (encode_utf8 c))) ∙ sym (encodes-append cs (c ∷ []))))

pub ascii : (c : ℕ) → c < 128 → quoted_character c ≡ quoted_byte c
ascii c h = ap quoted_bytes (encode_ascii c h) ∙ append-nil (quoted_byte c)

-- ---- bytes that no escape stands for

differ : (m n : ℕ) → (m ≡ n → ⊥) → (m == n) ≡ false
differ m n h = ne_eqb m n h

shorter : (b : ℕ) → (b ≡ 34 → ⊥) → (b ≡ 92 → ⊥) → (b ≡ 10 → ⊥) → (b ≡ 9 → ⊥) → (b ≡ 13 → ⊥) →
    quoted_byte b ≡ (if nat_lt b 32 || b == 127 then codes "\\x" ++ (hex_digit (b / 16) ∷ hex_digit (b % 16) ∷ []) else b ∷ [])
shorter b quote slash line tab carriage =
    let rest : List ℕ = if nat_lt b 32 || b == 127 then codes "\\x" ++ (hex_digit (b / 16) ∷ hex_digit (b % 16) ∷ []) else b ∷ [] in
    (λ i. if differ b 34 quote i || differ b 92 slash i then 92 ∷ b ∷ []
    else if differ b 10 line i then codes "\\n" else if differ b 9 tab i then codes "\\t" else if differ b 13 carriage i then codes "\\r" else rest)

printed : (b : ℕ) → 32 ≤ b → (b ≡ 127 → ⊥) → (nat_lt b 32 || b == 127) ≡ false
printed b h d = (λ i. below i || differ b 127 d i) where
  below : nat_lt b 32 ≡ false
  below = by (nat_lt b 32) refl where
    by : (v : Bool) → nat_lt b 32 ≡ v → v ≡ false
    by true e = absurd (let l : b < 32 = ltb-true b 32 e in omega arith)
    by false e = refl

high_byte : (b : ℕ) → 128 ≤ b → quoted_byte b ≡ b ∷ []
high_byte b h =
    shorter b (λ e. omega arith) (λ e. omega arith) (λ e. omega arith) (λ e. omega arith) (λ e. omega arith)
    ∙ ap (λ v. if v then codes "\\x" ++ (hex_digit (b / 16) ∷ hex_digit (b % 16) ∷ []) else b ∷ []) (printed b (omega arith) (λ e. omega arith))

abbrev AreHigh : List ℕ → Type 0
AreHigh bs = Each (λ b. 128 ≤ b) bs

high_bytes : (bs : List ℕ) → AreHigh bs → quoted_bytes bs ≡ bs
high_bytes [] h = refl
high_bytes (b ∷ bs) h = (λ i. high_byte b h.0 i ++ high_bytes bs h.1 i)

either : (v : Bool) (x y : List ℕ) → AreHigh x → AreHigh y → AreHigh (cond v x y)
either true x y h k = h
either false x y h k = k

past_ascii : (c : ℕ) → nat_lt c 128 ≡ false → AreHigh (encode_utf8 c)
unfolding encode_utf8
past_ascii c e =
    let two : List ℕ = (192 + c / 64) ∷ (128 + c % 64) ∷ [] in
    let three : List ℕ = (224 + c / 4096) ∷ (128 + c / 64 % 64) ∷ (128 + c % 64) ∷ [] in
    let four : List ℕ = (240 + c / 262144) ∷ (128 + c / 4096 % 64) ∷ (128 + c / 64 % 64) ∷ (128 + c % 64) ∷ [] in
    subst (λ v. AreHigh (cond v (c ∷ []) (cond (nat_lt c 2048) two (cond (nat_lt c 65536) three four)))) (sym e)
    (either (nat_lt c 2048) two (cond (nat_lt c 65536) three four) (omega arith, (omega arith, tt))
    (either (nat_lt c 65536) three four (omega arith, (omega arith, (omega arith, tt))) (omega arith, (omega arith, (omega arith, (omega arith, tt))))))

pub has_no_escape : (c : ℕ) → (c ≡ 34 → ⊥) → (c ≡ 92 → ⊥) → (c ≡ 10 → ⊥) → (c ≡ 9 → ⊥) → (c ≡ 13 → ⊥) → quoted_character c ≡ unescaped c
has_no_escape c quote slash line tab carriage = by (nat_lt c 128) refl where
  by : (v : Bool) → nat_lt c 128 ≡ v → quoted_character c ≡ unescaped c
  by true e =
      let l : c < 128 = ltb-true c 128 e in
      ascii c l ∙ shorter c quote slash line tab carriage
      ∙ ap (λ t. if nat_lt c 32 || c == 127 then codes "\\x" ++ (hex_digit (c / 16) ∷ hex_digit (c % 16) ∷ []) else t) (sym (encode_ascii c l))
  by false e =
      let l : 128 ≤ c = ltb-false c 128 e in
      high_bytes (encode_utf8 c) (past_ascii c e)
      ∙ ap (λ v. if v then codes "\\x" ++ (hex_digit (c / 16) ∷ hex_digit (c % 16) ∷ []) else encode_utf8 c) (sym (printed c (omega arith) (λ e. omega arith)))

-- ---- what ends a tuple

pub closed_one : (vs : List Value) → length vs ≡ 1 → closed (values_from vs) ≡ codes ",)"
closed_one [] h = absurd (omega arith)
closed_one (v ∷ []) h = refl
closed_one (v ∷ w ∷ vs) h = absurd (omega arith)

pub closed_more : (vs : List Value) → (length vs ≡ 1 → ⊥) → closed (values_from vs) ≡ codes ")"
closed_more [] h = refl
closed_more (v ∷ []) h = absurd (h refl)
closed_more (v ∷ w ∷ vs) h = refl

pub tuple_shown : (old first mid new members end : List ℕ) → first ≡ old ++ 40 ∷ [] → mid ≡ first ++ members → new ≡ mid ++ end → new ≡ old ++ 40 ∷ (members ++ end)
tuple_shown old first mid new members end f g h =
    h ∙ ap (λ l. l ++ end) (g ∙ ap (λ l. l ++ members) f) ∙ append_assoc (old ++ 40 ∷ []) members end ∙ append_assoc old (40 ∷ []) (members ++ end)
