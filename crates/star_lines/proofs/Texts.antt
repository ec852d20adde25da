-- Texts in quotes stand there too.
use Rattle.std.proofs.Common.{◌≡◌, ℕ, zero, suc, ◌+◌, ◌-◌, ◌≤◌, List, [], ◌∷◌, ◌++◌, drop, Bool, true, false, not, ◌==◌, ◌&&◌, ◌||◌, Option, Some, None, refl, sym, ap, ◌∙◌, subst, length, if◌then◌else◌, arith}
use Rattle.std.proofs.lemmas.Bool.{and_parts, both_ways, eqb-true}
use Rattle.std.proofs.lemmas.Option.{none-some, same_Some}
use Rattle.std.proofs.lemmas.List.{drop-append-le, take-append-le, length-append, length-drop}
use Rattle.std.specs.Prelude.{count_by, slice_index, option_and_then}
use Rattle.std.specs.Option.{option_map}
use Rattle.std.specs.Str.{is_utf8}
use Rattle.star_grammar.specs.declared.token.Form.{Form}
use Rattle.star_grammar.specs.declared.token.Letter.{Letter}
use Rattle.star_grammar.specs.declared.token.Origin.TheVariants as origin
use Rattle.star_grammar.specs.declared.token.Piece.TheVariants as piece
use Rattle.star_grammar.specs.declared.token.TokenKind.TheVariants as token
use Rattle.star_grammar.specs.declared.token.Said.TheVariants as said
use Rattle.star_grammar.specs.Pieces.{Span, both, bytes_of, closes, escape, first, form, hex1, hex2, hex4, hex8, is_quote, is_triple, joined, letter, letter_at, line_ends, long_escape, no_code, numbered, quoted, quoted_from, quotes, short_escape, span, text_piece, text_token}
use Rattle.star_lines.proofs.Stays.{Stays, stays_if, two_same}

-- ---- hexadecimal digits

-- both are there
record Both (base v : ℕ) (a b : Option ℕ) : Type 0 where
  high : ℕ
  low : ℕ
  high_is : a ≡ Some high
  low_is : b ≡ Some low

both_some : (base v : ℕ) (a b : Option ℕ) → both base a b ≡ Some v → Both base v a b
both_some base v (Some x) (Some y) e = record { high = x; low = y; high_is = refl; low_is = refl }
both_some base v (Some x) None e = absurd (none-some v e)
both_some base v None b e = absurd (none-some v e)

both_more : (base v : ℕ) (a a' b b' : Option ℕ) → a' ≡ a → b' ≡ b → both base a b ≡ Some v → both base a' b' ≡ Some v
both_more base v a a' b b' e f h = ap (λ x. both base x b') e ∙ ap (both base a) f ∙ h

hex2_fits : (t : List ℕ) (v : ℕ) → hex2 t ≡ Some v → 2 ≤ length t
unfolding hex2
hex2_fits [] v e = absurd (none-some v e)
hex2_fits (x ∷ []) v e = absurd (no_low (hex1 x) e)
  where
    no_low : (a : Option ℕ) → both 16 a None ≡ Some v → ⊥
    no_low None h = none-some v h
    no_low (Some y) h = none-some v h
hex2_fits (x ∷ y ∷ ts) v e = omega arith

hex2_same : (t m : List ℕ) → 2 ≤ length t → hex2 (t ++ m) ≡ hex2 t
unfolding hex2
hex2_same [] m e = absurd (omega arith)
hex2_same (x ∷ []) m e = absurd (omega arith)
hex2_same (x ∷ y ∷ ts) m e = refl

hex4_fits : (t : List ℕ) (v : ℕ) → hex4 t ≡ Some v → 4 ≤ length t
unfolding hex4
hex4_fits t v e =
    let b = both_some 256 v (hex2 t) (hex2 (drop 2 t)) e in
    let h = hex2_fits t b.high b.high_is in
    let l = hex2_fits (drop 2 t) b.low b.low_is in
    let d = length-drop 2 t in
    omega arith

hex4_same : (t m : List ℕ) → 4 ≤ length t → hex4 (t ++ m) ≡ hex4 t
unfolding hex4
hex4_same t m e =
    let d = length-drop 2 t in
    ap (λ a. both 256 a (hex2 (drop 2 (t ++ m)))) (hex2_same t m (omega arith))
    ∙ ap (λ b. both 256 (hex2 t) b) (ap hex2 (drop-append-le 2 t m (omega arith)) ∙ hex2_same (drop 2 t) m (omega arith))

hex8_fits : (t : List ℕ) (v : ℕ) → hex8 t ≡ Some v → 8 ≤ length t
unfolding hex8
hex8_fits t v e =
    let b = both_some 65536 v (hex4 t) (hex4 (drop 4 t)) e in
    let h = hex4_fits t b.high b.high_is in
    let l = hex4_fits (drop 4 t) b.low b.low_is in
    let d = length-drop 4 t in
    omega arith

hex8_same : (t m : List ℕ) → 8 ≤ length t → hex8 (t ++ m) ≡ hex8 t
unfolding hex8
hex8_same t m e =
    let d = length-drop 4 t in
    ap (λ a. both 65536 a (hex4 (drop 4 (t ++ m)))) (hex4_same t m (omega arith))
    ∙ ap (λ b. both 65536 (hex4 t) b) (ap hex4 (drop-append-le 4 t m (omega arith)) ∙ hex4_same (drop 4 t) m (omega arith))

-- ---- letters

numbered_more : (most size : ℕ) (l : Letter) (o o' : Option ℕ) → ((v : ℕ) → o ≡ Some v → o' ≡ o) → numbered most size o ≡ Some l → numbered most size o' ≡ Some l
numbered_more most size l None o' h e = absurd (none-some l e)
numbered_more most size l (Some v) o' h e = ap (numbered most size) (h v refl) ∙ e

by_tests : (x y z : Bool) (l : Letter) (a b c a' b' c' : Option Letter) → (a ≡ Some l → a' ≡ Some l) → (b ≡ Some l → b' ≡ Some l) → (c ≡ Some l → c' ≡ Some l)
    → (if x then a else if y then b else if z then c else None) ≡ Some l → (if x then a' else if y then b' else if z then c' else None) ≡ Some l
by_tests true y z l a b c a' b' c' f g h e = f e
by_tests false true z l a b c a' b' c' f g h e = g e
by_tests false false true l a b c a' b' c' f g h e = h e
by_tests false false false l a b c a' b' c' f g h e = e

long_more : (b : ℕ) (t m : List ℕ) (l : Letter) → long_escape b t ≡ Some l → long_escape b (t ++ 10 ∷ m) ≡ Some l
long_more b t m l e =
    by_tests (b == 120) (b == 117) (b == 85) l (numbered 127 4 (hex2 t)) (numbered 65535 6 (hex4 t)) (numbered 1114111 10 (hex8 t)) (numbered 127 4 (hex2 (t ++ 10 ∷ m))) (numbered 65535 6 (hex4 (t ++ 10 ∷ m))) (numbered 1114111 10 (hex8 (t ++ 10 ∷ m)))
    (numbered_more 127 4 l (hex2 t) (hex2 (t ++ 10 ∷ m)) (λ v h. hex2_same t (10 ∷ m) (hex2_fits t v h)))
    (numbered_more 65535 6 l (hex4 t) (hex4 (t ++ 10 ∷ m)) (λ v h. hex4_same t (10 ∷ m) (hex4_fits t v h)))
    (numbered_more 1114111 10 l (hex8 t) (hex8 (t ++ 10 ∷ m)) (λ v h. hex8_same t (10 ∷ m) (hex8_fits t v h)))
    e

or_long : (o : Option ℕ) (l : Letter) (x x' : Option Letter) → (x ≡ Some l → x' ≡ Some l) → elim o [ None ↦ x | Some c ↦ Some (letter (said.Byte c) 2) ] ≡ Some l → elim o [ None ↦ x' | Some c ↦ Some (letter (said.Byte c) 2) ] ≡ Some l
or_long None l x x' h e = h e
or_long (Some c) l x x' h e = e

if_none : (z : Bool) (l : Letter) (x x' : Option Letter) → (x ≡ Some l → x' ≡ Some l) → (if z then None else x) ≡ Some l → (if z then None else x') ≡ Some l
if_none true l x x' h e = e
if_none false l x x' h e = h e

escape_more : (t m : List ℕ) (l : Letter) → escape false t ≡ Some l → escape false (t ++ 10 ∷ m) ≡ Some l
escape_more [] m l e = absurd (none-some l e)
escape_more (c ∷ cs) m l e = if_none (c == 10) l _ _ (or_long (short_escape c) l (long_escape c cs) (long_escape c (cs ++ 10 ∷ m)) (long_more c cs m l)) e

if_escape : (z : Bool) (l : Letter) (x x' y : Option Letter) → (x ≡ Some l → x' ≡ Some l) → (if z then x else y) ≡ Some l → (if z then x' else y) ≡ Some l
if_escape true l x x' y h e = h e
if_escape false l x x' y h e = e

letter_more : (f : Form) (b : ℕ) (bs m : List ℕ) (l : Letter) → f.lines ≡ false → letter_at f (b ∷ bs) ≡ Some l → letter_at f (b ∷ bs ++ 10 ∷ m) ≡ Some l
letter_more f b bs m l shut e =
    let same : (t : List ℕ) → letter_at f (b ∷ t) ≡ (if b == 10 then None else if (b == 92) && not f.raw then escape false t else Some (letter (said.Byte b) 1)) =
    λ t. ap (λ z. if b == 10 then (if z then Some (letter (said.Byte 10) 1) else None) else if (b == 92) && not f.raw then escape z t else Some (letter (said.Byte b) 1)) shut
    in
    same (bs ++ 10 ∷ m) ∙ if_none (b == 10) l _ _ (if_escape ((b == 92) && not f.raw) l (escape false bs) (escape false (bs ++ 10 ∷ m)) (Some (letter (said.Byte b) 1)) (escape_more bs m l)) (sym (same bs) ∙ e)

-- ---- up to the closing quotes

-- texts of this form hold no line ends, and their quote is one
pub record IsInLine (f : Form) : Type 0 where
  pub lines : f.lines ≡ false
  pub none : (0 == f.quote) ≡ false
  pub end : (10 == f.quote) ≡ false

closes_same : (f : Form) (b : ℕ) (bs m : List ℕ) → IsInLine f → closes f (b ∷ bs ++ 10 ∷ m) ≡ closes f (b ∷ bs)
closes_same f b bs m i = ap (λ z. (b == f.quote) && (not f.triple || z)) (two_same (λ x. x == f.quote) (λ x. x == f.quote) bs m i.none i.end i.none i.end)

two_there : (q : ℕ) (t : List ℕ) → (0 == q) ≡ false → ((first t == q) && (slice_index t 1 == q)) ≡ true → 2 ≤ length t
two_there q [] z e = absurd (both_ways (0 == q) z (and_parts (0 == q) (0 == q) e).0)
two_there q (x ∷ []) z e = absurd (both_ways (0 == q) z (and_parts (x == q) (0 == q) e).1)
two_there q (x ∷ y ∷ ts) z e = omega arith

quotes_fit : (f : Form) (b : ℕ) (bs : List ℕ) → IsInLine f → closes f (b ∷ bs) ≡ true → quotes f ≤ suc (length bs)
quotes_fit f b bs i e = by_form f.triple (and_parts (b == f.quote) (not f.triple || ((first bs == f.quote) && (slice_index bs 1 == f.quote))) e).1
  where
    by_form : (triple : Bool) → (not triple || ((first bs == f.quote) && (slice_index bs 1 == f.quote))) ≡ true → (if triple then 3 else 1) ≤ suc (length bs)
    by_form false h = omega arith
    by_form true h = let l = two_there f.quote bs i.none h in omega arith

further : Span → ℕ → Span
further s k = span s.bytes (s.left + k)

-- the letters behind a first one
joined_more : (l : Letter) (k : ℕ) (o o' : Option Span) (s : Span) → ((s : Span) → o ≡ Some s → o' ≡ Some (further s k)) → option_map (joined (bytes_of l.said)) o ≡ Some s → option_map (joined (bytes_of l.said)) o' ≡ Some (further s k)
unfolding further
joined_more l k None o' s h e = absurd (none-some s e)
joined_more l k (Some r) o' s h e = ap (option_map (joined (bytes_of l.said))) (h r refl) ∙ ap (λ (x : Span). Some (span x.bytes (x.left + k))) (same_Some (joined (bytes_of l.said) r) s e)

letters_more : (k : ℕ) (o o' : Option Letter) (go go' : Letter → Option Span) (s : Span) → ((l : Letter) → o ≡ Some l → o' ≡ Some l) → ((l : Letter) (s : Span) → go l ≡ Some s → go' l ≡ Some (further s k))
    → option_and_then go o ≡ Some s → option_and_then go' o' ≡ Some (further s k)
letters_more k None o' go go' s f h e = absurd (none-some s e)
letters_more k (Some l) o' go go' s f h e = ap (option_and_then go') (f l refl) ∙ h l s e

closed_or_not : (k : ℕ) (z : Bool) (x x' : Span) (y y' : Option Span) (s : Span) → (z ≡ true → x' ≡ further x k) → (y ≡ Some s → y' ≡ Some (further s k)) → (if z then Some x else y) ≡ Some s → (if z then Some x' else y') ≡ Some (further s k)
closed_or_not k true x x' y y' s f h e = ap Some (f refl ∙ ap (λ r. further r k) (same_Some x s e))
closed_or_not k false x x' y y' s f h e = h e

less_more : (n k q : ℕ) → q ≤ n → (n + k) - q ≡ (n - q) + k
less_more n k q e = omega arith

quoted_more : (n : ℕ) (f : Form) (t m : List ℕ) (s : Span) → IsInLine f → quoted_from n f t ≡ Some s → quoted_from n f (t ++ 10 ∷ m) ≡ Some (further s (suc (length m)))
unfolding further
quoted_more zero f [] m s i e = absurd (none-some s e)
quoted_more (suc n) f [] m s i e = absurd (none-some s e)
quoted_more (suc n) f (b ∷ bs) m s i e = quoted_more n f bs m s i e
quoted_more zero f (b ∷ bs) m s i e =
    let k : ℕ = suc (length m) in
    let rest : List ℕ → Option Span = λ t. option_and_then (λ (l : Letter). option_map (joined (bytes_of l.said)) (quoted_from (l.size - 1) f t)) (letter_at f (b ∷ t)) in
    ap (λ z. if z then Some (span [] (length (b ∷ bs ++ 10 ∷ m) - quotes f)) else rest (bs ++ 10 ∷ m)) (closes_same f b bs m i)
    ∙ closed_or_not k (closes f (b ∷ bs)) (span [] (length (b ∷ bs) - quotes f)) (span [] (length (b ∷ bs ++ 10 ∷ m) - quotes f)) (rest bs) (rest (bs ++ 10 ∷ m)) s
    (λ z. ap (span []) (ap (λ n. n - quotes f) (length-append (b ∷ bs) (10 ∷ m)) ∙ less_more (suc (length bs)) k (quotes f) (quotes_fit f b bs i z)))
    (letters_more k (letter_at f (b ∷ bs)) (letter_at f (b ∷ bs ++ 10 ∷ m)) (λ (l : Letter). option_map (joined (bytes_of l.said)) (quoted_from (l.size - 1) f bs)) (λ (l : Letter). option_map (joined (bytes_of l.said)) (quoted_from (l.size - 1) f (bs ++ 10 ∷ m))) s
    (λ l h. letter_more f b bs m l i.lines h)
    (λ l r h. joined_more l k (quoted_from (l.size - 1) f bs) (quoted_from (l.size - 1) f (bs ++ 10 ∷ m)) r (λ x g. quoted_more (l.size - 1) f bs m x i g) h))
    e

-- ---- whole texts

span_fits : (before n : ℕ) (t m : List ℕ) (s : Span) → before + length t ≤ n → Stays n (text_token before t (Some s)) (text_token before (t ++ 10 ∷ m) (Some (further s (suc (length m)))))
unfolding further
span_fits before n t m s low = by_bytes (is_utf8 s.bytes)
  where
    size : ℕ
    size = length t - s.left

    longer : ℕ
    longer = length (t ++ 10 ∷ m) - (s.left + suc (length m))

    same_size : longer ≡ size
    same_size = let e = length-append t (10 ∷ m) in omega arith

    same_ends : line_ends longer (t ++ 10 ∷ m) ≡ line_ends size t
    same_ends = ap (λ n. line_ends n (t ++ 10 ∷ m)) same_size ∙ ap (count_by (λ b. b == 10)) (take-append-le size t (10 ∷ m) (omega arith))

    by_bytes : (z : Bool) → Stays n (if z then piece.Whole (token.Text s.bytes) (before + size) (line_ends size t) else no_code) (if z then piece.Whole (token.Text s.bytes) (before + longer) (line_ends longer (t ++ 10 ∷ m)) else no_code)
    by_bytes false g = absurd g
    by_bytes true g = (ap (λ n. piece.Whole (token.Text s.bytes) (before + n) (line_ends longer (t ++ 10 ∷ m))) same_size ∙ ap (piece.Whole (token.Text s.bytes) (before + size)) same_ends, omega arith)

token_stays : (before n : ℕ) (f : Form) (t m : List ℕ) (o : Option Span) → IsInLine f → before + length t ≤ n → quoted f t ≡ o → Stays n (text_token before t o) (text_token before (t ++ 10 ∷ m) (quoted f (t ++ 10 ∷ m)))
token_stays before n f t m None i low e = λ g. absurd g
token_stays before n f t m (Some s) i low e = subst (λ o. Stays n (text_token before t (Some s)) (text_token before (t ++ 10 ∷ m) o)) (sym (quoted_more 0 f t m s i e)) (span_fits before n t m s low)

-- a byte that is no quote is none of a text's
other_quote : (x q : ℕ) → is_quote x ≡ false → is_quote q ≡ true → (x == q) ≡ false
other_quote x q e f = by_test (x == q) refl
  where
    by_test : (z : Bool) → (x == q) ≡ z → z ≡ false
    by_test false h = refl
    by_test true h = absurd (both_ways (is_quote q) (subst (λ y. is_quote y ≡ false) (eqb-true x q h) e) f)

in_line : (raw triple : Bool) (q : ℕ) → is_quote q ≡ true → IsInLine (form raw triple false q)
in_line raw triple q e = record { lines = refl; none = other_quote 0 q refl e; end = other_quote 10 q refl e }

triple_stays : (raw : Bool) (before n q : ℕ) (bs m : List ℕ) → is_quote q ≡ true → before + suc (length bs) ≤ n → is_triple (q ∷ bs) ≡ true
    → Stays n (text_token (before + 3) (drop 3 (q ∷ bs)) (quoted (form raw true false q) (drop 3 (q ∷ bs)))) (text_token (before + 3) (drop 3 (q ∷ bs ++ 10 ∷ m)) (quoted (form raw true false q) (drop 3 (q ∷ bs ++ 10 ∷ m))))
triple_stays raw before n q [] m e low z = absurd (let l = two_there q [] (other_quote 0 q refl e) z in omega arith)
triple_stays raw before n q (x ∷ []) m e low z = absurd (let l = two_there q (x ∷ []) (other_quote 0 q refl e) z in omega arith)
triple_stays raw before n q (x ∷ y ∷ ts) m e low z = token_stays (before + 3) n (form raw true false q) ts m (quoted (form raw true false q) ts) (in_line raw true q e) (omega arith) refl

pub texts_stay : (raw : Bool) (before n q : ℕ) (bs m : List ℕ) → is_quote q ≡ true → before + suc (length bs) ≤ n → Stays n (text_piece origin.Comment raw before (q ∷ bs)) (text_piece origin.Comment raw before (q ∷ bs ++ 10 ∷ m))
texts_stay raw before n q bs m e low =
    stays_if n (is_triple (q ∷ bs)) (is_triple (q ∷ bs ++ 10 ∷ m)) _ _ _ _
    (two_same (λ x. x == q) (λ x. x == q) bs m (other_quote 0 q refl e) (other_quote 10 q refl e) (other_quote 0 q refl e) (other_quote 10 q refl e))
    (triple_stays raw before n q bs m e low)
    (λ z. token_stays (before + 1) n (form raw false false q) bs m (quoted (form raw false false q) bs) (in_line raw false q e) (omega arith) refl)
