-- No printed line is a marker, and no printed text begins with a byte order mark.
use Rattle.std.proofs.Common.{◌≡◌, ℕ, zero, suc, ◌+◌, pos, negsuc, Bool, true, false, not, ◌&&◌, ◌==◌, List, [], ◌∷◌, ◌++◌, Ok, refl, sym, ◌∙◌, ap, subst, append_assoc, arith, true≢false, if◌then◌else◌}
use Rattle.std.specs.List.{list_all}
use Rattle.std.proofs.lemmas.List.{append-nil}
use Rattle.std.proofs.lemmas.Bool.{ne_eqb, eqb-true, leb-true, and_left, and_right, and_parts}
use Rattle.std.proofs.lemmas.Str.{encodes-chars, encode_same}
use Rattle.std.specs.Prelude.{ℤ, IsUtf8, chars, codes, nat_le, decimal, bytes_eq, take, slice_index}
use Rattle.std.specs.Fmt.{signed_decimal}
use lib.Utf8.{encode, encodes}
use Rattle.yaml_spec.specs.Bytes.{space, dash, colon, quote, is_digit, is_empty}
use Rattle.ytt_base.specs.Trees.{Scalar, null, boolean, integer, string, IsScalar, Tree, scalar, list, map, Trees, no_trees, tree, Pairs, no_pairs, pair, IsTree, AreTrees, ArePairs}
use Rattle.yaml_spec.specs.Scalars.{form, plain}
use Rattle.yaml_spec.specs.Read.{begins_with}
use Rattle.yaml_spec.specs.Text.{spaces, is_shown, quoted_chars, quoted_text, key_text, fits_plain, fits_literal, pieces, literal_header, final_breaks, start_marks}
use Rattle.yaml_back.proofs.PlainBack.{IsTail}
use Rattle.yaml_back.proofs.ValuesBack.{outside_one, IsPlain, plain_of}
use Rattle.yaml_spec.proofs.IntegersBack.{decimal-digits, decimal-some}
use Rattle.yaml_back.proofs.GoodBack.{IsGood, AllGood, good-nil, good-append, good-spaces, good-ascii, good-key, pieces_are_good}
use Rattle.yaml_back.proofs.TextLines.{content_line, content_lines, is_block, block_first, block_more, scalar_first, scalar_more, node_first, pair_first, node_more, pair_more, list_lines, map_lines, document_lines}

-- ---- markers

pub record IsQuietLine (t : List ℕ) : Type 0 where
  pub start : begins_with (codes "---") t ≡ false
  pub stop : begins_with (codes "...") t ≡ false

quiet-nil : IsQuietLine []
quiet-nil = record { start = refl; stop = refl }

quiet-first : (b : ℕ) (bs : List ℕ) → (b == 45) ≡ false → (b == 46) ≡ false → IsQuietLine (b ∷ bs)
quiet-first b bs p q = record { start = rw p refl; stop = rw q refl }

quiet-dash : (b : ℕ) (bs : List ℕ) → (b == 45) ≡ false → IsQuietLine (45 ∷ b ∷ bs)
quiet-dash b bs p = record { start = rw p refl; stop = refl }

dots_ahead : (s rest : List ℕ) → bytes_eq (take 3 s) (codes "...") ≡ false → IsTail rest → bytes_eq (take 3 (s ++ rest)) (codes "...") ≡ false
unfolding IsTail
dots_ahead [] [] d t = refl
dots_ahead [] (x ∷ rest) d t = rw t.0 refl
dots_ahead (b ∷ []) [] d t = d
dots_ahead (b ∷ []) (x ∷ rest) d t = rw t.0 (and_right (b == 46) false refl)
dots_ahead (b ∷ c ∷ []) [] d t = d
dots_ahead (b ∷ c ∷ []) (x ∷ rest) d t = rw t.0 (grind (arith))
dots_ahead (b ∷ c ∷ e ∷ s) rest d t = d

quiet-plain : (s rest : List ℕ) → IsPlain s → IsTail rest → IsQuietLine (s ++ rest)
unfolding plain form
quiet-plain [] rest p t = absurd (let v = p.value in cc)
quiet-plain (b ∷ bs) rest p t = record {
  start = rw (outside_one start_marks b 45 p.start refl) refl;
  stop = and_left _ _ (dots_ahead (b ∷ bs) rest p.dots t);
}

quiet-digits : (t rest : List ℕ) → is_empty t ≡ false → list_all is_digit t ≡ true → IsQuietLine (t ++ rest) × IsQuietLine (45 ∷ (t ++ rest))
quiet-digits [] rest e d = absurd (true≢false e)
quiet-digits (b ∷ bs) rest e d =
    let k = and_parts (nat_le 48 b) (nat_le b 57) (and_parts (is_digit b) (list_all is_digit bs) d).0 in
    let l = leb-true 48 b k.0 in
    (quiet-first b (bs ++ rest) (ne_eqb b 45 (omega arith)) (ne_eqb b 46 (omega arith)), quiet-dash b (bs ++ rest) (ne_eqb b 45 (omega arith)))

quiet-integer : (z : ℤ) (rest : List ℕ) → IsQuietLine (signed_decimal z ++ rest)
quiet-integer (pos n) rest = (quiet-digits (decimal n) rest (decimal-some n) (decimal-digits n)).0
quiet-integer (negsuc n) rest = (quiet-digits (decimal (suc n)) rest (decimal-some (suc n)) (decimal-digits (suc n))).1

quiet-string : (s rest : List ℕ) → IsUtf8 s → IsTail rest → (b : Bool) → fits_plain s ≡ b → IsQuietLine ((if b then s else quoted_text s) ++ rest)
quiet-string s rest u t true e = quiet-plain s rest (plain_of s u e) t
quiet-string s rest u t false e = quiet-first quote ((quoted_chars (chars s) ++ quote ∷ []) ++ rest) refl refl

pub quiet-key : (s : Scalar) (rest : List ℕ) → IsScalar s → IsTail rest → IsQuietLine (key_text s ++ rest)
quiet-key null rest h t = quiet-first 110 (codes "ull" ++ rest) refl refl
quiet-key (boolean true) rest h t = quiet-first 116 (codes "rue" ++ rest) refl refl
quiet-key (boolean false) rest h t = quiet-first 102 (codes "alse" ++ rest) refl refl
quiet-key (integer z) rest h t = quiet-integer z rest
quiet-key (string s) rest h t = quiet-string s rest h t (fits_plain s) refl

-- ---- the byte order mark

abbrev pub has_mark : List ℕ → Bool
has_mark t = (slice_index t 0 == 0xEF && slice_index t 1 == 0xBB) && slice_index t 2 == 0xBF

mark-first : (b : ℕ) (bs : List ℕ) → (b == 0xEF) ≡ false → has_mark (b ∷ bs) ≡ false
mark-first b bs e = rw e refl

mark-is : (t : List ℕ) → has_mark t ≡ true → (r : List ℕ) × (t ≡ encode 0xFEFF ++ r)
unfolding encode
mark-is [] e = absurd (true≢false (sym e))
mark-is (x ∷ []) e = absurd (true≢false (sym e ∙ and_left _ _ (and_right (x == 0xEF) false refl)))
mark-is (x ∷ y ∷ []) e = absurd (true≢false (sym e ∙ and_right (x == 0xEF && y == 0xBB) false refl))
mark-is (x ∷ y ∷ z ∷ r) e =
    let k = and_parts (x == 0xEF && y == 0xBB) (z == 0xBF) e in
    let l = and_parts (x == 0xEF) (y == 0xBB) k.0 in
    (r, rw (eqb-true x 0xEF l.0, eqb-true y 0xBB l.1, eqb-true z 0xBF k.1) refl)

mark-shown : (cs : List ℕ) (rest : List ℕ) → list_all is_shown cs ≡ true → is_empty cs ≡ false → has_mark (encodes cs ++ rest) ≡ false
mark-shown [] rest e n = absurd (true≢false n)
mark-shown (c ∷ cs) rest e n = go (has_mark ((encode c ++ encodes cs) ++ rest)) refl
  where
    go : (b : Bool) → has_mark ((encode c ++ encodes cs) ++ rest) ≡ b → b ≡ false
    go false p = refl
    go true p =
        let m = mark-is ((encode c ++ encodes cs) ++ rest) p in
        let i = (encode_same c 0xFEFF (encodes cs ++ rest) m.0 (sym (append_assoc (encode c) (encodes cs) rest) ∙ m.1)).0 in
        absurd (true≢false (sym (and_parts (is_shown c) (list_all is_shown cs) e).0 ∙ ap is_shown i))

mark-plain : (s rest : List ℕ) → IsUtf8 s → IsPlain s → has_mark (s ++ rest) ≡ false
unfolding plain form
mark-plain s rest u p = subst (λ (t : List ℕ). has_mark (t ++ rest) ≡ false) (encodes-chars s u) (mark-shown (chars s) rest p.shown (go (chars s) refl))
  where
    go : (cs : List ℕ) → chars s ≡ cs → is_empty cs ≡ false
    go [] e = absurd (let i : s ≡ [] = sym (encodes-chars s u) ∙ ap encodes e in let v : plain [] ≡ Ok (string []) = subst (λ t. plain t ≡ Ok (string t)) i p.value in cc)
    go (c ∷ cs) e = refl

mark-digits : (t rest : List ℕ) → is_empty t ≡ false → list_all is_digit t ≡ true → has_mark (t ++ rest) ≡ false
mark-digits [] rest e d = absurd (true≢false e)
mark-digits (b ∷ bs) rest e d =
    let k = and_parts (nat_le 48 b) (nat_le b 57) (and_parts (is_digit b) (list_all is_digit bs) d).0 in
    let l = leb-true b 57 k.1 in
    mark-first b (bs ++ rest) (ne_eqb b 0xEF (omega arith))

mark-integer : (z : ℤ) (rest : List ℕ) → has_mark (signed_decimal z ++ rest) ≡ false
mark-integer (pos n) rest = mark-digits (decimal n) rest (decimal-some n) (decimal-digits n)
mark-integer (negsuc n) rest = mark-first 45 (decimal (suc n) ++ rest) refl

mark-string : (s rest : List ℕ) → IsUtf8 s → (b : Bool) → fits_plain s ≡ b → has_mark ((if b then s else quoted_text s) ++ rest) ≡ false
mark-string s rest u true e = mark-plain s rest u (plain_of s u e)
mark-string s rest u false e = refl

pub mark-key : (s : Scalar) (rest : List ℕ) → IsScalar s → has_mark (key_text s ++ rest) ≡ false
mark-key null rest h = refl
mark-key (boolean true) rest h = refl
mark-key (boolean false) rest h = refl
mark-key (integer z) rest h = mark-integer z rest
mark-key (string s) rest h = mark-string s rest h (fits_plain s) refl

mark-header : (f : ℕ) (rest : List ℕ) → has_mark (literal_header f ++ rest) ≡ false
mark-header zero rest = refl
mark-header (suc zero) rest = refl
mark-header (suc (suc f)) rest = refl

mark-scalar : (s : Scalar) (rest : List ℕ) → IsScalar s → has_mark (scalar_first s ++ rest) ≡ false
mark-scalar null rest h = mark-key null rest h
mark-scalar (boolean b) rest h = mark-key (boolean b) rest h
mark-scalar (integer z) rest h = mark-key (integer z) rest h
mark-scalar (string s) rest h = by_block (is_block (string s))
  where
    by_block : (b : Bool) → has_mark ((elim b as (λ _. List ℕ) [ true ↦ block_first (string s) | false ↦ key_text (string s) ]) ++ rest) ≡ false
    by_block true = mark-header (final_breaks (pieces s)) rest
    by_block false = mark-key (string s) rest h

pub mark-node : (t : Tree) (rest : List ℕ) → IsTree t → has_mark (node_first t ++ rest) ≡ false
mark-node (scalar s) rest h = mark-scalar s rest h
mark-node (list no_trees) rest h = refl
mark-node (list (tree t ts)) rest h = refl
mark-node (map no_pairs) rest h = refl
mark-node (map (pair k t ps)) rest h = ap has_mark (append_assoc (key_text k) (colon ∷ pair_first t) rest) ∙ mark-key k ((colon ∷ pair_first t) ++ rest) h.0

-- ---- lines

pub record IsFine (t : List ℕ) : Type 0 where
  pub good : IsGood t
  pub quiet : IsQuietLine t

unfoldable pub AllFine : List (List ℕ) → Type 0
AllFine [] = Unit {0}
AllFine (l ∷ ls) = IsFine l × AllFine ls

pub fine-append : (xs ys : List (List ℕ)) → AllFine xs → AllFine ys → AllFine (xs ++ ys)
unfolding AllFine
fine-append [] ys p q = q
fine-append (x ∷ xs) ys p q = (p.0, fine-append xs ys p.1 q)

fine-content_line : (n : ℕ) (l : List ℕ) → IsGood l → IsFine (content_line (suc n) l)
fine-content_line n [] g = record { good = good-nil; quiet = quiet-nil }
fine-content_line n (b ∷ bs) g = record { good = good-append (spaces (suc n)) (b ∷ bs) (good-spaces (suc n)) g; quiet = quiet-first space (spaces n ++ (b ∷ bs)) refl refl }

fine-content : (n : ℕ) (ps : List (List ℕ)) → AllGood ps → AllFine (content_lines (suc n) ps)
unfolding AllFine AllGood
fine-content n [] g = tt
fine-content n (l ∷ []) g = by_empty (is_empty l)
  where
    by_empty : (b : Bool) → AllFine (elim b as (λ _. List (List ℕ)) [ true ↦ [] | false ↦ content_line (suc n) l ∷ [] ])
    by_empty true = tt
    by_empty false = (fine-content_line n l g.0, tt)
fine-content n (l ∷ m ∷ ls) g = (fine-content_line n l g.0, fine-content n (m ∷ ls) g.1)

fine-header : (f : ℕ) → IsFine (literal_header f)
fine-header zero = record { good = good-ascii (codes "|-") refl; quiet = record { start = refl; stop = refl } }
fine-header (suc zero) = record { good = good-ascii (codes "|") refl; quiet = record { start = refl; stop = refl } }
fine-header (suc (suc f)) = record { good = good-ascii (codes "|+") refl; quiet = record { start = refl; stop = refl } }

fine-key : (s : Scalar) → IsScalar s → IsFine (key_text s)
unfolding IsTail
fine-key s h = record { good = good-key s h; quiet = subst IsQuietLine (append-nil (key_text s)) (quiet-key s [] h tt) }

fine-scalar : (s : Scalar) → IsScalar s → IsFine (scalar_first s)
fine-scalar null h = fine-key null h
fine-scalar (boolean b) h = fine-key (boolean b) h
fine-scalar (integer z) h = fine-key (integer z) h
fine-scalar (string s) h = by_block (is_block (string s))
  where
    by_block : (b : Bool) → IsFine (elim b as (λ _. List ℕ) [ true ↦ block_first (string s) | false ↦ key_text (string s) ])
    by_block true = fine-header (final_breaks (pieces s))
    by_block false = fine-key (string s) h

fine-more : (n : ℕ) (s : Scalar) → IsScalar s → AllFine (scalar_more (suc n) s)
unfolding AllFine
fine-more n null h = tt
fine-more n (boolean b) h = tt
fine-more n (integer z) h = tt
fine-more n (string s) h = by_block (is_block (string s)) refl
  where
    by_block : (b : Bool) → is_block (string s) ≡ b → AllFine (elim b as (λ _. List (List ℕ)) [ true ↦ block_more (suc n) (string s) | false ↦ [] ])
    by_block true e = fine-content n (pieces s) (pieces_are_good s h (and_parts (not (fits_plain s)) (fits_literal s) e).1)
    by_block false e = tt

good-pair : (t : Tree) → IsTree t → IsGood (pair_first t)
good-pair (scalar s) h = good-append (space ∷ []) (scalar_first s) (good-ascii (space ∷ []) refl) (let f = fine-scalar s h in f.good)
good-pair (list no_trees) h = good-ascii (codes " []") refl
good-pair (list (tree t ts)) h = good-nil
good-pair (map no_pairs) h = good-ascii (codes " {}") refl
good-pair (map (pair k t ps)) h = good-nil

pair-tail : (t : Tree) → IsTail (colon ∷ pair_first t)
unfolding IsTail
pair-tail (scalar s) = (refl, refl)
pair-tail (list no_trees) = (refl, refl)
pair-tail (list (tree t ts)) = (refl, refl)
pair-tail (map no_pairs) = (refl, refl)
pair-tail (map (pair k t ps)) = (refl, refl)

pub fine-node : (t : Tree) → IsTree t → IsFine (node_first t)
fine-node (scalar s) h = fine-scalar s h
fine-node (list no_trees) h = record { good = good-ascii (codes "[]") refl; quiet = record { start = refl; stop = refl } }
fine-node (list (tree t ts)) h = record { good = good-append (dash ∷ space ∷ []) (node_first t) (good-ascii (dash ∷ space ∷ []) refl) (let f = fine-node t h.0 in f.good); quiet = quiet-dash space (node_first t) refl }
fine-node (map no_pairs) h = record { good = good-ascii (codes "{}") refl; quiet = record { start = refl; stop = refl } }
fine-node (map (pair k t ps)) h = record {
  good = good-append (key_text k) (colon ∷ pair_first t) (good-key k h.0) (good-append (colon ∷ []) (pair_first t) (good-ascii (colon ∷ []) refl) (good-pair t h.1));
  quiet = quiet-key k (colon ∷ pair_first t) h.0 (pair-tail t);
}

fine-line : (n : ℕ) (x : List ℕ) → IsFine x → IsFine (spaces n ++ x)
fine-line zero x f = f
fine-line (suc n) x f = record { good = good-append (spaces (suc n)) x (good-spaces (suc n)) f.good; quiet = quiet-first space (spaces n ++ x) refl refl }

fine-more_at : (n : ℕ) (s : Scalar) → IsScalar s → AllFine (scalar_more (n + 2) s)
fine-more_at n s h = let e : n + 2 ≡ suc (suc n) = omega arith in rw e (fine-more (suc n) s h)

-- the further lines of a node that is no scalar, or that stands behind a dash
mutual
  unfolding AllFine

  pub fine-item : (t : Tree) → IsTree t → (n : ℕ) → AllFine (node_more (n + 2) t)
  fine-item (scalar s) h n = fine-more_at n s h
  fine-item (list no_trees) h n = tt
  fine-item (list (tree t ts)) h n = fine-append _ _ (fine-item t h.0 (n + 2)) (fine-list ts h.1 (n + 2))
  fine-item (map no_pairs) h n = tt
  fine-item (map (pair k t ps)) h n = fine-append _ _ (fine-pair t h.1 (n + 2)) (fine-map ps h.3 (n + 2))

  pub fine-pair : (t : Tree) → IsTree t → (n : ℕ) → AllFine (pair_more n t)
  fine-pair (scalar s) h n = fine-more_at n s h
  fine-pair (list no_trees) h n = tt
  fine-pair (list (tree t ts)) h n = (fine-line n _ (fine-node (list (tree t ts)) h), fine-append _ _ (fine-item t h.0 n) (fine-list ts h.1 n))
  fine-pair (map no_pairs) h n = tt
  fine-pair (map (pair k t ps)) h n = (fine-line (n + 2) _ (fine-node (map (pair k t ps)) h), fine-append _ _ (fine-pair t h.1 (n + 2)) (fine-map ps h.3 (n + 2)))

  pub fine-list : (ts : Trees) → AreTrees ts → (n : ℕ) → AllFine (list_lines n ts)
  fine-list no_trees h n = tt
  fine-list (tree t ts) h n = (fine-line n _ (fine-node (list (tree t ts)) h), fine-append _ _ (fine-item t h.0 n) (fine-list ts h.1 n))

  pub fine-map : (ps : Pairs) → ArePairs ps → (n : ℕ) → AllFine (map_lines n ps)
  fine-map no_pairs h n = tt
  fine-map (pair k t ps) h n = (fine-line n _ (fine-node (map (pair k t ps)) h), fine-append _ _ (fine-pair t h.1 n) (fine-map ps h.3 n))

pub fine-document : (t : Tree) → IsTree t → AllFine (document_lines t)
unfolding AllFine
fine-document (scalar s) h = (fine-scalar s h, fine-more 1 s h)
fine-document (list no_trees) h = (fine-node (list no_trees) h, tt)
fine-document (list (tree t ts)) h = (fine-node (list (tree t ts)) h, fine-append _ _ (fine-item t h.0 0) (fine-list ts h.1 0))
fine-document (map no_pairs) h = (fine-node (map no_pairs) h, tt)
fine-document (map (pair k t ps)) h = (fine-node (map (pair k t ps)) h, fine-append _ _ (fine-pair t h.1 0) (fine-map ps h.3 0))
