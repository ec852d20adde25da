-- The lines of a printed node: its heads, and where it ends.
use Rattle.ytt_base.specs.declared.fault.Place.{Place}
use Rattle.std.proofs.Common.{◌≡◌, ℕ, zero, suc, ◌+◌, ◌-◌, ◌≤◌, Bool, true, false, not, ◌&&◌, ◌||◌, ◌==◌, List, [], ◌∷◌, ◌++◌, length, None, refl, sym, ◌∙◌, ap, subst, arith}
use Rattle.std.proofs.lemmas.List.{append-nil, length-replicate, length-append}
use Rattle.std.proofs.lemmas.Bool.{lt-leb, lt-ltb, le-ltb, ltb-true}
use Rattle.std.specs.Prelude.{nat_lt, codes}
use Rattle.yaml_spec.specs.Bytes.{hash, dash, colon, space, first, is_white, is_blank, is_empty, is_gap, indent, skip_white}
use Rattle.yaml_spec.specs.Lines.{Line, numbered}
use Rattle.ytt_base.specs.Trees.{Scalar, null, boolean, integer, string, IsScalar, Tree, scalar, list, map, Trees, no_trees, tree, Pairs, no_pairs, pair, IsTree, AreTrees, ArePairs}
use Rattle.yaml_spec.specs.Blocks.{is_spaces}
use Rattle.yaml_spec.specs.Plain.{start_fault, ends_in_flow}
use Rattle.yaml_spec.specs.Flow.{flow, elements, pairs, gap}
use Rattle.yaml_spec.specs.Rows.{Head, Row, key_at, is_dash, heads_of, least_behind, open_place_of, row_at}
use Rattle.yaml_spec.specs.Text.{spaces, pieces, final_breaks, literal_header, key_text}
use Rattle.yaml_back.proofs.PlainBack.{IsTail}
use Rattle.yaml_back.proofs.ValuesBack.{Stops}
use Rattle.yaml_back.proofs.KeysBack.{IsLine, key_line, key_at-key, key_at-none, no_dash-line, first-line}
use Rattle.yaml_back.proofs.LiteralsBack.{Leaves, indent_line, full_line, no_space}
use Rattle.yaml_back.proofs.TextLines.{is_block, block_first, scalar_first, dash_head, key_head, node_first, pair_first, list_lines, map_lines, node_heads, node_left, pair_text_left}

-- ---- how a text starts

pub record Starts (x : List ℕ) : Type 0 where
  pub byte : ℕ
  pub rest : List ℕ
  pub is : x ≡ byte ∷ rest
  pub white : is_white byte ≡ false
  pub mark : (byte == hash) ≡ false
  pub percent : (byte == 37) ≡ false

starts-line : (t rest : List ℕ) (s : Scalar) → IsLine t s → Starts (t ++ rest)
starts-line t rest s l = let f = first-line t s l in record { byte = f.0; rest = f.1 ++ rest; is = ap (λ t. t ++ rest) f.2; white = f.3; mark = f.4; percent = f.5 }

starts-header : (f : ℕ) → Starts (literal_header f)
starts-header zero = record { byte = 124; rest = codes "-"; is = refl; white = refl; mark = refl; percent = refl }
starts-header (suc zero) = record { byte = 124; rest = []; is = refl; white = refl; mark = refl; percent = refl }
starts-header (suc (suc f)) = record { byte = 124; rest = codes "+"; is = refl; white = refl; mark = refl; percent = refl }

pub starts-scalar : (s : Scalar) → IsScalar s → Starts (scalar_first s)
starts-scalar null h = subst Starts (append-nil (key_text null)) (starts-line _ [] null (key_line null h))
starts-scalar (boolean b) h = subst Starts (append-nil (key_text (boolean b))) (starts-line _ [] (boolean b) (key_line (boolean b) h))
starts-scalar (integer z) h = subst Starts (append-nil (key_text (integer z))) (starts-line _ [] (integer z) (key_line (integer z) h))
starts-scalar (string s) h = by_block (is_block (string s))
  where
    by_block : (b : Bool) → Starts (elim b as (λ _. List ℕ) [ true ↦ block_first (string s) | false ↦ key_text (string s) ])
    by_block true = starts-header (final_breaks (pieces s))
    by_block false = subst Starts (append-nil (key_text (string s))) (starts-line _ [] (string s) (key_line (string s) h))

pub starts-node : (t : Tree) → IsTree t → Starts (node_first t)
starts-node (scalar s) h = starts-scalar s h
starts-node (list no_trees) h = record { byte = 91; rest = codes "]"; is = refl; white = refl; mark = refl; percent = refl }
starts-node (list (tree t ts)) h = record { byte = 45; rest = space ∷ node_first t; is = refl; white = refl; mark = refl; percent = refl }
starts-node (map no_pairs) h = record { byte = 123; rest = codes "}"; is = refl; white = refl; mark = refl; percent = refl }
starts-node (map (pair k t ps)) h = starts-line (key_text k) (colon ∷ pair_first t) k (key_line k h.0)

pub starts-skip : (x : List ℕ) → Starts x → skip_white x ≡ x
starts-skip x s = let e : skip_white (s.byte ∷ s.rest) ≡ s.byte ∷ s.rest = rw (s.white, skip_white) refl in ap skip_white s.is ∙ (e ∙ sym s.is)

starts-indent : (x : List ℕ) → Starts x → indent x ≡ 0
starts-indent x s = let e : indent (s.byte ∷ s.rest) ≡ 0 = rw (no_space s.byte s.white, indent) refl in ap indent s.is ∙ e

-- ---- a line of an indent

skip-spaces : (n : ℕ) (x : List ℕ) → skip_white (spaces n ++ x) ≡ skip_white x
skip-spaces zero x = refl
skip-spaces (suc n) x = skip-spaces n x

pub line-skip : (n : ℕ) (x : List ℕ) → Starts x → skip_white (spaces n ++ x) ≡ x
line-skip n x s = skip-spaces n x ∙ starts-skip x s

pub line-indent : (n : ℕ) (x : List ℕ) → Starts x → indent (spaces n ++ x) ≡ n
line-indent n x s = ap (λ x. indent (spaces n ++ x)) s.is ∙ indent_line n s.byte s.rest (no_space s.byte s.white)

pub line-full : (n : ℕ) (x : List ℕ) → Starts x → is_spaces (spaces n ++ x) ≡ false
line-full n x s = ap (λ x. is_spaces (spaces n ++ x)) s.is ∙ full_line n s.byte s.rest (no_space s.byte s.white)

pub line-blank : (n : ℕ) (x : List ℕ) → Starts x → is_blank (spaces n ++ x) ≡ false
line-blank n x s = ap is_empty (line-skip n x s ∙ s.is)

pub line-mark : (n : ℕ) (x : List ℕ) → Starts x → (first (skip_white (spaces n ++ x)) == hash) ≡ false
line-mark n x s = ap (λ t. first t == hash) (line-skip n x s ∙ s.is) ∙ s.mark

line-passed : (n : ℕ) (x : List ℕ) → length (spaces n ++ x) - length x ≡ n
line-passed n x = omega (arith, length-append (spaces n) x, length-replicate n space)

-- a line that is a row
abbrev pub line_row : ℕ → Bool → ℕ → Place → ℕ → List Head → List ℕ → List Line → Row
line_row stop is_owned least k n hs t ls = record {
  place = k;
  indent = n;
  heads = hs;
  before = [];
  is_owned = is_owned;
  least = least_behind least hs;
  open_place = open_place_of stop k;
  text = t;
  below = ls;
}

pub row_at-line : (stop : ℕ) (is_owned : Bool) (least : ℕ) (k : Place) (n : ℕ) (x t : List ℕ) (hs : List Head) (ls : List Line) → Starts x → heads_of (length x) n false x ≡ (hs, t) →
    row_at stop is_owned least [] (record { place = k; text = spaces n ++ x }) ls ≡ line_row stop is_owned least k n hs t ls
unfolding row_at
row_at-line stop is_owned least k n x t hs ls s e =
    rw (line-skip n x s, line-passed n x, line-indent n x s, le-ltb n n (omega arith), e) refl

-- ---- what follows

-- the next line has less indent
unfoldable pub Ends : ℕ → List Line → Type 0
Ends least [] = Unit {0}
Ends least (l ∷ ls) = (is_blank l.text ≡ false) × (is_spaces l.text ≡ false) × (nat_lt (indent l.text) least ≡ true)

either : (b : Bool) (t : List ℕ) → (b || (not false && true) || ends_in_flow false t) ≡ true
either true t = refl
either false t = refl

pub ends-stops : (least : ℕ) (ls : List Line) → Ends least ls → Stops least ls
unfolding Ends Stops
ends-stops least [] e = tt
ends-stops least (l ∷ ls) e = (e.0, rw e.2 (either (first (skip_white l.text) == hash) (skip_white l.text)))

pub ends-leaves : (least m : ℕ) (ls : List Line) → least ≤ m → Ends least ls → Leaves m ls
unfolding Ends Leaves
ends-leaves least m [] l e = tt
ends-leaves least m (x ∷ xs) l e = let k = ltb-true (indent x.text) least e.2 in (e.1, lt-leb m (indent x.text) (omega arith))

pub ends-more : (m n : ℕ) (ls : List Line) → m ≤ n → Ends m ls → Ends n ls
unfolding Ends
ends-more m n [] l e = tt
ends-more m n (x ∷ xs) l e = let k = ltb-true (indent x.text) m e.2 in (e.0, e.1, lt-ltb (indent x.text) n (omega arith))

line-ends : (n : ℕ) (k : Place) (x : List ℕ) (ls : List Line) → Starts x → Ends (suc n) (record { place = k; text = spaces n ++ x } ∷ ls)
unfolding Ends
line-ends n k x ls s = (line-blank n x s, line-full n x s, rw (line-indent n x s) (lt-ltb n (suc n) (omega arith)))

pub list-ends : (n : ℕ) (k : Place) (ts : Trees) (rest : List Line) → AreTrees ts → Ends (suc n) rest → Ends (suc n) (numbered k (list_lines n ts) ++ rest)
list-ends n k no_trees rest h e = e
list-ends n k (tree t ts) rest h e = line-ends n k (dash ∷ space ∷ node_first t) _ (record { byte = 45; rest = space ∷ node_first t; is = refl; white = refl; mark = refl; percent = refl })

pub map-ends : (n : ℕ) (k : Place) (ps : Pairs) (rest : List Line) → ArePairs ps → Ends (suc n) rest → Ends (suc n) (numbered k (map_lines n ps) ++ rest)
map-ends n k no_pairs rest h e = e
map-ends n k (pair key t ps) rest h e = line-ends n k (key_text key ++ (colon ∷ pair_first t)) _ (starts-line (key_text key) (colon ∷ pair_first t) key (key_line key h.0))

-- ---- heads

no_heads : (f n : ℕ) (t : List ℕ) → is_dash t ≡ false → key_at t ≡ None → heads_of f n false t ≡ ([], t)
unfolding heads_of
no_heads zero n t d k = refl
no_heads (suc f) n t d k = rw (d, heads_of, k) refl

header-key : (f : ℕ) → (is_dash (literal_header f) ≡ false) × (key_at (literal_header f) ≡ None)
unfolding key_at start_fault
header-key zero = (refl, refl)
header-key (suc zero) = (refl, refl)
header-key (suc (suc f)) = (refl, refl)

line-key : (t : List ℕ) (s : Scalar) → IsLine t s → (is_dash t ≡ false) × (key_at t ≡ None)
unfolding IsTail
line-key t s l = (ap is_dash (sym (append-nil t)) ∙ no_dash-line t [] s l tt, key_at-none t s l)

scalar-key : (s : Scalar) → IsScalar s → (is_dash (scalar_first s) ≡ false) × (key_at (scalar_first s) ≡ None)
scalar-key null h = line-key _ null (key_line null h)
scalar-key (boolean b) h = line-key _ (boolean b) (key_line (boolean b) h)
scalar-key (integer z) h = line-key _ (integer z) (key_line (integer z) h)
scalar-key (string s) h = by_block (is_block (string s))
  where
    by_block : (b : Bool) → let t : List ℕ = elim b as (λ _. List ℕ) [ true ↦ block_first (string s) | false ↦ key_text (string s) ] in (is_dash t ≡ false) × (key_at t ≡ None)
    by_block true = header-key (final_breaks (pieces s))
    by_block false = line-key _ (string s) (key_line (string s) h)

list-key : key_at (codes "[]") ≡ None
unfolding key_at flow elements gap
list-key = refl

map-key : key_at (codes "{}") ≡ None
unfolding key_at flow pairs gap
map-key = refl

pair-gap : (t : Tree) → is_gap (pair_first t) ≡ true
pair-gap (scalar s) = refl
pair-gap (list no_trees) = refl
pair-gap (list (tree t ts)) = refl
pair-gap (map no_pairs) = refl
pair-gap (map (pair k t ps)) = refl

pair-skip : (t : Tree) → IsTree t → skip_white (pair_first t) ≡ pair_text_left t
pair-skip (scalar s) h = starts-skip (scalar_first s) (starts-scalar s h)
pair-skip (list no_trees) h = refl
pair-skip (list (tree t ts)) h = refl
pair-skip (map no_pairs) h = refl
pair-skip (map (pair k t ps)) h = refl

map-heads : (f n : ℕ) (k : Scalar) (t : Tree) → IsScalar k → IsTree t → heads_of (suc f) n false (key_text k ++ (colon ∷ pair_first t)) ≡ (key_head n k ∷ [], pair_text_left t)
unfolding heads_of IsTail
map-heads f n k t h i =
    rw (no_dash-line (key_text k) (colon ∷ pair_first t) k (key_line k h) (refl, pair-gap t), heads_of, key_at-key (key_text k) (pair_first t) k (key_line k h) (pair-gap t), pair-skip t i) refl

list-heads : (f n : ℕ) (x t : List ℕ) (hs : List Head) → Starts x → heads_of f (n + 2) false x ≡ (hs, t) → heads_of (suc f) n false (dash ∷ space ∷ x) ≡ (dash_head n ∷ hs, t)
unfolding heads_of
list-heads f n x t hs s e =
    let a : suc (length x) - length x ≡ 1 = omega arith in
    let b : n + 1 + 1 ≡ n + 2 = omega arith in
    rw (starts-skip x s, a, b, starts-indent x s, e) refl

pub node-heads : (t : Tree) → IsTree t → (f n : ℕ) → length (node_first t) ≤ f → heads_of f n false (node_first t) ≡ (node_heads n t, node_left t)
node-heads (scalar s) h f n l = let k = scalar-key s h in no_heads f n (scalar_first s) k.0 k.1
node-heads (list no_trees) h f n l = no_heads f n (codes "[]") refl list-key
node-heads (list (tree t ts)) h zero n l = absurd (omega arith)
node-heads (list (tree t ts)) h (suc f) n l = list-heads f n (node_first t) _ _ (starts-node t h.0) (node-heads t h.0 f (n + 2) (omega arith))
node-heads (map no_pairs) h f n l = no_heads f n (codes "{}") refl map-key
node-heads (map (pair k t ps)) h zero n l = absurd (let e = length-append (key_text k) (colon ∷ pair_first t) in omega arith)
node-heads (map (pair k t ps)) h (suc f) n l = map-heads f n k t h.0 h.1
