-- The rows of a printed tree, and that its blocks read as the tree.
use Rattle.yaml_spec.specs.Refusals.{place_below}
use Rattle.ytt_base.specs.declared.fault.Place.{Place}
use Rattle.std.proofs.Common.{◌≡◌, ℕ, zero, suc, ◌+◌, ◌≤◌, Bool, true, false, not, ◌||◌, ◌==◌, List, [], ◌∷◌, ◌++◌, length, Some, None, Ok, Err, refl, sym, ◌∙◌, ap, subst, append_assoc, arith, true≢false}
use Rattle.std.proofs.lemmas.List.{append-nil}
use Rattle.std.specs.Prelude.{codes}
use Rattle.std.proofs.lemmas.Bool.{le-leb, lt-leb, eq-eqb, and_parts}
use Rattle.yaml_spec.specs.Bytes.{hash, first, is_blank, is_empty, skip_white}
use Rattle.ytt_base.specs.Outcomes.{Outcome, ◌>>=◌, place_at}
use Rattle.yaml_spec.specs.Lines.{Line, numbered}
use Rattle.ytt_base.specs.Trees.{Scalar, null, boolean, integer, string, IsScalar, Tree, scalar, list, map, Trees, no_trees, tree, Pairs, no_pairs, pair, IsTree, AreTrees, ArePairs, depth, max_depth}
use Rattle.yaml_spec.specs.Flow.{flow, elements, pairs, gap}
use Rattle.yaml_spec.specs.Noted.{Comment, Note, Content, noted_scalar, noted_list, noted_map, no_items, bare_tree, code_in_some, code_within}
use Rattle.yaml_spec.specs.Values.{value, ended, noted}
use Rattle.yaml_spec.specs.Rows.{dash_mark, Head, Row, has_value, least_behind, row_at, taken, rows}
use Rattle.yaml_spec.specs.Entries.{Entry, content_of, entry_content, entry, Doc, note_of, row_comment, starts_with_dash}
use Rattle.yaml_spec.specs.Text.{spaces, fits_plain, fits_literal, pieces, final_breaks, literal_header, key_text}
use Rattle.yaml_back.proofs.KeysBack.{IsLine, key_line, value-line}
use Rattle.yaml_back.proofs.LiteralsBack.{value-literal}
use Rattle.yaml_back.proofs.CutBack.{flat, AllInside, AreEntries, Give}
use Rattle.yaml_back.proofs.TextLines.{content_lines, is_block, block_first, block_more, scalar_first, scalar_more, dash_head, key_head, node_first, node_more, pair_more, list_lines, map_lines, node_heads, node_left, pair_text_left}
use Rattle.yaml_back.proofs.ItemsBack.{AllDeep, deep-less, deep-inside, seen, no_code-item, no_code-content, LeafReads, leaf-taken, leaf-content, leaf-dash, Gives, GivesPair, content-pair, ListBack, MapBack, list-doc, map-doc, item-back, pair-back}
use Rattle.yaml_back.proofs.HeadsBack.{Starts, starts-scalar, starts-node, line_row, line-blank, line-mark, row_at-line, Ends, ends-stops, ends-leaves, ends-more, list-ends, map-ends, node-heads}

-- ---- values without blocks

starts-value : (t : List ℕ) → Starts t → (is_empty t || first t == hash) ≡ false
starts-value t s = ap (λ t. is_empty t || first t == hash) s.is ∙ s.mark

scalar_leaf_line : (t : List ℕ) (s : Scalar) (r : Row) (rest : List Line) → IsLine t s → Starts t → r.text ≡ t → r.below ≡ rest → Ends r.least rest → LeafReads 0 (noted_scalar (scalar s)) 0 r
scalar_leaf_line t s r rest l g x b e = record {
  without_code = refl;
  has = rw x (ap (λ b. not b) (starts-value t g));
  reads = λ left owner cs h.
      let n : r.place.line + 0 ≡ r.place.line = omega arith in
      rw (x, b, n) (value-line left r.open_place r.least owner r.place cs t rest s l (ends-stops r.least rest e));
}

scalar_leaf_block : (s : List ℕ) (m : ℕ) (k : Place) (r : Row) (rest : List Line) → fits_literal s ≡ true → Starts (literal_header (final_breaks (pieces s))) → r.text ≡ literal_header (final_breaks (pieces s)) →
    r.below ≡ numbered k (content_lines m (pieces s)) ++ rest → r.least ≤ m → Ends r.least rest → LeafReads 0 (noted_scalar (scalar (string s))) (length (numbered k (content_lines m (pieces s)))) r
scalar_leaf_block s m k r rest f g x b l e = record {
  without_code = refl;
  has = rw x (ap (λ b. not b) (starts-value _ g));
  reads = λ left owner cs h. rw (x, b) (value-literal left r.open_place r.least owner r.place m k cs rest l (ends-leaves r.least m rest l e) s f);
}

pub scalar-leaf : (s : Scalar) → IsScalar s → (m : ℕ) (k : Place) (r : Row) (rest : List Line) → r.text ≡ scalar_first s → r.below ≡ numbered k (scalar_more m s) ++ rest → r.least ≤ m → Ends r.least rest →
    LeafReads 0 (noted_scalar (scalar s)) (length (numbered k (scalar_more m s))) r
scalar-leaf null h m k r rest x b l e = scalar_leaf_line _ null r rest (key_line null h) (starts-scalar null h) x b e
scalar-leaf (boolean y) h m k r rest x b l e = scalar_leaf_line _ (boolean y) r rest (key_line (boolean y) h) (starts-scalar (boolean y) h) x b e
scalar-leaf (integer z) h m k r rest x b l e = scalar_leaf_line _ (integer z) r rest (key_line (integer z) h) (starts-scalar (integer z) h) x b e
scalar-leaf (string s) h m k r rest x b l e = by_block (is_block (string s)) refl (starts-scalar (string s) h) x b
  where
    by_block : (c : Bool) → is_block (string s) ≡ c →
        Starts (elim c as (λ _. List ℕ) [ true ↦ block_first (string s) | false ↦ key_text (string s) ]) →
        r.text ≡ elim c as (λ _. List ℕ) [ true ↦ block_first (string s) | false ↦ key_text (string s) ] →
        r.below ≡ numbered k (elim c as (λ _. List (List ℕ)) [ true ↦ block_more m (string s) | false ↦ [] ]) ++ rest →
        LeafReads 0 (noted_scalar (scalar (string s))) (length (numbered k (elim c as (λ _. List (List ℕ)) [ true ↦ block_more m (string s) | false ↦ [] ]))) r
    by_block true q g x b = scalar_leaf_block s m k r rest (and_parts (not (fits_plain s)) (fits_literal s) q).1 g x b l e
    by_block false q g x b = scalar_leaf_line _ (string s) r rest (key_line (string s) h) g x b e

list-value : (left : ℕ) (open_place : Place) (least owner : ℕ) (n : Place) (cs : List Comment) (ls : List Line) →
    value (suc left) open_place least owner cs (record { place = n; text = codes "[]"; below = ls }) ≡ Ok (record { content = noted_list no_items; loose = cs; trailing = None; last = n.line })
unfolding value ended noted flow elements gap
list-value left open_place least owner n cs [] = rw (append-nil cs) refl
list-value left open_place least owner n cs (l ∷ ls) = rw (append-nil cs) refl

map-value : (left : ℕ) (open_place : Place) (least owner : ℕ) (n : Place) (cs : List Comment) (ls : List Line) →
    value (suc left) open_place least owner cs (record { place = n; text = codes "{}"; below = ls }) ≡ Ok (record { content = noted_map no_items; loose = cs; trailing = None; last = n.line })
unfolding value ended noted flow pairs gap
map-value left open_place least owner n cs [] = rw (append-nil cs) refl
map-value left open_place least owner n cs (l ∷ ls) = rw (append-nil cs) refl

pub list-leaf : (r : Row) → r.text ≡ codes "[]" → LeafReads 1 (noted_list no_items) 0 r
list-leaf r x = record { without_code = refl; has = rw x refl; reads = by_left }
  where
    by_left : (left owner : ℕ) (cs : List Comment) → 1 ≤ left →
        value left r.open_place r.least owner cs (record { place = r.place; text = r.text; below = r.below }) ≡ Ok (record { content = noted_list no_items; loose = cs; trailing = None; last = r.place.line + 0 })
    by_left zero owner cs h = absurd (omega arith)
    by_left (suc left) owner cs h = let n : r.place.line + 0 ≡ r.place.line = omega arith in rw (x, n) (list-value left r.open_place r.least owner r.place cs r.below)

pub map-leaf : (r : Row) → r.text ≡ codes "{}" → LeafReads 1 (noted_map no_items) 0 r
map-leaf r x = record { without_code = refl; has = rw x refl; reads = by_left }
  where
    by_left : (left owner : ℕ) (cs : List Comment) → 1 ≤ left →
        value left r.open_place r.least owner cs (record { place = r.place; text = r.text; below = r.below }) ≡ Ok (record { content = noted_map no_items; loose = cs; trailing = None; last = r.place.line + 0 })
    by_left zero owner cs h = absurd (omega arith)
    by_left (suc left) owner cs h = let n : r.place.line + 0 ≡ r.place.line = omega arith in rw (x, n) (map-value left r.open_place r.least owner r.place cs r.below)

-- ---- rows

pub numbered-append : (k : Place) (xs ys : List (List ℕ)) → numbered k (xs ++ ys) ≡ numbered k xs ++ numbered (place_below k (length xs)) ys
numbered-append k [] ys = ap (λ n. numbered (place_at k.file n) ys) (let e : k.line ≡ k.line + 0 = omega arith in e)
numbered-append k (x ∷ xs) ys =
    let e : (k.line + 1) + length xs ≡ k.line + suc (length xs) = omega arith in
    rw (numbered-append (place_below k 1) xs ys, e) refl

split-below : (k : Place) (xs ys : List (List ℕ)) (rest : List Line) → numbered k (xs ++ ys) ++ rest ≡ numbered k xs ++ (numbered (place_below k (length xs)) ys ++ rest)
split-below k xs ys rest = ap (λ l. l ++ rest) (numbered-append k xs ys) ∙ append_assoc (numbered k xs) (numbered (place_below k (length xs)) ys) rest

pub rows-skip : (stop : ℕ) (is_owned : Bool) (least : ℕ) (xs rest : List Line) → rows stop is_owned (length xs) least [] (xs ++ rest) ≡ rows stop is_owned 0 least [] rest
unfolding rows
rows-skip stop is_owned least [] rest = refl
rows-skip stop is_owned least (x ∷ xs) rest = rows-skip stop is_owned least xs rest

-- these lines have these rows
unfoldable pub Follows : ℕ → List Line → List Row → Type 0
Follows stop ls rs = (least : ℕ) → rows stop false 0 least [] ls ≡ (rs, [])

-- a line that is a row, with the lines that it takes
pub rows-line : (stop : ℕ) (is_owned : Bool) (least skip : ℕ) (l : Line) (ls : List Line) (r : Row) (rs : List Row) → is_blank l.text ≡ false → (first (skip_white l.text) == hash) ≡ false →
    row_at stop is_owned least [] l ls ≡ r → taken r ≡ Ok (skip, []) → rows stop false skip r.least [] ls ≡ (rs, []) → rows stop is_owned 0 least [] (l ∷ ls) ≡ (r ∷ rs, [])
unfolding rows
rows-line stop is_owned least skip l ls r rs b m e t g = rw (b, rows, m, e, t, rows, e, g) refl

-- ---- nodes

-- a list that is no `[]`, whose lines may stand at the indent of a map's keys
abbrev pub is_dashed : Tree → Bool
is_dashed (list (tree t ts)) = true
is_dashed _ = false

-- what is known of a node whose first row is this one, and behind which stand these rows
pub record NodeBack (stop n : ℕ) (t : Tree) (r : Row) (rest : List Row) : Type 0 where
  pub body : List Row
  pub skip : ℕ
  pub taken : taken r ≡ Ok (skip, [])
  pub goes : rows stop false skip r.least [] r.below ≡ (body ++ rest, [])
  pub deep : AllDeep n body
  pub inside : is_dashed t ≡ true → AllInside false n body
  pub gives : (i : ℕ) (hs : List Head) (left : ℕ) → depth t ≤ left → Gives left (seen r i hs) dash_mark (node_heads n t) body t

pub record PairBack (stop n : ℕ) (t : Tree) (r : Row) (rest : List Row) : Type 0 where
  pub body : List Row
  pub skip : ℕ
  pub taken : taken r ≡ Ok (skip, [])
  pub goes : rows stop false skip r.least [] r.below ≡ (body ++ rest, [])
  pub deep : AllDeep n body
  pub inside : AllInside false n body
  pub gives : (i : ℕ) (hs : List Head) (key : Scalar) (left : ℕ) → depth t ≤ left → GivesPair left (seen r i hs) key body t

-- the row and what follows
pub record NodeAt (stop n l : ℕ) (t : Tree) (r : Row) (k : Place) (rest : List Line) (rrs : List Row) : Type 0 where
  pub text : r.text ≡ node_left t
  pub below : r.below ≡ numbered k (node_more n t) ++ rest
  pub least : r.least ≡ least_behind l (node_heads n t)
  pub low : l ≤ suc n
  pub leaf : node_heads n t ≡ [] → l ≤ n
  pub ends : Ends l rest
  pub before : r.before ≡ []
  pub follows : Follows stop rest rrs

pub record PairAt (stop n : ℕ) (t : Tree) (r : Row) (k : Place) (rest : List Line) (rrs : List Row) : Type 0 where
  pub text : r.text ≡ pair_text_left t
  pub below : r.below ≡ numbered k (pair_more n t) ++ rest
  pub least : r.least ≡ suc n
  pub ends : Ends (suc n) rest
  pub before : r.before ≡ []
  pub follows : Follows stop rest rrs

abbrev pub NodeGoal : ℕ → Tree → Type 0
NodeGoal stop t = (n l : ℕ) (r : Row) (k : Place) (rest : List Line) (rrs : List Row) → NodeAt stop n l t r k rest rrs → NodeBack stop n t r rrs

abbrev pub PairGoal : ℕ → Tree → Type 0
PairGoal stop t = (n : ℕ) (r : Row) (k : Place) (rest : List Line) (rrs : List Row) → PairAt stop n t r k rest rrs → PairBack stop n t r rrs

abbrev pub ListGoal : ℕ → Trees → Type 0
ListGoal stop ts = (n : ℕ) (k : Place) (rest : List Line) (rrs : List Row) → Ends (suc n) rest → Follows stop rest rrs →
    (es : List Entry) × ListBack n ts es × Follows stop (numbered k (list_lines n ts) ++ rest) (flat es ++ rrs)

abbrev pub MapGoal : ℕ → Pairs → Type 0
MapGoal stop ps = (n : ℕ) (k : Place) (rest : List Line) (rrs : List Row) → Ends (suc n) rest → Follows stop rest rrs →
    (es : List Entry) × MapBack n ps es × Follows stop (numbered k (map_lines n ps) ++ rest) (flat es ++ rrs)

leaf-node : (stop n d skip : ℕ) (t : Tree) (c : Content) (r : Row) (rest : List Row) → LeafReads d c skip r → d ≤ max_depth → depth t ≡ d → bare_tree c ≡ t → node_heads n t ≡ [] → r.before ≡ [] →
    rows stop false skip r.least [] r.below ≡ (rest, []) → NodeBack stop n t r rest
unfolding AllDeep AllInside
leaf-node stop n d skip t c r rest f l e h g b s = record {
  body = [];
  skip = skip;
  taken = leaf-taken d c skip r f l b;
  goes = s;
  deep = tt;
  inside = λ q. tt;
  gives = λ i hs left m. rw g (subst (λ t. Gives left (seen r i hs) dash_mark [] [] t) h (leaf-dash d c skip r f i hs left (rw e at m)));
}

leaf-pair : (stop n d skip : ℕ) (t : Tree) (c : Content) (r : Row) (rest : List Row) → LeafReads d c skip r → d ≤ max_depth → depth t ≡ d → bare_tree c ≡ t → r.before ≡ [] →
    rows stop false skip r.least [] r.below ≡ (rest, []) → PairBack stop n t r rest
unfolding AllDeep AllInside
leaf-pair stop n d skip t c r rest f l e h b s = record {
  body = [];
  skip = skip;
  taken = leaf-taken d c skip r f l b;
  goes = s;
  deep = tt;
  inside = tt;
  gives = λ i hs key left m. content-pair left (seen r i hs) key [] t (c, None) (leaf-content d c skip r f i hs left (rw e at m)) h (no_code-item (note_of (seen r i hs) (Some key) None) c refl refl f.without_code);
}

node-scalar : (stop : ℕ) (s : Scalar) → IsScalar s → NodeGoal stop (scalar s)
unfolding Follows
node-scalar stop s h n l r k rest rrs a =
    leaf-node stop n 0 _ (scalar s) (noted_scalar (scalar s)) r rrs (scalar-leaf s h n k r rest a.text a.below (rw a.least (a.leaf refl)) (rw a.least a.ends)) (omega arith) refl refl refl a.before
    (rw a.below (rows-skip stop false r.least (numbered k (scalar_more n s)) rest ∙ a.follows r.least))

node-empty_list : (stop : ℕ) → NodeGoal stop (list no_trees)
unfolding Follows
node-empty_list stop n l r k rest rrs a =
    leaf-node stop n 1 0 (list no_trees) (noted_list no_items) r rrs (list-leaf r a.text) (omega arith) refl refl refl a.before (rw a.below (a.follows r.least))

node-empty_map : (stop : ℕ) → NodeGoal stop (map no_pairs)
unfolding Follows
node-empty_map stop n l r k rest rrs a =
    leaf-node stop n 1 0 (map no_pairs) (noted_map no_items) r rrs (map-leaf r a.text) (omega arith) refl refl refl a.before (rw a.below (a.follows r.least))

-- ---- collections

least-any : (l m : ℕ) (i : Head) (hs : List Head) → least_behind l (i ∷ hs) ≡ least_behind m (i ∷ hs)
least-any l m i [] = refl
least-any l m i (j ∷ hs) = least-any l m j hs

least-step : (l : ℕ) (h : Head) (hs : List Head) → least_behind l (h ∷ hs) ≡ least_behind (suc h.column) hs
least-step l h [] = refl
least-step l h (i ∷ hs) = least-any l (suc h.column) i hs

deep-tail : (n : ℕ) (r : Row) (rs : List Row) → AllDeep n (r ∷ rs) → AllDeep n rs
unfolding AllDeep
deep-tail n r rs d = d.1

inside-tail : (is_list : Bool) (n : ℕ) (r : Row) (rs : List Row) → AllInside is_list n (r ∷ rs) → AllInside is_list n rs
unfolding AllInside
inside-tail is_list n r rs d = d.1

-- the entries as a block
block-gives : (left : ℕ) (t : Tree) (r : Row) (h : Head) (hs : List Head) (body : List Row) → r.before ≡ [] → (c : Content) → Doc left h.column (seen r h.column (h ∷ hs)) body ≡ Ok c → bare_tree c ≡ t → code_within c ≡ false → Gives left r dash_mark (h ∷ hs) body t
unfolding entry
block-gives left t r h hs body b c e g q = record {
  note = note_of r None None;
  content = c;
  tree = g;
  without_code = no_code-item (note_of r None None) c (ap code_in_some b) refl q;
  reads = ap (λ (o : Outcome Content). o >>= (λ c. Ok (note_of r None None, c))) e;
}

-- the entries of a list that begins in this row
record ListAt (stop n : ℕ) (t : Tree) (ts : Trees) (r : Row) (rest : List Row) : Type 0 where
  body : List Row
  others : List Entry
  skip : ℕ
  taken : taken r ≡ Ok (skip, [])
  goes : rows stop false skip r.least [] r.below ≡ (body ++ (flat others ++ rest), [])
  back : ListBack n (tree t ts) (record { row = seen r n (dash_head n ∷ node_heads (n + 2) t); body = body } ∷ others)

record MapAt (stop n : ℕ) (k : Scalar) (t : Tree) (ps : Pairs) (r : Row) (rest : List Row) : Type 0 where
  body : List Row
  others : List Entry
  skip : ℕ
  taken : taken r ≡ Ok (skip, [])
  goes : rows stop false skip r.least [] r.below ≡ (body ++ (flat others ++ rest), [])
  back : MapBack n (pair k t ps) (record { row = seen r n (key_head n k ∷ []); body = body } ∷ others)

list-at : (stop : ℕ) (t : Tree) (ts : Trees) → IsTree t → AreTrees ts → NodeGoal stop t → ListGoal stop ts →
    (n l : ℕ) (r : Row) (k : Place) (rest : List Line) (rrs : List Row) → NodeAt stop n l (list (tree t ts)) r k rest rrs → ListAt stop n t ts r rrs
list-at stop t ts h hs node more n l r k rest rrs a = by (ends-more l (suc n) rest a.low a.ends)
  where
    by_more : Ends (suc n) rest → (m : (es : List Entry) × ListBack n ts es × Follows stop (numbered (place_below k (length (node_more (n + 2) t))) (list_lines n ts) ++ rest) (flat es ++ rrs)) → ListAt stop n t ts r rrs
    by_more e m =
        let b = node (n + 2) (suc n) r k (numbered (place_below k (length (node_more (n + 2) t))) (list_lines n ts) ++ rest) (flat m.0 ++ rrs) (record {
          text = a.text;
          below = a.below ∙ split-below k (node_more (n + 2) t) (list_lines n ts) rest;
          least = a.least ∙ least-step l (dash_head n) (node_heads (n + 2) t);
          low = omega arith;
          leaf = λ q. omega arith;
          ends = list-ends n (place_below k (length (node_more (n + 2) t))) ts rest hs e;
          before = a.before;
          follows = m.2;
        }) in
        record {
          body = b.body;
          others = m.0;
          skip = b.skip;
          taken = b.taken;
          goes = b.goes;
          back = item-back n t ts r b.body m.0 b.deep (b.gives n (dash_head n ∷ node_heads (n + 2) t)) m.1;
        }

    by : Ends (suc n) rest → ListAt stop n t ts r rrs
    by e = by_more e (more n (place_below k (length (node_more (n + 2) t))) rest rrs e a.follows)

map-at : (stop : ℕ) (key : Scalar) (t : Tree) (ps : Pairs) → IsScalar key → IsTree t → ArePairs ps → PairGoal stop t → MapGoal stop ps →
    (n l : ℕ) (r : Row) (k : Place) (rest : List Line) (rrs : List Row) → NodeAt stop n l (map (pair key t ps)) r k rest rrs → MapAt stop n key t ps r rrs
map-at stop key t ps hk h hs node more n l r k rest rrs a = by (ends-more l (suc n) rest a.low a.ends)
  where
    by_more : Ends (suc n) rest → (m : (es : List Entry) × MapBack n ps es × Follows stop (numbered (place_below k (length (pair_more n t))) (map_lines n ps) ++ rest) (flat es ++ rrs)) → MapAt stop n key t ps r rrs
    by_more e m =
        let b = node n r k (numbered (place_below k (length (pair_more n t))) (map_lines n ps) ++ rest) (flat m.0 ++ rrs) (record {
          text = a.text;
          below = a.below ∙ split-below k (pair_more n t) (map_lines n ps) rest;
          least = a.least;
          ends = map-ends n (place_below k (length (pair_more n t))) ps rest hs e;
          before = a.before;
          follows = m.2;
        }) in
        record {
          body = b.body;
          others = m.0;
          skip = b.skip;
          taken = b.taken;
          goes = b.goes;
          back = pair-back n key t ps r b.body m.0 b.deep b.inside (b.gives n (key_head n key ∷ []) key) m.1;
        }

    by : Ends (suc n) rest → MapAt stop n key t ps r rrs
    by e = by_more e (more n (place_below k (length (pair_more n t))) rest rrs e a.follows)

node-list : (stop : ℕ) (t : Tree) (ts : Trees) → IsTree t → AreTrees ts → NodeGoal stop t → ListGoal stop ts → NodeGoal stop (list (tree t ts))
node-list stop t ts h hs node more n l r k rest rrs a =
    let b = list-at stop t ts h hs node more n l r k rest rrs a in
    record {
      body = b.body ++ flat b.others;
      skip = b.skip;
      taken = b.taken;
      goes = b.goes ∙ ap (λ (x : List Row). (x, [])) (sym (append_assoc b.body (flat b.others) rrs));
      deep = deep-tail n _ _ b.back.deep;
      inside = λ q. inside-tail false n _ _ b.back.inside;
      gives = λ i hs' left o.
          let d = list-doc n (tree t ts) _ b.others b.back refl left o in
          block-gives left (list (tree t ts)) (seen r i hs') (dash_head n) (node_heads (n + 2) t) (b.body ++ flat b.others) refl d.0 d.1 d.2 d.3;
    }

node-map : (stop : ℕ) (k : Scalar) (t : Tree) (ps : Pairs) → IsScalar k → IsTree t → ArePairs ps → PairGoal stop t → MapGoal stop ps → NodeGoal stop (map (pair k t ps))
node-map stop key t ps hk h hs node more n l r k rest rrs a =
    let b = map-at stop key t ps hk h hs node more n l r k rest rrs a in
    record {
      body = b.body ++ flat b.others;
      skip = b.skip;
      taken = b.taken;
      goes = b.goes ∙ ap (λ (x : List Row). (x, [])) (sym (append_assoc b.body (flat b.others) rrs));
      deep = deep-tail n _ _ b.back.deep;
      inside = λ q. absurd (true≢false (sym q));
      gives = λ i hs' left o.
          let d = map-doc n (pair key t ps) _ b.others b.back refl left o in
          block-gives left (map (pair key t ps)) (seen r i hs') (key_head n key) [] (b.body ++ flat b.others) refl d.0 d.1 d.2 d.3;
    }

-- ---- lines of a node on lines of its own

-- its first row
abbrev pub first_of : ℕ → Bool → Place → ℕ → Tree → List Line → Row
first_of stop is_owned k n t ls = line_row stop is_owned 0 k n (node_heads n t) (node_left t) ls

least-heads : (l m : ℕ) (hs : List Head) (i : Head) (is : List Head) → hs ≡ i ∷ is → least_behind l hs ≡ least_behind m hs
least-heads l m hs i is e = ap (least_behind l) e ∙ (least-any l m i is ∙ sym (ap (least_behind m) e))

pub row-first : (stop : ℕ) (is_owned : Bool) (least : ℕ) (k : Place) (n : ℕ) (t : Tree) → IsTree t → (i : Head) (is : List Head) → node_heads n t ≡ i ∷ is → (ls : List Line) →
    row_at stop is_owned least [] (record { place = k; text = spaces n ++ node_first t }) ls ≡ first_of stop is_owned k n t ls
row-first stop is_owned least k n t h i is e ls =
    row_at-line stop is_owned least k n (node_first t) (node_left t) (node_heads n t) ls (starts-node t h) (node-heads t h (length (node_first t)) n (omega arith))
    ∙ ap (λ (m : ℕ). record (first_of stop is_owned k n t ls) { least = m }) (least-heads least 0 (node_heads n t) i is e)

pub rows-first : (stop : ℕ) (is_owned : Bool) (least : ℕ) (k : Place) (n skip : ℕ) (t : Tree) → IsTree t → (i : Head) (is : List Head) → node_heads n t ≡ i ∷ is → (ls : List Line) (rs : List Row) →
    taken (first_of stop is_owned k n t ls) ≡ Ok (skip, []) → rows stop false skip (least_behind 0 (node_heads n t)) [] ls ≡ (rs, []) →
    rows stop is_owned 0 least [] (record { place = k; text = spaces n ++ node_first t } ∷ ls) ≡ (first_of stop is_owned k n t ls ∷ rs, [])
rows-first stop is_owned least k n skip t h i is e ls rs w g =
    rows-line stop is_owned least skip _ ls (first_of stop is_owned k n t ls) rs (line-blank n (node_first t) (starts-node t h)) (line-mark n (node_first t) (starts-node t h))
    (row-first stop is_owned least k n t h i is e ls) w g

abbrev pub rest_of : Place → ℕ → Tree → List Line → List Line
rest_of k n t rest = numbered (place_below k 1) (node_more n t) ++ rest

no_leaf : (n l : ℕ) (t : Tree) (i : Head) (is : List Head) → node_heads n t ≡ i ∷ is → node_heads n t ≡ [] → l ≤ n
no_leaf n l t i is e f = absurd (let g : i ∷ is ≡ [] = sym e ∙ f in cc)

pub first-at : (stop : ℕ) (is_owned : Bool) (k : Place) (n l : ℕ) (t : Tree) (i : Head) (is : List Head) → node_heads n t ≡ i ∷ is → (rest : List Line) (rrs : List Row) → l ≤ suc n → Ends l rest → Follows stop rest rrs →
    NodeAt stop n l t (first_of stop is_owned k n t (rest_of k n t rest)) (place_below k 1) rest rrs
first-at stop is_owned k n l t i is e rest rrs low ends follows = record {
  text = refl;
  below = refl;
  least = least-heads 0 l (node_heads n t) i is e;
  low = low;
  leaf = no_leaf n l t i is e;
  ends = ends;
  before = refl;
  follows = follows;
}

list-none : (stop : ℕ) → ListGoal stop no_trees
unfolding AllDeep AllInside AreEntries Give
list-none stop n k rest rrs e f = ([], record { cut = tt; deep = tt; inside = tt; give = λ left l. (no_items, refl, refl, refl) }, f)

map-none : (stop : ℕ) → MapGoal stop no_pairs
unfolding AllDeep AllInside AreEntries Give
map-none stop n k rest rrs e f = ([], record { cut = tt; deep = tt; give = λ left l. (no_items, refl, refl, refl) }, f)

list-cons : (stop : ℕ) (t : Tree) (ts : Trees) → IsTree t → AreTrees ts → NodeGoal stop t → ListGoal stop ts → ListGoal stop (tree t ts)
unfolding Follows
list-cons stop t ts h hs node more n k rest rrs e f =
    let r = first_of stop false k n (list (tree t ts)) (rest_of k n (list (tree t ts)) rest) in
    let b = list-at stop t ts h hs node more n (suc n) r (place_below k 1) rest rrs (first-at stop false k n (suc n) (list (tree t ts)) _ _ refl rest rrs (omega arith) e f) in (
      record { row = r; body = b.body } ∷ b.others,
      b.back,
      λ least.
          rows-first stop false least k n b.skip (list (tree t ts)) (h, hs) _ _ refl (rest_of k n (list (tree t ts)) rest) _ b.taken b.goes
          ∙ ap (λ (x : List Row). (r ∷ x, [])) (sym (append_assoc b.body (flat b.others) rrs)),
    )

map-cons : (stop : ℕ) (key : Scalar) (t : Tree) (ps : Pairs) → ArePairs (pair key t ps) → PairGoal stop t → MapGoal stop ps → MapGoal stop (pair key t ps)
unfolding Follows
map-cons stop key t ps h node more n k rest rrs e f =
    let r = first_of stop false k n (map (pair key t ps)) (rest_of k n (map (pair key t ps)) rest) in
    let b = map-at stop key t ps h.0 h.1 h.3 node more n (suc n) r (place_below k 1) rest rrs (first-at stop false k n (suc n) (map (pair key t ps)) _ _ refl rest rrs (omega arith) e f) in (
      record { row = r; body = b.body } ∷ b.others,
      b.back,
      λ least.
          rows-first stop false least k n b.skip (map (pair key t ps)) h _ _ refl (rest_of k n (map (pair key t ps)) rest) _ b.taken b.goes
          ∙ ap (λ (x : List Row). (r ∷ x, [])) (sym (append_assoc b.body (flat b.others) rrs)),
    )

-- ---- values of pairs

-- the block that an entry with a dash gives
abbrev Noted_content : Type 0
Noted_content = Note × Content

pub undo : (o : Outcome Content) (m note : Note) (c : Content) → ◌>>=◌ {B = Noted_content} o (λ c. Ok (m, c)) ≡ Ok (note, c) → o ≡ Ok c
undo (Ok x) m note c e = ap (λ (o : Outcome Noted_content). o >>= (λ x. Ok x.1)) e
undo (Err x) m note c e = cc

pub block-of : (stop left n : ℕ) (t : Tree) (r : Row) (rest : List Row) (i : Head) (is : List Head) → node_heads n t ≡ i ∷ is → i.column ≡ n → (b : NodeBack stop n t r rest) → depth t ≤ left →
    (c : Content) × (Doc left n (seen r n (node_heads n t)) b.body ≡ Ok c) × (bare_tree c ≡ t) × (code_within c ≡ false)
unfolding entry
block-of stop left n t r rest i is e m b l =
    let g = b.gives n (node_heads n t) left l in
    let x : entry left (Doc left) (seen r n (node_heads n t)) dash_mark (i ∷ is) b.body ≡ Ok (g.note, g.content) =
    subst (λ (hs : List Head). entry left (Doc left) (seen r n (node_heads n t)) dash_mark hs b.body ≡ Ok (g.note, g.content)) e g.reads in
    let y : Doc left i.column (seen r i.column (i ∷ is)) b.body ≡ Ok g.content = undo _ _ _ _ x in
    let z : Doc left n (seen r n (i ∷ is)) b.body ≡ Ok g.content = subst (λ (c : ℕ). Doc left c (seen r c (i ∷ is)) b.body ≡ Ok g.content) m y in
    (g.content, subst (λ (hs : List Head). Doc left n (seen r n hs) b.body ≡ Ok g.content) (sym e) z, g.tree, no_code-content g.note g.content g.without_code)

pub content-block : (left : ℕ) (r : Row) (rs : List Row) (i : Head) (is : List Head) (c : Content) → r.heads ≡ i ∷ is → Doc left r.indent r rs ≡ Ok c → content_of left (Doc left) (r ∷ rs) ≡ Ok (c, None)
unfolding content_of
content-block left r rs i is c e d = rw (e, content_of, d) refl

no_value : (r : Row) → r.text ≡ [] → has_value r ≡ false
no_value r x = rw x refl

below-entry : (left : ℕ) (r : Row) (rs : List Row) (c : Content) → r.text ≡ [] → content_of left (Doc left) rs ≡ Ok (c, None) → entry_content left (Doc left) r rs ≡ Ok (c, row_comment r)
unfolding entry_content
below-entry left r rs c x e = rw (no_value r x, entry_content, e) refl

below-taken : (r : Row) → r.text ≡ [] → taken r ≡ Ok (0, [])
unfolding taken
below-taken r x = rw (no_value r x, taken) refl

-- a block behind a key
pair-block : (stop : ℕ) (t : Tree) → IsTree t → (n c : ℕ) → n ≤ c → (i : Head) (is : List Head) → node_heads c t ≡ i ∷ is → i.column ≡ c → NodeGoal stop t →
    (r : Row) (k : Place) (rest : List Line) (rrs : List Row) → r.text ≡ [] → r.below ≡ numbered k ((spaces c ++ node_first t) ∷ node_more c t) ++ rest → Ends (suc n) rest → r.before ≡ [] → Follows stop rest rrs →
    ((body : List Row) → AllDeep c body → (is_dashed t ≡ true → AllInside false c body) → AllInside false n (first_of stop false k c t (rest_of k c t rest) ∷ body)) → PairBack stop n t r rrs
unfolding AllDeep
pair-block stop t h n c low i is e m node r k rest rrs x b ends before follows inside =
    let f = first_of stop false k c t (rest_of k c t rest) in
    let q = node c (suc n) f (place_below k 1) rest rrs (first-at stop false k c (suc n) t i is e rest rrs (omega arith) ends follows) in
    record {
      body = f ∷ q.body;
      skip = 0;
      taken = below-taken r x;
      goes = rw b (rows-first stop false r.least k c q.skip t h i is e (rest_of k c t rest) _ q.taken q.goes);
      deep = (low, deep-less n c q.body low q.deep);
      inside = inside q.body q.deep q.inside;
      gives = λ j hs key left l.
          let d = block-of stop left c t f rrs i is e m q l in
          content-pair left (seen r j hs) key (f ∷ q.body) t (d.0, row_comment (seen r j hs)) (below-entry left (seen r j hs) (f ∷ q.body) d.0 x (content-block left f q.body i is d.0 e d.1)) d.2
          (no_code-item (note_of (seen r j hs) (Some key) (row_comment (seen r j hs))) d.0 refl (rw x refl) d.3);
    }

list-inside : (n : ℕ) (t : Tree) (ts : Trees) (r : Row) (body : List Row) → r.indent ≡ n → starts_with_dash r ≡ true → AllInside false n body → AllInside false n (r ∷ body)
unfolding AllInside
list-inside n t ts r body e s i = (rw (e, s, eq-eqb n n refl, le-leb n n (omega arith)) refl, i)

map-inside : (n : ℕ) (r : Row) (body : List Row) → r.indent ≡ n + 2 → AllDeep (n + 2) body → AllInside false n (r ∷ body)
unfolding AllInside
map-inside n r body e d = (rw (e, lt-leb (n + 2) n (omega arith)) refl, deep-inside false n (n + 2) body (omega arith) d)

pair-node : (stop : ℕ) (t : Tree) → IsTree t → NodeGoal stop t → PairGoal stop t
unfolding Follows
pair-node stop (scalar s) h node n r k rest rrs a =
    leaf-pair stop n 0 _ (scalar s) (noted_scalar (scalar s)) r rrs (scalar-leaf s h (n + 2) k r rest a.text a.below (rw a.least (omega arith)) (rw a.least a.ends)) (omega arith) refl refl a.before
    (rw a.below (rows-skip stop false r.least (numbered k (scalar_more (n + 2) s)) rest ∙ a.follows r.least))
pair-node stop (list no_trees) h node n r k rest rrs a =
    leaf-pair stop n 1 0 (list no_trees) (noted_list no_items) r rrs (list-leaf r a.text) (omega arith) refl refl a.before (rw a.below (a.follows r.least))
pair-node stop (list (tree t ts)) h node n r k rest rrs a =
    pair-block stop (list (tree t ts)) h n n (omega arith) _ _ refl refl node r k rest rrs a.text a.below a.ends a.before a.follows
    (λ body d i. list-inside n t ts _ body refl refl (i refl))
pair-node stop (map no_pairs) h node n r k rest rrs a =
    leaf-pair stop n 1 0 (map no_pairs) (noted_map no_items) r rrs (map-leaf r a.text) (omega arith) refl refl a.before (rw a.below (a.follows r.least))
pair-node stop (map (pair key t ps)) h node n r k rest rrs a =
    pair-block stop (map (pair key t ps)) h n (n + 2) (omega arith) _ _ refl refl node r k rest rrs a.text a.below a.ends a.before a.follows
    (λ body d i. map-inside n _ body refl d)

-- ---- trees

mutual
  pub node-back : (stop : ℕ) (t : Tree) → IsTree t → NodeGoal stop t
  node-back stop (scalar s) h = node-scalar stop s h
  node-back stop (list no_trees) h = node-empty_list stop
  node-back stop (list (tree t ts)) h = node-list stop t ts h.0 h.1 (node-back stop t h.0) (list-back stop ts h.1)
  node-back stop (map no_pairs) h = node-empty_map stop
  node-back stop (map (pair k t ps)) h = node-map stop k t ps h.0 h.1 h.3 (pair-node stop t h.1 (node-back stop t h.1)) (map-back stop ps h.3)

  pub list-back : (stop : ℕ) (ts : Trees) → AreTrees ts → ListGoal stop ts
  list-back stop no_trees h = list-none stop
  list-back stop (tree t ts) h = list-cons stop t ts h.0 h.1 (node-back stop t h.0) (list-back stop ts h.1)

  pub map-back : (stop : ℕ) (ps : Pairs) → ArePairs ps → MapGoal stop ps
  map-back stop no_pairs h = map-none stop
  map-back stop (pair k t ps) h = map-cons stop k t ps h (pair-node stop t h.1 (node-back stop t h.1)) (map-back stop ps h.3)
