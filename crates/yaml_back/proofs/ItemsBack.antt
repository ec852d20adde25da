-- Entries whose rows are those of printed trees give these trees.
use Rattle.std.proofs.Common.{◌≡◌, ℕ, zero, suc, ◌+◌, ◌-◌, ◌<◌, ◌≤◌, Bool, true, false, List, [], ◌∷◌, ◌++◌, Some, None, Ok, refl, ap, arith, if◌then◌else◌}
use Rattle.std.proofs.lemmas.Bool.{le-leb, lt-leb, eq-eqb, or_from, or_parts}
use Rattle.yaml_spec.specs.Bytes.{is_empty}
use Rattle.ytt_base.specs.Outcomes.{Outcome, ◌>>=◌}
use Rattle.ytt_base.specs.Trees.{Scalar, Tree, list, map, Trees, tree, Pairs, pair, depth, trees_depth, pairs_depth, max_depth}
use Rattle.yaml_spec.specs.Noted.{Comment, Note, Content, noted_list, noted_map, Items, no_items, item, key_of, bare_tree, bare_trees, bare_pairs, code_among, code_in_some, code_within}
use Rattle.yaml_spec.specs.Values.{value}
use Rattle.yaml_spec.specs.Rows.{Mark, dash_mark, key_mark, Head, Row, has_value, owner_of, passing, taken}
use Rattle.yaml_spec.specs.Entries.{Found, Entry, cut_after, cut_block, starts_with_dash, note_of, entry_content, entry, entry_at, Doc}
use Rattle.yaml_back.proofs.CutBack.{flat, AllInside, AreEntries, cut-flat, Give, entries-give}
use Rattle.yaml_back.proofs.TextLines.{dash_head, key_head, node_heads}

-- ---- rows of an indent

unfoldable pub AllDeep : ℕ → List Row → Type 0
AllDeep n [] = Unit {0}
AllDeep n (r ∷ rs) = (n ≤ r.indent) × AllDeep n rs

pub deep-append : (n : ℕ) (xs ys : List Row) → AllDeep n xs → AllDeep n ys → AllDeep n (xs ++ ys)
unfolding AllDeep
deep-append n [] ys p q = q
deep-append n (x ∷ xs) ys p q = (p.0, deep-append n xs ys p.1 q)

pub deep-less : (m n : ℕ) (xs : List Row) → m ≤ n → AllDeep n xs → AllDeep m xs
unfolding AllDeep
deep-less m n [] l p = tt
deep-less m n (x ∷ xs) l p = (let q = p.0 in omega arith, deep-less m n xs l p.1)

pub deep-inside : (is_list : Bool) (m n : ℕ) (xs : List Row) → m < n → AllDeep n xs → AllInside is_list m xs
unfolding AllDeep AllInside
deep-inside is_list m n [] l p = tt
deep-inside is_list m n (x ∷ xs) l p = (let q = p.0 in rw (lt-leb x.indent m (omega arith)) refl, deep-inside is_list m n xs l p.1)

pub inside-append : (is_list : Bool) (n : ℕ) (xs ys : List Row) → AllInside is_list n xs → AllInside is_list n ys → AllInside is_list n (xs ++ ys)
unfolding AllInside
inside-append is_list n [] ys p q = q
inside-append is_list n (x ∷ xs) ys p q = (p.0, inside-append is_list n xs ys p.1 q)

-- the row, where other heads of it are left
abbrev pub seen : Row → ℕ → List Head → Row
seen r i hs = record r { indent = i; heads = hs; before = [] }

-- ---- comments of code

-- no comment of this item is code
abbrev pub HasNoCode : Note → Content → Type 0
HasNoCode n c = code_among (item n c no_items) ≡ false

pub no_code-item : (n : Note) (c : Content) → code_in_some n.before ≡ false → n.trailing ≡ None → code_within c ≡ false → HasNoCode n c
no_code-item n c b t q = rw (b, t, q) refl

pub no_code-content : (n : Note) (c : Content) → HasNoCode n c → code_within c ≡ false
no_code-content n c q = (or_parts _ (code_within c) (or_parts _ false q).0).1

pub no_code-more : (n : Note) (c : Content) (is : Items) → HasNoCode n c → code_among is ≡ false → code_among (item n c is) ≡ false
no_code-more n c is q h = or_from _ (code_among is) (or_parts _ false q).0 h

-- ---- a row by its value

-- the value of the row takes so many further lines
pub record LeafReads (d : ℕ) (c : Content) (skip : ℕ) (r : Row) : Type 0 where
  pub without_code : code_within c ≡ false
  pub has : has_value r ≡ true
  pub reads : (left owner : ℕ) (cs : List Comment) → d ≤ left →
      value left r.open_place r.least owner cs (record { place = r.place; text = r.text; below = r.below }) ≡ Ok (record { content = c; loose = cs; trailing = None; last = r.place.line + skip })

passing-nil : (r : Row) → r.before ≡ [] → passing r ≡ []
passing-nil r e = go (is_empty r.heads)
  where
    go : (b : Bool) → (if b then r.before else []) ≡ []
    go true = e
    go false = refl

pub leaf-taken : (d : ℕ) (c : Content) (skip : ℕ) (r : Row) → LeafReads d c skip r → d ≤ max_depth → r.before ≡ [] → taken r ≡ Ok (skip, [])
unfolding taken
leaf-taken d c skip r f l e =
    let n : (r.place.line + skip) - r.place.line ≡ skip = omega arith in
    rw (f.has, taken, f.reads max_depth (owner_of r) (passing r) l, passing-nil r e, n) refl

-- what an entry with this mark and these heads behind it gives
pub record Gives (left : ℕ) (r : Row) (m : Mark) (hs : List Head) (body : List Row) (t : Tree) : Type 0 where
  pub note : Note
  pub content : Content
  pub reads : entry left (Doc left) r m hs body ≡ Ok (note, content)
  pub tree : bare_tree content ≡ t
  pub without_code : HasNoCode note content

pub leaf-content : (d : ℕ) (c : Content) (skip : ℕ) (r : Row) → LeafReads d c skip r → (i : ℕ) (hs : List Head) (left : ℕ) → d ≤ left →
    entry_content left (Doc left) (seen r i hs) [] ≡ Ok (c, None)
unfolding entry_content
leaf-content d c skip r f i hs left l = rw (f.has, entry_content, f.reads left (owner_of (seen r i hs)) (passing (seen r i hs)) l) refl

pub leaf-dash : (d : ℕ) (c : Content) (skip : ℕ) (r : Row) → LeafReads d c skip r → (i : ℕ) (hs : List Head) (left : ℕ) → d ≤ left →
    Gives left (seen r i hs) dash_mark [] [] (bare_tree c)
unfolding entry
leaf-dash d c skip r f i hs left l = record {
  note = note_of (seen r i hs) None None;
  content = c;
  tree = refl;
  without_code = no_code-item (note_of (seen r i hs) None None) c refl refl f.without_code;
  reads = ap (λ (o : Outcome Found). o >>= (λ f. Ok (note_of (seen r i hs) None f.1, f.0))) (leaf-content d c skip r f i hs left l);
}

-- an entry with a key
pub record GivesPair (left : ℕ) (r : Row) (k : Scalar) (body : List Row) (t : Tree) : Type 0 where
  pub note : Note
  pub content : Content
  pub reads : entry left (Doc left) r (key_mark (Ok k)) [] body ≡ Ok (note, content)
  pub tree : bare_tree content ≡ t
  pub without_code : HasNoCode note content
  pub key : key_of note ≡ k

pub content-pair : (left : ℕ) (r : Row) (k : Scalar) (body : List Row) (t : Tree) (f : Found) → entry_content left (Doc left) r body ≡ Ok f → bare_tree f.0 ≡ t → HasNoCode (note_of r (Some k) f.1) f.0 → GivesPair left r k body t
unfolding entry
content-pair left r k body t f e h q = record {
  note = note_of r (Some k) f.1;
  content = f.0;
  tree = h;
  without_code = q;
  key = refl;
  reads = ap (λ (o : Outcome Found). o >>= (λ f. Ok (note_of r (Some k) f.1, f.0))) e;
}

-- ---- blocks

pub record ListBack (n : ℕ) (ts : Trees) (es : List Entry) : Type 0 where
  pub cut : AreEntries true n es
  pub deep : AllDeep n (flat es)
  pub inside : AllInside false n (flat es)
  pub give : (left : ℕ) → trees_depth ts ≤ left → (is : Items) × Give left true n es is × (bare_trees is ≡ ts) × (code_among is ≡ false)

pub record MapBack (n : ℕ) (ps : Pairs) (es : List Entry) : Type 0 where
  pub cut : AreEntries false n es
  pub deep : AllDeep n (flat es)
  pub give : (left : ℕ) → pairs_depth ps ≤ left → (is : Items) × Give left false n es is × (bare_pairs is ≡ ps) × (code_among is ≡ false)

cut-block : (is_list : Bool) (n : ℕ) (e : Entry) (es : List Entry) → AreEntries is_list n (e ∷ es) → cut_block is_list n e.row (e.body ++ flat es) ≡ e ∷ es
unfolding AreEntries cut_after
cut-block is_list n e es h =
    let p = cut-flat is_list n (e ∷ es) h in
    ap (λ (c : List Row × List Entry). c.1) (rw h.0 at p)

pub list-doc : (n : ℕ) (ts : Trees) (e : Entry) (es : List Entry) → ListBack n ts (e ∷ es) → starts_with_dash e.row ≡ true → (left : ℕ) → suc (trees_depth ts) ≤ left →
    (c : Content) × (Doc left n e.row (e.body ++ flat es) ≡ Ok c) × (bare_tree c ≡ list ts) × (code_within c ≡ false)
unfolding Doc
list-doc n ts e es b s zero l = absurd (omega arith)
list-doc n ts e es b s (suc left) l =
    let g = b.give left (omega arith) in
    (noted_list g.0, rw (s, cut-block true n e es b.cut, entries-give left true n (e ∷ es) g.0 g.1) refl, ap (λ ts. list ts) g.2, g.3)

pub map-doc : (n : ℕ) (ps : Pairs) (e : Entry) (es : List Entry) → MapBack n ps (e ∷ es) → starts_with_dash e.row ≡ false → (left : ℕ) → suc (pairs_depth ps) ≤ left →
    (c : Content) × (Doc left n e.row (e.body ++ flat es) ≡ Ok c) × (bare_tree c ≡ map ps) × (code_within c ≡ false)
unfolding Doc
map-doc n ps e es b s zero l = absurd (omega arith)
map-doc n ps e es b s (suc left) l =
    let g = b.give left (omega arith) in
    (noted_map g.0, rw (s, cut-block false n e es b.cut, entries-give left false n (e ∷ es) g.0 g.1) refl, ap (λ ps. map ps) g.2, g.3)

-- ---- one more entry

abbrev GiveTrees : ℕ → ℕ → List Entry → Trees → Type 0
GiveTrees left n es ts = (is : Items) × Give left true n es is × (bare_trees is ≡ ts) × (code_among is ≡ false)

abbrev GivePairs : ℕ → ℕ → List Entry → Pairs → Type 0
GivePairs left n es ps = (is : Items) × Give left false n es is × (bare_pairs is ≡ ps) × (code_among is ≡ false)

give-item : (left n : ℕ) (t : Tree) (ts : Trees) (r : Row) (hs : List Head) (body : List Row) (es : List Entry) →
    Gives left (seen r n (dash_head n ∷ hs)) dash_mark hs body t → GiveTrees left n es ts → GiveTrees left n (record { row = seen r n (dash_head n ∷ hs); body = body } ∷ es) (tree t ts)
unfolding Give entry_at
give-item left n t ts r hs body es x y =
    (item x.note x.content y.0, ((x.note, x.content), y.0, rw (eq-eqb n n refl, entry_at) x.reads, y.1, refl), rw (x.tree, y.2) refl, no_code-more x.note x.content y.0 x.without_code y.3)

give-pair : (left n : ℕ) (k : Scalar) (t : Tree) (ps : Pairs) (r : Row) (body : List Row) (es : List Entry) →
    GivesPair left (seen r n (key_head n k ∷ [])) k body t → GivePairs left n es ps → GivePairs left n (record { row = seen r n (key_head n k ∷ []); body = body } ∷ es) (pair k t ps)
unfolding Give entry_at
give-pair left n k t ps r body es x y =
    (item x.note x.content y.0, ((x.note, x.content), y.0, rw (eq-eqb n n refl, entry_at) x.reads, y.1, refl), rw (x.key, x.tree, y.2) refl, no_code-more x.note x.content y.0 x.without_code y.3)

pub item-back : (n : ℕ) (t : Tree) (ts : Trees) (r : Row) (body : List Row) (es : List Entry) → AllDeep (n + 2) body →
    ((left : ℕ) → depth t ≤ left → Gives left (seen r n (dash_head n ∷ node_heads (n + 2) t)) dash_mark (node_heads (n + 2) t) body t) →
    ListBack n ts es → ListBack n (tree t ts) (record { row = seen r n (dash_head n ∷ node_heads (n + 2) t); body = body } ∷ es)
unfolding AllDeep AllInside AreEntries Give entry_at
item-back n t ts r body es d g b = record {
  cut = (rw (le-leb n n (omega arith)) refl, deep-inside true n (n + 2) body (omega arith) d, b.cut);
  deep = (omega arith, deep-append n body (flat es) (deep-less n (n + 2) body (omega arith) d) b.deep);
  inside = (rw (eq-eqb n n refl, le-leb n n (omega arith)) refl, inside-append false n body (flat es) (deep-inside false n (n + 2) body (omega arith) d) b.inside);
  give = λ left l. give-item left n t ts r (node_heads (n + 2) t) body es (g left (omega arith)) (b.give left (omega arith));
}

pub pair-back : (n : ℕ) (k : Scalar) (t : Tree) (ps : Pairs) (r : Row) (body : List Row) (es : List Entry) → AllDeep n body → AllInside false n body →
    ((left : ℕ) → depth t ≤ left → GivesPair left (seen r n (key_head n k ∷ [])) k body t) →
    MapBack n ps es → MapBack n (pair k t ps) (record { row = seen r n (key_head n k ∷ []); body = body } ∷ es)
unfolding AllDeep AllInside AreEntries Give entry_at
pair-back n k t ps r body es d i g b = record {
  cut = (rw (eq-eqb n n refl, le-leb n n (omega arith)) refl, i, b.cut);
  deep = (omega arith, deep-append n body (flat es) d b.deep);
  give = λ left l. give-pair left n k t ps r body es (g left (omega arith)) (b.give left (omega arith));
}
