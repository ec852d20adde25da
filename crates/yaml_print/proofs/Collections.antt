-- The text of a list or a map, one member after another.
use Rattle.std.proofs.Common.{◌≡◌, ℕ, ◌+◌, ◌<◌, List, [], ◌∷◌, ◌++◌, length, codes, refl, ap, ◌∙◌, sym, arith, rules, append_assoc}
use Rattle.std.specs.List.{flat_map}
use Rattle.ytt_base.specs.declared.tree.Key.{Key}
use Rattle.ytt_base.specs.declared.tree.Tree as held
use Rattle.ytt_base.specs.declared.tree.Tree.{Tree, the_lemmas}
use Rattle.ytt_base.specs.View.{key_of, pairs_of, tree_of, trees_of}
use Rattle.ytt_base.proofs.Views.{tree_of-List, tree_of-Map}
use Rattle.yaml_print.specs.LineText.{line_text}
use Rattle.yaml_spec.specs.Text.{key_text, list_text, map_text, node_text, pair_text, spaces}

-- ---- a member from the start of a line

abbrev pub element_line : ℕ → Tree → List ℕ
element_line n t = spaces n ++ (codes "- " ++ node_text (n + 2) (tree_of t))

abbrev pub pair_line : ℕ → Key × Tree → List ℕ
pair_line n p = spaces n ++ (key_text (key_of p.0) ++ (58 ∷ pair_text n (tree_of p.1)))

pub list-lines : (n : ℕ) (ts : List Tree) → list_text (spaces n) n (trees_of ts) ≡ flat_map (element_line n) ts
list-lines n [] = refl
list-lines n (t ∷ ts) =
    ap (λ s. spaces n ++ (codes "- " ++ (node_text (n + 2) (tree_of t) ++ s))) (list-lines n ts) ∙ sym (append_assoc (spaces n) (codes "- " ++ node_text (n + 2) (tree_of t)) (flat_map (element_line n) ts))

pub map-lines : (n : ℕ) (ps : List (Key × Tree)) → map_text (spaces n) n (pairs_of ps) ≡ flat_map (pair_line n) ps
map-lines n [] = refl
map-lines n (p ∷ ps) =
    ap (λ s. spaces n ++ (key_text (key_of p.0) ++ (58 ∷ (pair_text n (tree_of p.1) ++ s)))) (map-lines n ps)
    ∙ sym (simp append_assoc)

-- ---- what stands behind a key

pub behind-list : (n : ℕ) (t : Tree) (ts : List Tree) → t ≡ held.List ts → 0 < length ts → pair_text n (tree_of t) ≡ 10 ∷ list_text (spaces n) n (trees_of ts)
behind-list n t [] e h = absurd (omega arith)
behind-list n t (u ∷ us) e h = rw (e, tree_of-List) refl

pub behind-map : (n : ℕ) (t : Tree) (ps : List (Key × Tree)) → t ≡ held.Map ps → 0 < length ps → pair_text n (tree_of t) ≡ 10 ∷ map_text (spaces (n + 2)) (n + 2) (pairs_of ps)
behind-map n t [] e h = absurd (omega arith)
behind-map n t (p ∷ ps) e h = rw (e, tree_of-Map) refl

pub behind-no_list : (n : ℕ) (t : Tree) (ts : List Tree) → t ≡ held.List ts → length ts ≡ 0 → pair_text n (tree_of t) ≡ codes " []\n"
behind-no_list n t [] e h = rw (e, tree_of-List) refl
behind-no_list n t (u ∷ us) e h = absurd (omega arith)

pub behind-no_map : (n : ℕ) (t : Tree) (ps : List (Key × Tree)) → t ≡ held.Map ps → length ps ≡ 0 → pair_text n (tree_of t) ≡ codes " {}\n"
behind-no_map n t [] e h = rw (e, tree_of-Map) refl
behind-no_map n t (p ∷ ps) e h = absurd (omega arith)

-- a scalar
pub behind-scalar : (n : ℕ) (t : Tree) → ((ts : List Tree) → t ≡ held.List ts → ⊥) → ((ps : List (Key × Tree)) → t ≡ held.Map ps → ⊥) → pair_text n (tree_of t) ≡ 32 ∷ line_text (n + 2) (tree_of t)
behind-scalar n t h k = search (rules, the_lemmas)

-- ---- what stands behind a dash

pub node-no_list : (n : ℕ) (t : Tree) (ts : List Tree) → t ≡ held.List ts → length ts ≡ 0 → node_text n (tree_of t) ≡ codes "[]\n"
node-no_list n t [] e h = rw (e, tree_of-List) refl
node-no_list n t (u ∷ us) e h = absurd (omega arith)

pub node-no_map : (n : ℕ) (t : Tree) (ps : List (Key × Tree)) → t ≡ held.Map ps → length ps ≡ 0 → node_text n (tree_of t) ≡ codes "{}\n"
node-no_map n t [] e h = rw (e, tree_of-Map) refl
node-no_map n t (p ∷ ps) e h = absurd (omega arith)

pub node-list : (n : ℕ) (t : Tree) (ts : List Tree) (u : Tree) (us : List Tree) → t ≡ held.List ts → ts ≡ u ∷ us
    → node_text n (tree_of t) ≡ (codes "- " ++ node_text (n + 2) (tree_of u)) ++ list_text (spaces n) n (trees_of us)
node-list n t ts u us e h = rw (e, h, tree_of-List) refl

pub node-map : (n : ℕ) (t : Tree) (ps : List (Key × Tree)) (p : Key × Tree) (qs : List (Key × Tree)) → t ≡ held.Map ps → ps ≡ p ∷ qs
    → node_text n (tree_of t) ≡ (key_text (key_of p.0) ++ (58 ∷ pair_text n (tree_of p.1))) ++ map_text (spaces n) n (pairs_of qs)
node-map n t ps p qs e h = rw (e, h, tree_of-Map) (sym (append_assoc (key_text (key_of p.0)) (58 ∷ pair_text n (tree_of p.1)) (map_text (spaces n) n (pairs_of qs))))

-- a scalar
pub node-scalar : (n : ℕ) (t : Tree) → ((ts : List Tree) → t ≡ held.List ts → ⊥) → ((ps : List (Key × Tree)) → t ≡ held.Map ps → ⊥) → node_text n (tree_of t) ≡ line_text n (tree_of t)
node-scalar n t h k = search (rules, the_lemmas)
