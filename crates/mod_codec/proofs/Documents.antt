-- A value as one document, and the one document of a text.
use Rattle.std.proofs.Common.{◌≡◌, ◌<◌, ◌≤◌, ◌^◌, ℕ, List, [], ◌∷◌, ◌++◌, length, Option, Some, None, Result, Ok, Err, if◌then◌else◌, Bool, true, false, refl, sym, ap, ◌∙◌, arith, rules}
use Rattle.std.proofs.lemmas.Bool.{lt-ltb}
use Rattle.std.specs.Str.{is_utf8}
use Rattle.ytt_base.proofs.Views.{tree_of-Null}
use Rattle.ytt_base.specs.Outcomes.{Outcome, and_then, fault_at}
use Rattle.ytt_base.specs.Trees.{Tree, Trees, boolean, integer, is_null, list, map, max_depth, no_trees, null, scalar, string, tree}
use Rattle.ytt_base.specs.View.{tree_of, trees_of}
use Rattle.ytt_base.specs.declared.fault.FaultKind.TheVariants as kind
use Rattle.ytt_base.specs.declared.fault.Place.{Place}
use Rattle.ytt_base.specs.declared.fault.Stop.{Stop}
use Rattle.ytt_base.specs.declared.tree.Tree as code
use Rattle.ytt_base.specs.declared.tree.Tree.{Tree as Built}
use Rattle.mod_json.proofs.Giving.{text_known}
use Rattle.mod_json.proofs.InTurn.{done_then}
use Rattle.module_spec.specs.Rows.{give_text}
use Rattle.module_spec.specs.YamlCodec.{decode, distinct_of, document_read, encode, given_tree, only_one, tree_read}
use Rattle.star_steps.proofs.Meeting.{gives_same, gives_stop, meets_same}
use Rattle.star_steps.specs.Meets.{Gives, Meets, state_in}
use Rattle.star_values.specs.View.{View}
use Rattle.star_values.specs.declared.value.Value.{Value}
use Rattle.template_meaning.specs.Take.{tree_of_value}
use Rattle.value_spec.specs.Outcomes.{State, bad, done, or_fail}
use Rattle.value_spec.specs.Values as plain
use Rattle.value_spec.specs.Values.{text_value}
use Rattle.yaml_noted.specs.View.{documents_of, items_of, noted_of}
use Rattle.yaml_noted.specs.declared.noted.NotedDocs.{NotedDocs}
use Rattle.yaml_noted.specs.declared.noted.NotedItem.{NotedItem}
use Rattle.yaml_spec.specs.Noted.{Documents, Note, bare_tree, bare_trees, drop_null, key_of, twice_below}
use Rattle.yaml_spec.specs.Read.{Read, distinct, plain_trees}
use Rattle.yaml_spec.specs.Text as printed
use Rattle.yaml_spec.specs.Text.{key_text}

-- ---- writing

module _ (p : Place) (v : plain.Value) where
  pub unwritten : (x : Stop) (a : View) (n k : ℕ) (r : Result Value Stop) → Meets tree_of (Err x) (state_in a k) (tree_of_value max_depth p v (state_in a n)) → r ≡ Err x → Gives (encode p v (state_in a n)) r a a k
  unwritten x a n k r m e = gives_stop tree_of x a k (tree_of_value max_depth p v (state_in a n)) (λ t. give_text p (printed.Text (tree t no_trees))) r _ refl m e

  pub written : (x : Tree) (t : List ℕ) (s u : State (Unit {0})) → tree_of_value max_depth p v s ≡ done x u → is_utf8 t ≡ true → t ≡ printed.Text (tree x no_trees) → encode p v s ≡ done (text_value t) u
  written x t s u e utf8 is = done_then _ x u (λ t. give_text p (printed.Text (tree t no_trees))) _ e (ap (λ t. give_text p t u) (sym is) ∙ text_known p t u utf8)

-- ---- reading

module _ (p : Place) (t : List ℕ) (a : View) (n : ℕ) where
  pub unread : (x : Stop) (r : Result Value Stop) → Meets tree_of (Err x) (state_in a n) (or_fail kind.CodecForm p (tree_read t) (state_in a n)) → r ≡ Err x → Gives (decode p t (state_in a n)) r a a n
  unread x r m e = gives_stop tree_of x a n (or_fail kind.CodecForm p (tree_read t) (state_in a n)) (given_tree p t) r _ refl m e

  pub read_as : (x : Tree) (r : Result Value Stop) (b : View) (k : ℕ) → or_fail kind.CodecForm p (tree_read t) (state_in a n) ≡ done x (state_in a n) → Gives (given_tree p t x (state_in a n)) r a b k → Gives (decode p t (state_in a n)) r a b k
  read_as x r b k e g = gives_same _ _ r a b k (done_then _ x (state_in a n) (given_tree p t) _ e refl) g

module _ (p : Place) (t : List ℕ) (s : State (Unit {0})) where
  abbrev by_length : Bool → Option Tree
  by_length b = if b then document_read (distinct_of (Read 1 t)) else None

  short : length t < 2 ^ 32 → (o : Outcome Documents) → Read 1 t ≡ o → or_fail kind.CodecForm p (tree_read t) s ≡ or_fail kind.CodecForm p (document_read (distinct_of o)) s
  short h o e = ap (λ (b : Bool). or_fail kind.CodecForm p (by_length b) s) (lt-ltb (length t) (2 ^ 32) h) ∙ ap (λ o. or_fail kind.CodecForm p (document_read (distinct_of o)) s) e

  pub of_documents : length t < 2 ^ 32 → (ds : Documents) (r : Result Built Stop) → Read 1 t ≡ Ok ds → Meets tree_of r s (or_fail kind.CodecForm p (document_read (distinct_of (Ok ds))) s) → Meets tree_of r s (or_fail kind.CodecForm p (tree_read t) s)
  of_documents h ds r e m = meets_same tree_of r s _ _ (short h (Ok ds) e) m

-- ---- documents without a key twice

abbrev by_twice : Documents → Option Note → Outcome Documents
by_twice ds (Some n) = Err (record { kind = kind.KeyTwice; place = Some n.place; detail = key_text (key_of n) })
by_twice ds None = Ok ds

by_note : (ds : Documents) (o : Option Note) → elim o as (λ _. Outcome Documents) [ Some n ↦ Err (record { kind = kind.KeyTwice; place = Some n.place; detail = key_text (key_of n) }) | None ↦ Ok ds ] ≡ by_twice ds o
by_note ds (Some n) = refl
by_note ds None = refl

distinct_by : (ds : Documents) → distinct ds ≡ by_twice ds (twice_below ds.items)
unfolding distinct
distinct_by ds = by_note ds (twice_below ds.items)

abbrev plainly : Outcome Documents → Outcome Trees
plainly o = and_then (λ es. Ok (drop_null (bare_trees es.items))) o

trees_known : (ds : Documents) (o : Option Note) (ts : Trees) → plainly (by_twice ds o) ≡ Ok ts → (by_twice ds o ≡ Ok ds) × (drop_null (bare_trees ds.items) ≡ ts)
trees_known ds (Some n) ts e = absurd (search (rules, e))
trees_known ds None ts e = (refl, search (rules, e))

known : (ds : Documents) (ts : Trees) → plain_trees ds ≡ Ok ts → (distinct ds ≡ Ok ds) × (drop_null (bare_trees ds.items) ≡ ts)
known ds ts e = let k = trees_known ds (twice_below ds.items) ts (ap plainly (sym (distinct_by ds)) ∙ e) in (distinct_by ds ∙ k.0, k.1)

-- ---- the only one

many : (is : List NotedItem) → 1 < length is → only_one (bare_trees (items_of is)) ≡ None
many [] h = absurd (omega (arith, h))
many (i ∷ []) h = absurd (omega (arith, h))
many (i ∷ j ∷ is) h = refl

abbrev first_of : Trees → Option Tree
first_of no_trees = None
first_of (tree t ts) = Some t

abbrev rest_of : Trees → Trees
rest_of no_trees = no_trees
rest_of (tree t ts) = ts

null_alone : (t : Tree) → drop_null (tree t no_trees) ≡ no_trees → Some t ≡ Some (scalar null)
null_alone (scalar null) e = refl
null_alone (scalar (boolean b)) e = absurd (search (rules, e))
null_alone (scalar (integer z)) e = absurd (search (rules, e))
null_alone (scalar (string s)) e = absurd (search (rules, e))
null_alone (list ts) e = absurd (search (rules, e))
null_alone (map ps) e = absurd (search (rules, e))

none_last : (ts : List Built) (t : Built) → no_trees ≡ trees_of (ts ++ t ∷ []) → ⊥
none_last [] t e = search (rules, e)
none_last (s ∷ ts) t e = search (rules, e)

one_last : (u : Tree) (ts : List Built) (t : Built) → tree u no_trees ≡ trees_of (ts ++ t ∷ []) → Some u ≡ Some (tree_of t)
one_last u [] t e = ap first_of e
one_last u (s ∷ ts) t e = absurd (none_last ts t (ap rest_of e))

alone : (u : Tree) (b : Bool) (ts : List Built) (t : Built) → elim b as (λ _. Trees) [ true ↦ no_trees | false ↦ tree u no_trees ] ≡ trees_of (ts ++ t ∷ []) → Some u ≡ Some (tree_of t)
alone u true ts t e = absurd (none_last ts t e)
alone u false ts t e = one_last u ts t e

none_left : (is : List NotedItem) → length is ≤ 1 → drop_null (bare_trees (items_of is)) ≡ no_trees → only_one (bare_trees (items_of is)) ≡ Some (scalar null)
none_left [] h e = refl
none_left (i ∷ []) h e = null_alone (bare_tree (noted_of i).1) e
none_left (i ∷ j ∷ is) h e = absurd (omega (arith, h))

one_left : (is : List NotedItem) → length is ≤ 1 → (ts : List Built) (t : Built) → drop_null (bare_trees (items_of is)) ≡ trees_of (ts ++ t ∷ []) → only_one (bare_trees (items_of is)) ≡ Some (tree_of t)
one_left [] h ts t e = absurd (none_last ts t e)
one_left (i ∷ []) h ts t e = alone (bare_tree (noted_of i).1) (is_null (bare_tree (noted_of i).1)) ts t e
one_left (i ∷ j ∷ is) h ts t e = absurd (omega (arith, h))

module _ (p : Place) (d : NotedDocs) (s : State (Unit {0})) where
  module _ (ts : List Built) (e : plain_trees (documents_of d) ≡ Ok (trees_of ts)) where
    only : (o : Option Tree) → only_one (bare_trees (items_of d.items)) ≡ o → or_fail kind.CodecForm p (document_read (distinct_of (Ok (documents_of d)))) s ≡ or_fail kind.CodecForm p o s
    only o is = ap (λ o. or_fail kind.CodecForm p (document_read o) s) (known (documents_of d) (trees_of ts) e).0 ∙ ap (λ o. or_fail kind.CodecForm p o s) is

    pub more_trees : 1 < length d.items → or_fail kind.CodecForm p (document_read (distinct_of (Ok (documents_of d)))) s ≡ bad (fault_at kind.CodecForm p) s
    more_trees h = only None (many d.items h)

    pub one_tree : length d.items ≤ 1 → (rest : List Built) (t : Built) → ts ≡ rest ++ t ∷ [] → or_fail kind.CodecForm p (document_read (distinct_of (Ok (documents_of d)))) s ≡ done (tree_of t) s
    one_tree h rest t is = only (Some (tree_of t)) (one_left d.items h rest t ((known (documents_of d) (trees_of ts) e).1 ∙ ap trees_of is))

    pub no_tree : length d.items ≤ 1 → ts ≡ [] → or_fail kind.CodecForm p (document_read (distinct_of (Ok (documents_of d)))) s ≡ done (tree_of code.Null) s
    no_tree h is = only (Some (scalar null)) (none_left d.items h ((known (documents_of d) (trees_of ts) e).1 ∙ ap trees_of is)) ∙ ap (λ t. done t s) (sym tree_of-Null)
