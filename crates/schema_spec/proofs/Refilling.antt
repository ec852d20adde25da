-- Filling twice is filling once.
use Rattle.std.proofs.Common.{◌≡◌, ℕ, Bool, true, false, ◌||◌, List, [], ◌∷◌, Option, Some, None, refl, sym, subst, ◌∙◌, ap, bytes_eq}
use Rattle.std.proofs.lemmas.Slice.Eq.{bytes_eq-Decides}
use Rattle.ytt_base.specs.Trees.{Scalar, null, boolean, integer, string, Tree, scalar, list, map, Trees, no_trees, tree, Pairs, no_pairs, pair, keys, has_key, same_key}
use Rattle.schema_spec.specs.Schemas.{Schema, schema, any_type, bool_type, int_type, string_type, list_type, map_type, TypePairs, no_types, type_pair, member, type_at, default_of}
use Rattle.schema_spec.specs.Offences.{add_pairs, missing, fill, fill_trees, fill_pairs}
use Rattle.schema_spec.specs.Sound.{Knows, IsFull, IsFullKind, AreFull}

-- ---- lookups

abbrev pub IfFull : Option (Schema) → Type 0
IfFull None = Unit {0}
IfFull (Some s) = IsFull s

if-full : (b : Bool) (s : Schema) (o : Option (Schema)) → IsFull s → IfFull o → IfFull (elim b as (λ _. Option (Schema)) [ true ↦ Some s | false ↦ o ])
if-full true s o h k = h
if-full false s o h k = k

type_at-full : (n : List ℕ) (ms : TypePairs) → AreFull ms → IfFull (type_at n ms)
type_at-full n no_types h = tt
type_at-full n (type_pair m s ms) h = if-full (bytes_eq n m) s (type_at n ms) h.1 (type_at-full n ms h.2)

member-full : (k : Scalar) (ms : TypePairs) → AreFull ms → IfFull (member k ms)
member-full null ms h = tt
member-full (boolean b) ms h = tt
member-full (integer z) ms h = tt
member-full (string n) ms h = type_at-full n ms h

abbrev filled_by : Tree → Option (Schema) → Tree
filled_by t m = elim m as (λ _. Tree) [ Some s ↦ fill s t | None ↦ t ]

-- ---- keys

abbrev pub add_keys : List Scalar → List Scalar → List Scalar
add_keys [] ls = ls
add_keys (k ∷ ks) ls = k ∷ add_keys ks ls

keys-add : (ps qs : Pairs) → keys (add_pairs ps qs) ≡ add_keys (keys ps) (keys qs)
keys-add no_pairs qs = refl
keys-add (pair k t ps) qs = ap (λ ks. k ∷ ks) (keys-add ps qs)

keys-fill : (ms : TypePairs) (ps : Pairs) → keys (fill_pairs ms ps) ≡ keys ps
keys-fill ms no_pairs = refl
keys-fill ms (pair k t ps) = ap (λ ks. k ∷ ks) (keys-fill ms ps)

or-left : (a b : Bool) → a ≡ true → (a || b) ≡ true
or-left a b e = rw e refl

or-right : (a b : Bool) → b ≡ true → (a || b) ≡ true
or-right true b e = refl
or-right false b e = e

left-one : (a b c : Bool) → (b ≡ true → c ≡ true) → (a || b) ≡ true → (a || c) ≡ true
left-one true b c h e = refl
left-one false b c h e = h e

has_key-left : (k : Scalar) (ks ls : List Scalar) → has_key k ks ≡ true → has_key k (add_keys ks ls) ≡ true
has_key-left k [] ls e = cc
has_key-left k (l ∷ ks) ls e = left-one (same_key k l) (has_key k ks) (has_key k (add_keys ks ls)) (has_key-left k ks ls) e

has_key-right : (k : Scalar) (ks ls : List Scalar) → has_key k ls ≡ true → has_key k (add_keys ks ls) ≡ true
has_key-right k [] ls e = e
has_key-right k (l ∷ ks) ls e = or-right (same_key k l) (has_key k (add_keys ks ls)) (has_key-right k ks ls e)

same_name : (n : List ℕ) → same_key (string n) (string n) ≡ true
same_name n = (bytes_eq-Decides n n).1 refl

-- each name of the type is among the keys
abbrev pub AllThere : TypePairs → List Scalar → Type 0
AllThere no_types ks = Unit {0}
AllThere (type_pair n s ms) ks = (has_key (string n) ks ≡ true) × AllThere ms ks

missed-one : (b : Bool) (ps qs : Pairs) → b ≡ true → qs ≡ no_pairs → elim b as (λ _. Pairs) [ true ↦ qs | false ↦ ps ] ≡ no_pairs
missed-one true ps qs e f = f
missed-one false ps qs e f = cc

pub missing-none : (ms : TypePairs) (ks : List Scalar) → AllThere ms ks → missing ms ks ≡ no_pairs
missing-none no_types ks h = refl
missing-none (type_pair n s ms) ks h = missed-one (has_key (string n) ks) (pair (string n) (default_of s) (missing ms ks)) (missing ms ks) h.0 (missing-none ms ks h.1)

-- the keys that are there and those that are filled in are all
there-one : (b : Bool) (n : List ℕ) (t : Tree) (ks : List Scalar) (rest : Pairs) → has_key (string n) ks ≡ b →
    has_key (string n) (add_keys ks (keys (elim b as (λ _. Pairs) [ true ↦ rest | false ↦ pair (string n) t rest ]))) ≡ true
there-one true n t ks rest e = has_key-left (string n) ks (keys rest) e
there-one false n t ks rest e = has_key-right (string n) ks (string n ∷ keys rest) (or-left (same_key (string n) (string n)) (has_key (string n) (keys rest)) (same_name n))

between : (k : Scalar) (ks : List Scalar) (l : Scalar) (ls : List Scalar) → has_key k (add_keys ks ls) ≡ true → has_key k (add_keys ks (l ∷ ls)) ≡ true
between k [] l ls e = or-right (same_key k l) (has_key k ls) e
between k (j ∷ ks) l ls e = left-one (same_key k j) (has_key k (add_keys ks ls)) (has_key k (add_keys ks (l ∷ ls))) (between k ks l ls) e

all-grow : (ms : TypePairs) (ks ls : List Scalar) → ((k : Scalar) → has_key k ks ≡ true → has_key k ls ≡ true) → AllThere ms ks → AllThere ms ls
all-grow no_types ks ls g h = tt
all-grow (type_pair n s ms) ks ls g h = (g (string n) h.0, all-grow ms ks ls g h.1)

more-there : (b : Bool) (n : List ℕ) (t : Tree) (ms : TypePairs) (ks : List Scalar) (rest : Pairs) → AllThere ms (add_keys ks (keys rest)) →
    AllThere ms (add_keys ks (keys (elim b as (λ _. Pairs) [ true ↦ rest | false ↦ pair (string n) t rest ])))
more-there true n t ms ks rest h = h
more-there false n t ms ks rest h = all-grow ms (add_keys ks (keys rest)) (add_keys ks (string n ∷ keys rest)) (λ k. between k ks (string n) (keys rest)) h

pub all-there : (ms : TypePairs) (ks : List Scalar) → AllThere ms (add_keys ks (keys (missing ms ks)))
all-there no_types ks = tt
all-there (type_pair n s ms) ks = (
  there-one (has_key (string n) ks) n (default_of s) ks (missing ms ks) refl,
  more-there (has_key (string n) ks) n (default_of s) ms ks (missing ms ks) (all-there ms ks),
)

-- ---- pairs

fill_pairs-add : (ms : TypePairs) (ps qs : Pairs) → fill_pairs ms (add_pairs ps qs) ≡ add_pairs (fill_pairs ms ps) (fill_pairs ms qs)
fill_pairs-add ms no_pairs qs = refl
fill_pairs-add ms (pair k t ps) qs = ap (pair k (filled_by t (member k ms))) (fill_pairs-add ms ps qs)

missing-one : (b : Bool) (ms : TypePairs) (n : List ℕ) (s : Schema) (rest : Pairs) → member (string n) ms ≡ Some s → fill s (default_of s) ≡ default_of s →
    fill_pairs ms rest ≡ rest →
    fill_pairs ms (elim b as (λ _. Pairs) [ true ↦ rest | false ↦ pair (string n) (default_of s) rest ]) ≡ elim b as (λ _. Pairs) [ true ↦ rest | false ↦ pair (string n) (default_of s) rest ]
missing-one true ms n s rest knows full e = e
missing-one false ms n s rest knows full e =
    ap (λ t. pair (string n) t (fill_pairs ms rest)) (ap (filled_by (default_of s)) knows ∙ full) ∙ ap (pair (string n) (default_of s)) e

pub missing-full : (ms rest : TypePairs) (ks : List Scalar) → Knows ms rest → AreFull rest → fill_pairs ms (missing rest ks) ≡ missing rest ks
missing-full ms no_types ks h g = refl
missing-full ms (type_pair n s rest) ks h g = missing-one (has_key (string n) ks) ms n s (missing rest ks) h.0 g.0 (missing-full ms rest ks h.1 g.2)

pub add-none : (ps : Pairs) → add_pairs ps no_pairs ≡ ps
add-none no_pairs = refl
add-none (pair k t ps) = ap (pair k t) (add-none ps)

-- a map whose pairs are filled and that has all keys
whole-map : (ms : TypePairs) (ps : Pairs) → IsFullKind (map_type ms) → fill_pairs ms (fill_pairs ms ps) ≡ fill_pairs ms ps →
    (let qs = add_pairs (fill_pairs ms ps) (missing ms (keys ps)) in add_pairs (fill_pairs ms qs) (missing ms (keys qs)) ≡ qs)
whole-map ms ps g e =
    ap (λ rs. add_pairs (fill_pairs ms (add_pairs (fill_pairs ms ps) (missing ms (keys ps)))) rs)
    (missing-none ms _ (subst (AllThere ms) (sym (keys-add (fill_pairs ms ps) (missing ms (keys ps)) ∙ ap (λ ks. add_keys ks (keys (missing ms (keys ps)))) (keys-fill ms ps))) (all-there ms (keys ps))))
    ∙ (add-none _ ∙ (fill_pairs-add ms (fill_pairs ms ps) (missing ms (keys ps))
    ∙ (ap (λ rs. add_pairs rs (fill_pairs ms (missing ms (keys ps)))) e ∙ ap (add_pairs (fill_pairs ms ps)) (missing-full ms ms (keys ps) g.1 g.0))))

abbrev Refills : Tree → Type 0
Refills t = (s : Schema) → IsFull s → fill s (fill s t) ≡ fill s t

pair-refills : (t : Tree) (m : Option (Schema)) → Refills t → IfFull m → filled_by (filled_by t m) m ≡ filled_by t m
pair-refills t None h g = refl
pair-refills t (Some s) h g = h s g

mutual
  pub fill-fill : (t : Tree) (s : Schema) → IsFull s → fill s (fill s t) ≡ fill s t
  fill-fill (scalar x) (schema k nullable d) g = refl
  fill-fill (list ts) (schema any_type nullable d) g = refl
  fill-fill (list ts) (schema bool_type nullable d) g = refl
  fill-fill (list ts) (schema int_type nullable d) g = refl
  fill-fill (list ts) (schema string_type nullable d) g = refl
  fill-fill (list ts) (schema (map_type ms) nullable d) g = refl
  fill-fill (list ts) (schema (list_type i) nullable d) g = ap list (trees-refill ts i g)
  fill-fill (map ps) (schema any_type nullable d) g = refl
  fill-fill (map ps) (schema bool_type nullable d) g = refl
  fill-fill (map ps) (schema int_type nullable d) g = refl
  fill-fill (map ps) (schema string_type nullable d) g = refl
  fill-fill (map ps) (schema (list_type i) nullable d) g = refl
  fill-fill (map ps) (schema (map_type ms) nullable d) g = ap map (whole-map ms ps g (pairs-refill ps ms g.0))

  pub trees-refill : (ts : Trees) (i : Schema) → IsFull i → fill_trees i (fill_trees i ts) ≡ fill_trees i ts
  trees-refill no_trees i g = refl
  trees-refill (tree t ts) i g = ap (λ u. tree u (fill_trees i (fill_trees i ts))) (fill-fill t i g) ∙ ap (tree (fill i t)) (trees-refill ts i g)

  pub pairs-refill : (ps : Pairs) (ms : TypePairs) → AreFull ms → fill_pairs ms (fill_pairs ms ps) ≡ fill_pairs ms ps
  pairs-refill no_pairs ms g = refl
  pairs-refill (pair k t ps) ms g =
      ap (λ u. pair k u (fill_pairs ms (fill_pairs ms ps))) (pair-refills t (member k ms) (λ s. fill-fill t s) (member-full k ms g))
      ∙ ap (pair k (filled_by t (member k ms))) (pairs-refill ps ms g)
