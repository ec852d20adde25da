-- A filled tree is of the type that the tree is of.
use Rattle.std.proofs.Common.{◌≡◌, ℕ, suc, Bool, true, false, List, [], ◌∷◌, ◌++◌, Option, Some, None, refl, ◌∙◌, ap, bytes_eq}
use Rattle.ytt_base.specs.Trees.{Scalar, null, boolean, integer, string, Tree, scalar, list, map, Trees, no_trees, tree, Pairs, no_pairs, pair, Step, key, index, keys, has_key}
use Rattle.schema_spec.specs.Schemas.{Schema, schema, any_type, bool_type, int_type, string_type, list_type, map_type, TypePairs, no_types, type_pair, member, type_at, default_of, defaults}
use Rattle.schema_spec.specs.Sound.{Knows, IsSound, AreSound}
use Rattle.schema_spec.specs.Offences.{Offence, all_under, unknown, offences, element_offences, pair_offences, add_pairs, missing, fill, fill_trees, fill_pairs}

-- ---- lookups

abbrev pub IfType : Option (Schema) → Type 0
IfType None = Unit {0}
IfType (Some s) = IsSound s

-- ---- lists of offences

pub empty-left : {A : Type 0} (xs ys : List A) → xs ++ ys ≡ [] → xs ≡ []
empty-left [] ys e = refl
empty-left (x ∷ xs) ys e = cc

pub empty-right : {A : Type 0} (xs ys : List A) → xs ++ ys ≡ [] → ys ≡ []
empty-right [] ys e = e
empty-right (x ∷ xs) ys e = cc

pub all_under-empty : (s : Step) (os : List Offence) → all_under s os ≡ [] → os ≡ []
all_under-empty s [] e = refl
all_under-empty s (o ∷ os) e = cc

pub both-empty : {A : Type 0} (xs ys : List A) → xs ≡ [] → ys ≡ [] → xs ++ ys ≡ []
both-empty xs ys e f = rw (e, f) refl

-- ---- members

if-type : (b : Bool) (s : Schema) (o : Option (Schema)) → IsSound s → IfType o → IfType (elim b as (λ _. Option (Schema)) [ true ↦ Some s | false ↦ o ])
if-type true s o h k = h
if-type false s o h k = k

type_at-sound : (n : List ℕ) (ms : TypePairs) → AreSound ms → IfType (type_at n ms)
type_at-sound n no_types h = tt
type_at-sound n (type_pair m s ms) h = if-type (bytes_eq n m) s (type_at n ms) h.1 (type_at-sound n ms h.2)

member-sound : (k : Scalar) (ms : TypePairs) → AreSound ms → IfType (member k ms)
member-sound null ms h = tt
member-sound (boolean b) ms h = tt
member-sound (integer z) ms h = tt
member-sound (string n) ms h = type_at-sound n ms h

pub pair_offences-add : (w : Schema) (u : Tree) (ms : TypePairs) (ps qs : Pairs) → pair_offences w u ms ps ≡ [] → pair_offences w u ms qs ≡ [] → pair_offences w u ms (add_pairs ps qs) ≡ []
pair_offences-add w u ms no_pairs qs e f = f
pair_offences-add w u ms (pair k t ps) qs e f =
    both-empty _ _ (empty-left _ (pair_offences w u ms ps) e) (pair_offences-add w u ms ps qs (empty-right _ (pair_offences w u ms ps) e) f)

-- ---- what is missing

abbrev pub offences_by : (whole : Schema) → Tree → Scalar → Tree → Option Schema → List Offence
offences_by w u k t m = elim m as (λ _. List Offence) [ Some s ↦ all_under (key k) (offences s t) | None ↦ unknown k w u ]

missing-one : (b : Bool) (w : Schema) (u : Tree) (ms : TypePairs) (n : List ℕ) (s : Schema) (rest : Pairs) → member (string n) ms ≡ Some s → offences s (default_of s) ≡ [] →
    pair_offences w u ms rest ≡ [] → pair_offences w u ms (elim b as (λ _. Pairs) [ true ↦ rest | false ↦ pair (string n) (default_of s) rest ]) ≡ []
missing-one true w u ms n s rest knows good e = e
missing-one false w u ms n s rest knows good e =
    both-empty (offences_by w u (string n) (default_of s) (member (string n) ms)) _
    (ap (offences_by w u (string n) (default_of s)) knows ∙ ap (all_under (key (string n))) good) e

pub missing-conforms : (w : Schema) (u : Tree) (ms rest : TypePairs) (ks : List Scalar) → Knows ms rest → AreSound rest → pair_offences w u ms (missing rest ks) ≡ []
missing-conforms w u ms no_types ks h k = refl
missing-conforms w u ms (type_pair n s rest) ks h k =
    missing-one (has_key (string n) ks) w u ms n s (missing rest ks) h.0 k.0 (missing-conforms w u ms rest ks h.1 k.2)

-- of a map without pairs all are
pub none-missing : (ms : TypePairs) → missing ms [] ≡ defaults ms
none-missing no_types = refl
none-missing (type_pair n s ms) = ap (pair (string n) (default_of s)) (none-missing ms)

-- ---- the law

abbrev filled_by : Tree → Option Schema → Tree
filled_by t m = elim m as (λ _. Tree) [ Some s ↦ fill s t | None ↦ t ]

abbrev Conforms : Tree → Type 0
Conforms t = (s : Schema) → IsSound s → offences s t ≡ [] → offences s (fill s t) ≡ []

pair-conforms : (w : Schema) (u v : Tree) (k : Scalar) (t : Tree) (m : Option Schema) → Conforms t → IfType m → offences_by w u k t m ≡ [] → offences_by w v k (filled_by t m) m ≡ []
pair-conforms w u v k t None h g e = cc
pair-conforms w u v k t (Some s) h g e = ap (all_under (key k)) (h s g (all_under-empty (key k) (offences s t) e))

mutual
  pub fill-conforms : (t : Tree) (s : Schema) → IsSound s → offences s t ≡ [] → offences s (fill s t) ≡ []
  fill-conforms (scalar x) (schema k nullable d) g e = e
  fill-conforms (list ts) (schema any_type nullable d) g e = e
  fill-conforms (list ts) (schema bool_type nullable d) g e = cc
  fill-conforms (list ts) (schema int_type nullable d) g e = cc
  fill-conforms (list ts) (schema string_type nullable d) g e = cc
  fill-conforms (list ts) (schema (map_type ms) nullable d) g e = cc
  fill-conforms (list ts) (schema (list_type i) nullable d) g e = elements-conform ts i 0 g e
  fill-conforms (map ps) (schema any_type nullable d) g e = e
  fill-conforms (map ps) (schema bool_type nullable d) g e = cc
  fill-conforms (map ps) (schema int_type nullable d) g e = cc
  fill-conforms (map ps) (schema string_type nullable d) g e = cc
  fill-conforms (map ps) (schema (list_type i) nullable d) g e = cc
  fill-conforms (map ps) (schema (map_type ms) nullable d) g e =
      let w = schema (map_type ms) nullable d in
      let v = map (add_pairs (fill_pairs ms ps) (missing ms (keys ps))) in
      pair_offences-add w v ms (fill_pairs ms ps) (missing ms (keys ps)) (pairs-conform w (map ps) v ps ms g.0 e) (missing-conforms w v ms ms (keys ps) g.1 g.0)

  pub elements-conform : (ts : Trees) (i : Schema) (n : ℕ) → IsSound i → element_offences i n ts ≡ [] → element_offences i n (fill_trees i ts) ≡ []
  elements-conform no_trees i n g e = refl
  elements-conform (tree t ts) i n g e =
      both-empty _ _
      (ap (all_under (index n)) (fill-conforms t i g (all_under-empty (index n) (offences i t) (empty-left (all_under (index n) (offences i t)) (element_offences i (suc n) ts) e))))
      (elements-conform ts i (suc n) g (empty-right (all_under (index n) (offences i t)) (element_offences i (suc n) ts) e))

  pub pairs-conform : (w : Schema) (u v : Tree) (ps : Pairs) (ms : TypePairs) → AreSound ms → pair_offences w u ms ps ≡ [] → pair_offences w v ms (fill_pairs ms ps) ≡ []
  pairs-conform w u v no_pairs ms g e = refl
  pairs-conform w u v (pair k t ps) ms g e =
      both-empty (offences_by w v k (filled_by t (member k ms)) (member k ms)) (pair_offences w v ms (fill_pairs ms ps))
      (pair-conforms w u v k t (member k ms) (λ s. fill-conforms t s) (member-sound k ms g) (empty-left (offences_by w u k t (member k ms)) (pair_offences w u ms ps) e))
      (pairs-conform w u v ps ms g (empty-right (offences_by w u k t (member k ms)) (pair_offences w u ms ps) e))
