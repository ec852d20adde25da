-- The types that schema documents give are proper: each default is of its type and filled, and each key of a map finds its own.
use Rattle.std.proofs.Common.{◌≡◌, ℕ, Bool, true, false, not, ◌||◌, List, [], ◌∷◌, Option, Some, None, IsTrue, refl, sym, subst, ◌∙◌, ap, bytes_eq, if◌then◌else◌}
use Rattle.std.proofs.lemmas.Bool.{and_parts, not-true}
use Rattle.std.proofs.lemmas.Slice.Eq.{bytes_eq-Decides}
use Rattle.ytt_base.specs.declared.fault.Place.{Place}
use Rattle.ytt_base.specs.Trees.{Scalar, null, boolean, integer, string, Tree, scalar, list, map, Trees, no_trees, tree, Pairs, no_pairs, pair, keys, has_key, IsTree, AreTrees, ArePairs}
use Rattle.ytt_laws.proofs.Lists.{bytes_eq-sym}
use Rattle.star_spec.specs.Held.{HeldChild, HeldChildren, HeldBody, child_keys, keys_distinct}
use Rattle.value_spec.specs.Built.{body_tree}
use Rattle.value_spec.specs.Outcomes.{Ending, done, bad, asks, then_do, Computation, ◌>>=◌, give}
use Rattle.value_spec.specs.Values.{Child, child, Children, no_children, a_child, BuiltNotes, Body, one, map_of, list_of}
use Rattle.schema_spec.specs.Laws.{Gave, GivesOnly, IsProper}
use Rattle.schema_spec.specs.Offences.{Offence, wrong_kind, offences, pair_offences, add_pairs, missing, fill, fill_pairs}
use Rattle.schema_spec.specs.Reading.{refused, refused_unless, text_key, named_type, and_types, example_type, example_item, example_pairs, value_type, Said, nothing_said, read_notes, with_nullable, conforms, default_instead, with_default, noted_type, read_unless, noted, body_type, member_types, item_type, schema_of, schema_among}
use Rattle.schema_spec.specs.Schemas.{Schema, schema, TypeKind, any_type, bool_type, int_type, string_type, list_type, map_type, TypePairs, no_types, type_pair, simple, free_schema, default_of, type_at, member, defaults, fits_scalar}
use Rattle.schema_spec.specs.Sound.{Knows, IsSound, AreSound, IsFull, AreFull}
use Rattle.schema_spec.proofs.Filling.{none-missing, missing-conforms, fill-conforms, offences_by, empty-left, empty-right, both-empty}
use Rattle.schema_spec.proofs.Refilling.{AllThere, add-none, all-there, fill-fill, missing-full, missing-none}

-- ---- what a computation gives is such, whatever state it is in

gave-then : {H A B : Type 0} (P : A → Type 0) (Q : B → Type 0) (e : Ending H A) (f : A → Computation H B) → Gave P e → ((a : A) → P a → GivesOnly Q (f a)) → Gave Q (then_do e f)
gave-then P Q (done a s) f h g = (g a h).by s
gave-then P Q (bad e s) f h g = tt
gave-then P Q (asks q s k) f h g = λ got t. gave-then P Q (k got t) f (h got t) g

gives-then : {H A B : Type 0} {P : A → Type 0} {Q : B → Type 0} {m : Computation H A} {f : A → Computation H B} → GivesOnly P m → ((a : A) → P a → GivesOnly Q (f a)) → GivesOnly Q (m >>= f)
gives-then {P = P} {Q = Q} {m = m} {f = f} h g = record { by = λ s. gave-then P Q (m s) f (h.by s) g }

gives-give : {H A : Type 0} {P : A → Type 0} (a : A) → P a → GivesOnly {H = H} P (give a)
gives-give a h = record { by = λ s. h }

gives-refused : {H A : Type 0} {P : A → Type 0} (p : Place) → GivesOnly {H = H} P (refused p)
gives-refused p = record { by = λ s. tt }

abbrev Any : {A : Type 0} → A → Type 0
Any a = Unit {0}

gave-any : {H A : Type 0} (e : Ending H A) → Gave Any e
gave-any (done a s) = tt
gave-any (bad f s) = tt
gave-any (asks q s k) = λ got t. gave-any (k got t)

gives-any : {H A : Type 0} (m : Computation H A) → GivesOnly Any m
gives-any m = record { by = λ s. gave-any (m s) }

-- ---- types

pub record Good (s : Schema) : Type 0 where
  pub default : offences s (default_of s) ≡ []
  pub filled : fill s (default_of s) ≡ default_of s
  pub sound : IsSound s
  pub full : IsFull s

any-good : (t : Tree) → Good (simple any_type t)
any-good (scalar x) = record { default = refl; filled = refl; sound = tt; full = tt }
any-good (list ts) = record { default = refl; filled = refl; sound = tt; full = tt }
any-good (map ps) = record { default = refl; filled = refl; sound = tt; full = tt }

list-good : (i : Schema) → Good i → Good (simple (list_type i) (list no_trees))
list-good i g = record { default = refl; filled = refl; sound = g.sound; full = g.full }

-- names that differ
abbrev pub Distinct : TypePairs → Type 0
Distinct no_types = Unit {0}
Distinct (type_pair n s ms) = (type_at n ms ≡ None) × Distinct ms

-- the members of a map's type, whose names are among these keys
pub record GoodMembers (ks : List Scalar) (ms : TypePairs) : Type 0 where
  pub sound : AreSound ms
  pub full : AreFull ms
  pub distinct : Distinct ms
  pub among : (n : List ℕ) → has_key (string n) ks ≡ false → type_at n ms ≡ None

under-other : (b : Bool) (s : Schema) (o : Option Schema) (t : Schema) → b ≡ false → o ≡ Some t → elim b as (λ _. Option Schema) [ true ↦ Some s | false ↦ o ] ≡ Some t
under-other true s o t e h = cc
under-other false s o t e h = h

other-name : (b : Bool) (s : Schema) (o : Option Schema) → elim b as (λ _. Option Schema) [ true ↦ Some s | false ↦ o ] ≡ None → (b ≡ false) × (o ≡ None)
other-name true s o e = cc
other-name false s o e = (refl, e)

-- one more in front, of another name
knows-grow : (n : List ℕ) (s : Schema) (ms rest : TypePairs) → type_at n rest ≡ None → Knows ms rest → Knows (type_pair n s ms) rest
knows-grow n s ms no_types e h = tt
knows-grow n s ms (type_pair m t rest) e h =
    let parts = other-name (bytes_eq n m) t (type_at n rest) e in
    (under-other (bytes_eq m n) s (type_at m ms) t (bytes_eq-sym m n ∙ parts.0) h.0, knows-grow n s ms rest parts.1 h.1)

found-first : (b : Bool) (s : Schema) (o : Option Schema) → b ≡ true → elim b as (λ _. Option Schema) [ true ↦ Some s | false ↦ o ] ≡ Some s
found-first true s o e = refl
found-first false s o e = cc

knows-own : (ms : TypePairs) → Distinct ms → Knows ms ms
knows-own no_types h = tt
knows-own (type_pair n s ms) h = (found-first (bytes_eq n n) s (type_at n ms) ((bytes_eq-Decides n n).1 refl), knows-grow n s ms ms h.0 (knows-own ms h.1))

-- the defaults of all names are filled, and lack none
own-defaults : (ms : TypePairs) → Knows ms ms → AreFull ms → add_pairs (fill_pairs ms (defaults ms)) (missing ms (keys (defaults ms))) ≡ defaults ms
own-defaults ms h g =
    let all : fill_pairs ms (defaults ms) ≡ defaults ms = subst (λ ps. fill_pairs ms ps ≡ ps) (none-missing ms) (missing-full ms ms [] h g) in
    let none : missing ms (keys (defaults ms)) ≡ no_pairs = missing-none ms (keys (defaults ms)) (subst (λ ps. AllThere ms (keys ps)) (none-missing ms) (all-there ms [])) in
    ap (add_pairs (fill_pairs ms (defaults ms))) none ∙ (add-none (fill_pairs ms (defaults ms)) ∙ all)

map-good : (ks : List Scalar) (ms : TypePairs) → GoodMembers ks ms → Good (simple (map_type ms) (map (defaults ms)))
map-good ks ms h =
    let w = simple (map_type ms) (map (defaults ms)) in
    record {
      default = ap (pair_offences w (map (defaults ms)) ms) (sym (none-missing ms)) ∙ missing-conforms w (map (defaults ms)) ms ms [] (knows-own ms h.distinct) h.sound;
      filled = ap map (own-defaults ms (knows-own ms h.distinct) h.full);
      sound = (h.sound, knows-own ms h.distinct);
      full = (h.full, knows-own ms h.distinct);
    }

no-members : (ks : List Scalar) → GoodMembers ks no_types
no-members ks = record { sound = tt; full = tt; distinct = tt; among = λ n e. refl }

or-false : (a b : Bool) → (a || b) ≡ false → (a ≡ false) × (b ≡ false)
or-false true b e = cc
or-false false b e = (refl, e)

one-more : (n : List ℕ) (s : Schema) (ks : List Scalar) (ms : TypePairs) → has_key (string n) ks ≡ false → Good s → GoodMembers ks ms → GoodMembers (string n ∷ ks) (type_pair n s ms)
one-more n s ks ms e g h = record {
  sound = (g.default, g.sound, h.sound);
  full = (g.filled, g.full, h.full);
  distinct = (h.among n e, h.distinct);
  among = λ m f. let parts = or-false (bytes_eq m n) (has_key (string m) ks) f in absent (bytes_eq m n) s (type_at m ms) parts.0 (h.among m parts.1);
}
  where
    absent : (b : Bool) (s : Schema) (o : Option Schema) → b ≡ false → o ≡ None → elim b as (λ _. Option Schema) [ true ↦ Some s | false ↦ o ] ≡ None
    absent true s o e h = cc
    absent false s o e h = h

-- ---- examples that were taken over whole

abbrev IsName : Option Scalar → List ℕ → Type 0
IsName x n = x ≡ Some (string n)

text_key-gives : {H : Type 0} (p : Place) (x : Option Scalar) → GivesOnly {H = H} (IsName x) (text_key p x)
text_key-gives p None = gives-refused p
text_key-gives p (Some null) = gives-refused p
text_key-gives p (Some (boolean b)) = gives-refused p
text_key-gives p (Some (integer z)) = gives-refused p
text_key-gives p (Some (string n)) = gives-give n refl

named : (k : Scalar) (n : List ℕ) (s : Schema) (ks : List Scalar) (ms : TypePairs) → IsName (Some k) n → has_key k ks ≡ false → Good s → GoodMembers ks ms → GoodMembers (k ∷ ks) (type_pair n s ms)
named null n s ks ms e f g h = cc
named (boolean b) n s ks ms e f g h = cc
named (integer z) n s ks ms e f g h = cc
named (string m) n s ks ms e f g h =
    let same : m ≡ n = ap (λ x. elim x as (λ _. List ℕ) [ None ↦ [] | Some y ↦ elim y as (λ _. List ℕ) [ null ↦ [] | boolean b ↦ [] | integer z ↦ [] | string t ↦ t ] ]) e in
    subst (λ j. GoodMembers (string m ∷ ks) (type_pair j s ms)) same (one-more m s ks ms f g h)

-- a key with a type of its own
record IsEntry (k : Scalar) (e : List ℕ × Schema) : Type 0 where
  name : IsName (Some k) e.0
  good : Good e.1

entry-good : {H : Type 0} (p : Place) (k : Scalar) (typed : Computation H Schema) → GivesOnly Good typed → GivesOnly (IsEntry k) (named_type p (Some k) typed)
entry-good p k typed h = gives-then (text_key-gives p (Some k)) (λ n e. gives-then h (λ s g. gives-give (n, s) (record { name = e; good = g })))

members-then : {H : Type 0} (p : Place) (k : Scalar) (ks : List Scalar) (typed : Computation H Schema) (rest : Computation H TypePairs) → has_key k ks ≡ false → GivesOnly Good typed → GivesOnly (GoodMembers ks) rest
    → GivesOnly (GoodMembers (k ∷ ks)) (and_types (named_type p (Some k) typed) rest)
members-then p k ks typed rest e h more =
    gives-then (entry-good p k typed h) (λ x g. gives-then more (λ ms f. gives-give (type_pair x.0 x.1 ms) (named k x.0 x.1 ks ms g.name e g.good f)))

mutual
  example-good : {H : Type 0} (p : Place) (t : Tree) → IsTree t → GivesOnly {H = H} Good (example_type p t)
  example-good p (scalar null) h = gives-refused p
  example-good p (scalar (boolean b)) h = gives-give _ (record { default = refl; filled = refl; sound = tt; full = tt })
  example-good p (scalar (integer z)) h = gives-give _ (record { default = refl; filled = refl; sound = tt; full = tt })
  example-good p (scalar (string t)) h = gives-give _ (record { default = refl; filled = refl; sound = tt; full = tt })
  example-good p (list ts) h = gives-then (item-good p ts h) (λ i g. gives-give _ (list-good i g))
  example-good p (map ps) h = gives-then (example-members p ps h) (λ ms g. gives-give _ (map-good (keys ps) ms g))

  item-good : {H : Type 0} (p : Place) (ts : Trees) → AreTrees ts → GivesOnly {H = H} Good (example_item p ts)
  item-good p no_trees h = gives-refused p
  item-good p (tree t no_trees) h = example-good p t h.0
  item-good p (tree t (tree u us)) h = gives-refused p

  example-members : {H : Type 0} (p : Place) (ps : Pairs) → ArePairs ps → GivesOnly {H = H} (GoodMembers (keys ps)) (example_pairs p ps)
  example-members p no_pairs h = gives-give _ (no-members [])
  example-members p (pair k t ps) h = members-then p k (keys ps) (example_type p t) (example_pairs p ps) h.2 (example-good p t h.1) (example-members p ps h.3)

value-good : {H : Type 0} (nullable : Bool) (p : Place) (t : Tree) → IsTree t → GivesOnly {H = H} Good (value_type nullable p t)
value-good true p (scalar null) h = gives-give _ (any-good (scalar null))
value-good true p (scalar (boolean b)) h = example-good p (scalar (boolean b)) h
value-good true p (scalar (integer z)) h = example-good p (scalar (integer z)) h
value-good true p (scalar (string t)) h = example-good p (scalar (string t)) h
value-good true p (list ts) h = example-good p (list ts) h
value-good true p (map ps) h = example-good p (map ps) h
value-good false p (scalar x) h = example-good p (scalar x) h
value-good false p (list ts) h = example-good p (list ts) h
value-good false p (map ps) h = example-good p (map ps) h

-- ---- notes

fits-null : (k : TypeKind) → fits_scalar true k null ≡ true
fits-null any_type = refl
fits-null bool_type = refl
fits-null int_type = refl
fits-null string_type = refl
fits-null (list_type s) = refl
fits-null (map_type ms) = refl

nullable-good : (b : Bool) (s : Schema) → Good s → Good (with_nullable b s)
nullable-good false s g = g
nullable-good true (schema k nullable d) g =
    record { default = ap (λ b. if b then [] else wrong_kind (schema k true (scalar null)) (scalar null)) (fits-null k); filled = refl; sound = g.sound; full = g.full }

-- whichever the default
again : (w v : Schema) (u : Tree) (k : Scalar) (q : Tree) (m : Option Schema) → offences_by w u k q m ≡ [] → offences_by v u k q m ≡ []
again w v u k q None e = cc
again w v u k q (Some s) e = e

moved : (w v : Schema) (u : Tree) (ms : TypePairs) (ps : Pairs) → pair_offences w u ms ps ≡ [] → pair_offences v u ms ps ≡ []
moved w v u ms no_pairs h = refl
moved w v u ms (pair k t ps) h =
    both-empty (offences_by v u k t (member k ms)) (pair_offences v u ms ps) (again w v u k t (member k ms) (empty-left (offences_by w u k t (member k ms)) (pair_offences w u ms ps) h))
    (moved w v u ms ps (empty-right (offences_by w u k t (member k ms)) (pair_offences w u ms ps) h))

scalar-free : (b : Bool) (x y : List Offence) (o : Offence) → (if b then [] else (o ∷ x)) ≡ [] → (if b then [] else y) ≡ []
scalar-free true x y o e = refl
scalar-free false x y o e = cc

default-free : (k : TypeKind) (nullable : Bool) (d c t : Tree) → offences (schema k nullable d) t ≡ [] → offences (schema k nullable c) t ≡ []
default-free k nullable d c (scalar x) e = scalar-free (fits_scalar nullable k x) [] _ _ e
default-free any_type nullable d c (list ts) e = refl
default-free bool_type nullable d c (list ts) e = cc
default-free int_type nullable d c (list ts) e = cc
default-free string_type nullable d c (list ts) e = cc
default-free (list_type i) nullable d c (list ts) e = e
default-free (map_type ms) nullable d c (list ts) e = cc
default-free any_type nullable d c (map ps) e = refl
default-free bool_type nullable d c (map ps) e = cc
default-free int_type nullable d c (map ps) e = cc
default-free string_type nullable d c (map ps) e = cc
default-free (list_type i) nullable d c (map ps) e = cc
default-free (map_type ms) nullable d c (map ps) e = moved (schema (map_type ms) nullable d) (schema (map_type ms) nullable c) (map ps) ms ps e

-- filling goes by what may stand alone
filled-free : (k : TypeKind) (nullable : Bool) (d c t : Tree) → fill (schema k nullable d) t ≡ fill (schema k nullable c) t
filled-free k nullable d c (scalar x) = refl
filled-free k nullable d c (list ts) = refl
filled-free k nullable d c (map ps) = refl

default-good : (s : Schema) (t : Tree) → Good s → offences s t ≡ [] → Good (default_instead (fill s t) s)
default-good (schema k nullable d) t g e =
    let s = schema k nullable d in
    let u = fill s t in
    record {
      default = default-free k nullable d u u (fill-conforms t s g.sound e);
      filled = filled-free k nullable u d u ∙ fill-fill t s g.full;
      sound = g.sound;
      full = g.full;
    }

needed : {H : Type 0} (p : Place) (b : Bool) → GivesOnly {H = H} (λ u. b ≡ true) (refused_unless p b)
needed p true = gives-give tt refl
needed p false = gives-refused p

conforming : (os : List Offence) → elim os as (λ _. Bool) [ [] ↦ true | o ∷ more ↦ false ] ≡ true → os ≡ []
conforming [] e = refl
conforming (o ∷ os) e = cc

with-default-good : {H : Type 0} (p : Place) (o : Option Tree) (s : Schema) → Good s → GivesOnly {H = H} Good (with_default p o s)
with-default-good p None s g = gives-give s g
with-default-good p (Some t) s g = gives-then (needed p (conforms s t)) (λ u e. gives-give _ (default-good s t g (conforming (offences s t) e)))

noted-good : {H : Type 0} (p : Place) (said : Said) (s : Schema) → Good s → GivesOnly {H = H} Good (noted_type p said s)
noted-good p said s g = with-default-good p said.default (with_nullable said.nullable s) (nullable-good said.nullable s g)

unless-good : {H : Type 0} (b : Bool) (body : Body) (m : Computation H Schema) → GivesOnly Good m → GivesOnly Good (read_unless b body m)
unless-good true body m g = gives-give _ (any-good (body_tree body))
unless-good false body m g = g

-- ---- documents

abbrev typed : {H : Type 0} → Place → Body → Said → Computation H Schema
typed p b said = read_unless said.is_any b (body_type p said.nullable b)

typed-good : {H : Type 0} (p : Place) (b : Body) → ((nullable : Bool) → GivesOnly {H = H} Good (body_type p nullable b)) → (said : Said) → GivesOnly {H = H} Good (typed p b said)
typed-good p b h said = unless-good said.is_any b (body_type p said.nullable b) (h said.nullable)

noted-item-good : {H : Type 0} (p : Place) (in_list : Bool) (ns : BuiltNotes) (b : Body) → ((nullable : Bool) → GivesOnly {H = H} Good (body_type p nullable b)) →
    GivesOnly {H = H} Good (noted p in_list ns b (λ nullable. body_type p nullable b))
noted-item-good p in_list ns b h =
    gives-then (gives-any (read_notes p in_list ns nothing_said)) (λ said u. gives-then (typed-good p b h said) (λ s g. noted-good p said s g))

mutual
  body-good : {H : Type 0} (p : Place) (nullable : Bool) (b : Body) → HeldBody b → GivesOnly {H = H} Good (body_type p nullable b)
  body-good p nullable (one t) h = value-good nullable p t h
  body-good p nullable (map_of cs) h = gives-then (members-good cs h.0 h.1) (λ ms g. gives-give _ (map-good (child_keys cs) ms g))
  body-good p nullable (list_of cs) h = gives-then (items-good p cs h) (λ i g. gives-give _ (list-good i g))

  members-good : {H : Type 0} (cs : Children) → HeldChildren cs → IsTrue (keys_distinct (child_keys cs)) → GivesOnly {H = H} (GoodMembers (child_keys cs)) (member_types cs)
  members-good no_children h d = gives-give _ (no-members [])
  members-good (a_child (child p ns None b) cs) h d = record { by = λ s. tt }
  members-good (a_child (child p ns (Some k) b) cs) h d =
      let parts = and_parts (not (has_key k (child_keys cs))) (keys_distinct (child_keys cs)) d in
      members-then p k (child_keys cs) (noted p false ns b (λ nullable. body_type p nullable b)) (member_types cs) (not-true (has_key k (child_keys cs)) parts.0)
      (noted-item-good p false ns b (λ nullable. body-good p nullable b h.0.1)) (members-good cs h.1 parts.1)

  items-good : {H : Type 0} (p : Place) (cs : Children) → HeldChildren cs → GivesOnly {H = H} Good (item_type p cs)
  items-good p no_children h = gives-refused p
  items-good p (a_child (child q ns x b) no_children) h = noted-item-good q true ns b (λ nullable. body-good q nullable b h.0.1)
  items-good p (a_child (child q ns x b) (a_child d cs)) h = gives-refused p

-- of a document that the program holds
pub schema-good : {H : Type 0} (c : Child) → HeldChild c → GivesOnly {H = H} Good (schema_of c)
schema-good (child p ns x b) h = noted-item-good p false ns b (λ nullable. body-good p nullable b h.1)

-- ---- the law

good-proper : (s : Schema) → Good s → IsProper s
good-proper s g = record {
  default_conforms = g.default;
  default_is_filled = g.filled;
  stays_so = λ t e. fill-conforms t s g.sound e;
  fills_once = λ t. fill-fill t s g.full;
}

gave-weaker : {H A : Type 0} (P Q : A → Type 0) → ((a : A) → P a → Q a) → (e : Ending H A) → Gave P e → Gave Q e
gave-weaker P Q h (done a s) g = h a g
gave-weaker P Q h (bad f s) g = tt
gave-weaker P Q h (asks q s k) g = λ got t. gave-weaker P Q h (k got t) (g got t)

pub among-proper : {H : Type 0} (cs : Children) → HeldChildren cs → GivesOnly {H = H} IsProper (schema_among cs)
among-proper no_children h = gives-give free_schema (good-proper free_schema (any-good (map no_pairs)))
among-proper (a_child c no_children) h = record { by = λ s. gave-weaker Good IsProper good-proper (schema_of c s) ((schema-good c h.0).by s) }
among-proper (a_child c (a_child (child p ns x b) cs)) h = gives-refused p
