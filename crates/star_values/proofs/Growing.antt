-- What is owned stays owned, and the same, as an arena grows.
use Rattle.std.proofs.Common.{◌≡◌, ◌∷◌, ◌++◌}
use Rattle.star_values.proofs.Names.{ℕ, zero, suc, List, [], map, get_or, Option, Some, None, slice_get, slice_set, refl, sym, ap, subst, ◌∙◌, rules, get_or_from_slice_get, none_value, item_kind_of, Sort, Ref, Value, NamedValue, BuiltNote, BuiltItem, ind-BuiltItem, BuiltValue, fold-BuiltValue, BuiltItem-F, BuiltValue-F, Thing, Held, NamedBox, Lent, Contents, Object, fold-roll-BuiltItem, fold-roll-BuiltValue, IsKey, map-BuiltItem, map-BuiltValue, roll-BuiltItem, roll-BuiltValue, native_by, thing_value, held_value, variable_in, pair_in, lent_in, contents_in, loops_in, object_in, store_in, held_sort, OwnsHeldRef, OwnsObjectRef, Owns, Each, OwnsAll, OwnsOption, OwnsFields, OwnsVariable, OwnsPair, field_values, note_values, all_values, body_values, item_values, values_of_item, OwnsItem, OwnsBuilt, OwnsThing, OwnsHeld, OwnsLent, OwnsContents, OwnsObject, Grows, View, text_in, members_in, bounds_in, struct_in, module_in, item_kind_in, children_in, native_in, option_in, fields_in, scalar_key, notes_in, in_children, value_step, item_step, body_in, child_in, built_in, value_of, values_of}
use Rattle.value_spec.specs.Values as plain
use Rattle.star_values.specs.declared.value.Sort.TheVariants as sort
use Rattle.star_values.specs.declared.value.Value.TheVariants as value
use Rattle.star_values.specs.declared.held.Thing.TheVariants as thing
use Rattle.star_values.specs.declared.held.Held.TheVariants as held
use Rattle.star_values.specs.declared.lent.Lent.TheVariants as lent
use Rattle.star_values.specs.declared.object.Contents.TheVariants as contents

pub grows_same : (a : View) → Grows a a
grows_same a = record { held = λ i x e. e; objects = λ i k e. e }

pub grows_then : (a b c : View) → Grows a b → Grows b c → Grows a c
grows_then a b c g h = record { held = λ i x e. h.held i x (g.held i x e); objects = λ i k e. h.objects i k (g.objects i k e) }

-- ---- what holds of each

pub each_as : {A : Type 0} (P Q : A → Type 0) (xs : List A) → ((x : A) → P x → Q x) → Each P xs → Each Q xs
each_as P Q [] f h = tt
each_as P Q (x ∷ xs) f h = (f x h.0, each_as P Q xs f h.1)

pub each_joined : {A : Type 0} (P : A → Type 0) (xs ys : List A) → Each P xs → Each P ys → Each P (xs ++ ys)
each_joined P [] ys h k = k
each_joined P (x ∷ xs) ys h k = (h.0, each_joined P xs ys h.1 k)

each_parted : {A : Type 0} (P : A → Type 0) (xs ys : List A) → Each P (xs ++ ys) → Each P xs × Each P ys
each_parted P [] ys h = (tt, h)
each_parted P (x ∷ xs) ys h = let k = each_parted P xs ys h.1 in ((h.0, k.0), k.1)

pub each_at : {A : Type 0} (P : A → Type 0) (xs : List A) (i : ℕ) (x : A) → Each P xs → slice_get xs i ≡ Some x → P x
each_at P [] i x h e = absurd (search (rules, e))
each_at P (y ∷ ys) zero x h e = let s : y ≡ x = search (rules, e) in subst P s h.0
each_at P (y ∷ ys) (suc i) x h e = each_at P ys i x h.1 e

pub each_set : {A : Type 0} (P : A → Type 0) (xs : List A) (i : ℕ) (x : A) → Each P xs → P x → Each P (slice_set xs i x)
each_set P [] i x h p = tt
each_set P (y ∷ xs) zero x h p = (p, h.1)
each_set P (y ∷ xs) (suc i) x h p = (h.0, each_set P xs i x h.1 p)

-- where each is Q and seen as it was, so are all
each_kept : {A B : Type 0} (P Q : A → Type 0) (new old : A → B) (xs : List A) → ((x : A) → P x → Q x × (new x ≡ old x)) → Each P xs → Each Q xs × (map new xs ≡ map old xs)
each_kept P Q new old [] f h = (tt, refl)
each_kept P Q new old (x ∷ xs) f h =
    let y = f x h.0 in
    let ys = each_kept P Q new old xs f h.1 in
    ((y.0, ys.0), λ i. y.1 i ∷ ys.1 i)

-- ---- one value

pub some_held : (o : Option plain.Value) (k : Sort) → held_sort o ≡ Some k → (x : plain.Value) × (o ≡ Some x)
some_held None k e = absurd (search (rules, e))
some_held (Some x) k e = (x, refl)

held_ref_kept : (a b : View) (k : Sort) (r : Ref) (f : plain.Value → plain.Value) → Grows a b → OwnsHeldRef a k r → OwnsHeldRef b k r × (f (get_or b.held r.at none_value) ≡ f (get_or a.held r.at none_value))
held_ref_kept a b k r f g o =
    let x = some_held (slice_get a.held r.at) k o.1 in
    let there = g.held r.at x.0 x.1 in
    ((o.0, ap held_sort there ∙ sym (ap held_sort x.1) ∙ o.1), ap f (get_or_from_slice_get b.held r.at x.0 none_value there ∙ sym (get_or_from_slice_get a.held r.at x.0 none_value x.1)))

object_ref_kept : (a b : View) (k : Sort) (r : Ref) (x : plain.Value) → Grows a b → OwnsObjectRef a k r → OwnsObjectRef b k r × (x ≡ x)
object_ref_kept a b k r x g o = ((o.0, g.objects r.at k o.1), refl)

-- an owned value stays owned, and is the same
kept : (a b : View) (v : Value) → Grows a b → Owns a v → Owns b v × (value_of b v ≡ value_of a v)
kept a b value.None g o = (tt, refl)
kept a b (value.Bool x) g o = (tt, refl)
kept a b (value.Int z) g o = (tt, refl)
kept a b (value.Text r) g o = held_ref_kept a b sort.Text r (λ v. plain.text_value (text_in v)) g o
kept a b (value.List r) g o = object_ref_kept a b sort.List r (plain.list_value r.at) g o
kept a b (value.Dict r) g o = object_ref_kept a b sort.Dict r (plain.dict_value r.at) g o
kept a b (value.Tuple r) g o = held_ref_kept a b sort.Tuple r (λ v. plain.tuple_value (members_in v)) g o
kept a b (value.Range r) g o = held_ref_kept a b sort.Range r (λ v. plain.range_value (bounds_in v).0 (bounds_in v).1 (bounds_in v).2) g o
kept a b (value.Struct r) g o = held_ref_kept a b sort.Struct r (λ v. plain.struct_value (struct_in v)) g o
kept a b (value.Fragment r) g o = held_ref_kept a b sort.Fragment r (λ v. plain.fragment_value (item_kind_in v) (children_in v)) g o
kept a b (value.Func r) g o = object_ref_kept a b sort.Func r (plain.function_value r.at) g o
kept a b (value.Native r) g o = held_ref_kept a b sort.Native r (λ v. plain.native_value (native_in v)) g o
kept a b (value.Module r) g o = held_ref_kept a b sort.Module r (λ v. plain.module_value (module_in v).0 (module_in v).1) g o

pub owns_kept : (a b : View) (v : Value) → Grows a b → Owns a v → Owns b v
owns_kept a b v g o = (kept a b v g o).0

pub value_kept : (a b : View) (v : Value) → Grows a b → Owns a v → value_of b v ≡ value_of a v
value_kept a b v g o = (kept a b v g o).1

-- ---- values, and those with names

all_kept : (a b : View) (vs : List Value) → Grows a b → OwnsAll a vs → OwnsAll b vs × (values_of b vs ≡ values_of a vs)
all_kept a b vs g o = each_kept (Owns a) (Owns b) (value_of b) (value_of a) vs (λ v. kept a b v g) o

pub owns_all_kept : (a b : View) (vs : List Value) → Grows a b → OwnsAll a vs → OwnsAll b vs
owns_all_kept a b vs g o = (all_kept a b vs g o).0

pub values_kept : (a b : View) (vs : List Value) → Grows a b → OwnsAll a vs → values_of b vs ≡ values_of a vs
values_kept a b vs g o = (all_kept a b vs g o).1

option_kept : (a b : View) (v : Option Value) → Grows a b → OwnsOption a v → OwnsOption b v × (option_in b.held v ≡ option_in a.held v)
option_kept a b None g o = (tt, refl)
option_kept a b (Some v) g o = let k = kept a b v g o in (k.0, ap Some k.1)

fields_kept : (a b : View) (fs : List NamedValue) → Grows a b → OwnsFields a fs → OwnsFields b fs × (fields_in b.held fs ≡ fields_in a.held fs)
fields_kept a b [] g o = (tt, refl)
fields_kept a b (f ∷ fs) g o =
    let k = kept a b f.value g o.0 in
    let more = fields_kept a b fs g o.1 in
    ((k.0, more.0), λ i. plain.a_field f.name (k.1 i) (more.1 i))

pair_kept : (a b : View) (p : Value × Value) → Grows a b → OwnsPair a p → OwnsPair b p × (pair_in b.held p ≡ pair_in a.held p)
pair_kept a b p g o =
    let k = kept a b p.0 g o.0 in
    let v = kept a b p.1 g o.1 in
    ((k.0, v.0, subst IsKey (sym k.1) o.2), λ i. (k.1 i, v.1 i))

pub variable_kept : (a b : View) (x : NamedBox) → Grows a b → OwnsVariable a x → OwnsVariable b x × (variable_in b.held x ≡ variable_in a.held x)
variable_kept a b x g o =
    let name = held_ref_kept a b sort.Text x.name (λ v. plain.text_value (text_in v)) g o.0 in
    ((name.0, (object_ref_kept a b sort.Box x.at none_value g o.1).0), ap (λ v. (text_in v, x.at.at)) name.1)

-- ---- notes

fields_owned : (a : View) (fs : List NamedValue) → OwnsAll a (field_values fs) → OwnsFields a fs
fields_owned a [] h = tt
fields_owned a (f ∷ fs) h = (h.0, fields_owned a fs h.1)

pub notes_kept : (a b : View) (ns : List BuiltNote) → Grows a b → OwnsAll a (note_values ns) → notes_in b.held ns ≡ notes_in a.held ns
notes_kept a b [] g o = refl
notes_kept a b (n ∷ ns) g o =
    let first = each_parted (Owns a) n.args.positional (field_values n.args.named ++ note_values ns) o in
    let more = each_parted (Owns a) (field_values n.args.named) (note_values ns) first.1 in
    let values = (all_kept a b n.args.positional g first.0).1 in
    let fields = (fields_kept a b n.args.named g (fields_owned a n.args.named more.0)).1 in
    λ i. plain.a_built n.name (plain.arguments (plain.values_from (values i)) (fields i)) (notes_kept a b ns g more.1 i)

-- ---- items and what they hold

-- all values that stand in what an item holds
abbrev values_of_body : BuiltValue → List Value
values_of_body = fold-BuiltValue (List Value) (List Value) body_values item_values

abbrev BodyKept : View → View → BuiltValue → Type 0
BodyKept a b w = OwnsAll a (values_of_body w) → body_in b.held w ≡ body_in a.held w

abbrev ItemKept : View → View → BuiltItem → Type 0
ItemKept a b i = OwnsAll a (values_of_item i) → child_in b.held i ≡ child_in a.held i

items_kept : (a b : View) (is : List ((i : BuiltItem) × ItemKept a b i)) → OwnsAll a (all_values (map values_of_item (map (λ e. e.0) is))) → in_children (map (child_in b.held) (map (λ e. e.0) is)) ≡ in_children (map (child_in a.held) (map (λ e. e.0) is))
items_kept a b [] o = refl
items_kept a b (e ∷ is) o =
    let k = each_parted (Owns a) (values_of_item e.0) (all_values (map values_of_item (map (λ e. e.0) is))) o in
    λ i. plain.a_child (e.1 k.0 i) (items_kept a b is k.1 i)

abbrev Bodies : View → View → Type 0
Bodies a b = (w : BuiltValue) × BodyKept a b w

abbrev Items : View → View → Type 0
Items a b = (i : BuiltItem) × ItemKept a b i

abbrev plain_body : (a b : View) → BuiltValue-F (Bodies a b) (Items a b) → BuiltValue-F BuiltValue BuiltItem
plain_body a b y = map-BuiltValue (Bodies a b) (Items a b) BuiltValue BuiltItem (λ e. e.0) (λ e. e.0) y

abbrev plain_item : (a b : View) → BuiltItem-F (Bodies a b) (Items a b) → BuiltItem-F BuiltValue BuiltItem
plain_item a b y = map-BuiltItem (Bodies a b) (Items a b) BuiltValue BuiltItem (λ e. e.0) (λ e. e.0) y

-- what a body, or an item, is from what stands in it
abbrev body_from : View → BuiltValue-F BuiltValue BuiltItem → plain.Body
body_from a d = value_step (map-BuiltValue BuiltValue BuiltItem plain.Body plain.Child (body_in a.held) (child_in a.held) d)

abbrev item_from : View → BuiltItem-F BuiltValue BuiltItem → plain.Child
item_from a d = item_step a.held (map-BuiltItem BuiltValue BuiltItem plain.Body plain.Child (body_in a.held) (child_in a.held) d)

body_rolled : (a : View) (d : BuiltValue-F BuiltValue BuiltItem) → body_in a.held (roll-BuiltValue d) ≡ body_from a d
body_rolled a d = fold-roll-BuiltValue plain.Body plain.Child value_step (item_step a.held) d

item_rolled : (a : View) (d : BuiltItem-F BuiltValue BuiltItem) → child_in a.held (roll-BuiltItem d) ≡ item_from a d
item_rolled a d = fold-roll-BuiltItem plain.Body plain.Child value_step (item_step a.held) d

body_layer : (a b : View) (y : BuiltValue-F (Bodies a b) (Items a b)) → OwnsAll a (body_values (map-BuiltValue BuiltValue BuiltItem (List Value) (List Value) values_of_body values_of_item (plain_body a b y))) → body_from b (plain_body a b y) ≡ body_from a (plain_body a b y)
body_layer a b (BuiltValue-F.One t) o = refl
body_layer a b (BuiltValue-F.Map is) o = ap plain.map_of (items_kept a b is o)
body_layer a b (BuiltValue-F.List is) o = ap plain.list_of (items_kept a b is o)

body_kept : (a b : View) (y : BuiltValue-F (Bodies a b) (Items a b)) → BodyKept a b (roll-BuiltValue (plain_body a b y))
body_kept a b y o = body_rolled b (plain_body a b y) ∙ body_layer a b y (subst (OwnsAll a) (fold-roll-BuiltValue (List Value) (List Value) body_values item_values (plain_body a b y)) o) ∙ sym (body_rolled a (plain_body a b y))

item_layer : (a b : View) → Grows a b → (y : BuiltItem-F (Bodies a b) (Items a b)) → OwnsAll a (note_values y.notes ++ values_of_body y.value.0) → item_from b (plain_item a b y) ≡ item_from a (plain_item a b y)
item_layer a b g y o =
    let k = each_parted (Owns a) (note_values y.notes) (values_of_body y.value.0) o in
    λ i. plain.child y.place (notes_kept a b y.notes g k.0 i) (scalar_key y.key) (y.value.1 k.1 i)

item_kept : (a b : View) → Grows a b → (y : BuiltItem-F (Bodies a b) (Items a b)) → ItemKept a b (roll-BuiltItem (plain_item a b y))
item_kept a b g y o = item_rolled b (plain_item a b y) ∙ item_layer a b g y (subst (OwnsAll a) (fold-roll-BuiltItem (List Value) (List Value) body_values item_values (plain_item a b y)) o) ∙ sym (item_rolled a (plain_item a b y))

child_kept : (a b : View) → Grows a b → (i : BuiltItem) → ItemKept a b i
child_kept a b g = ind-BuiltItem (BodyKept a b) (ItemKept a b)
    (λ x y e. subst (λ x. BodyKept a b (roll-BuiltValue x)) e (body_kept a b y))
    (λ x y e. subst (λ x. ItemKept a b (roll-BuiltItem x)) e (item_kept a b g y))

pub built_kept : (a b : View) (is : List BuiltItem) → Grows a b → OwnsBuilt a is → OwnsBuilt b is × (built_in b.held is ≡ built_in a.held is)
built_kept a b is g o =
    let k = each_kept (OwnsItem a) (OwnsItem b) (child_in b.held) (child_in a.held) is (λ i o. (owns_all_kept a b (values_of_item i) g o, child_kept a b g i o)) o in
    (k.0, ap in_children k.1)

-- ---- held things

thing_kept : (a b : View) (t : Thing) → Grows a b → OwnsThing a t → OwnsThing b t × (thing_value b.held t ≡ thing_value a.held t)
thing_kept a b (thing.Range start stop step) g o = (tt, refl)
thing_kept a b (thing.Struct fs) g o = let k = fields_kept a b fs g o in (k.0, ap plain.struct_value k.1)
thing_kept a b (thing.Module x fs) g o = let k = fields_kept a b fs g o in (k.0, ap (plain.module_value x) k.1)
thing_kept a b (thing.Native by x on) g o = let k = option_kept a b on g o in (k.0, ap (λ v. plain.native_value (native_by by x v)) k.1)
thing_kept a b (thing.Replacement v) g o = let k = kept a b v g o in (k.0, ap (λ x. plain.native_value (plain.replacement x)) k.1)
thing_kept a b (thing.Fragment k is) g o = let b = built_kept a b is g o in (b.0, ap (plain.fragment_value (item_kind_of k)) b.1)

pub held_kept : (a b : View) (h : Held) → Grows a b → OwnsHeld a h → OwnsHeld b h × (held_value b.held h ≡ held_value a.held h)
held_kept a b (held.Text w) g o = (tt, refl)
held_kept a b (held.Tuple vs) g o = let k = all_kept a b vs.items g o in (k.0, ap (λ ws. plain.tuple_value (plain.values_from ws)) k.1)
held_kept a b (held.Other n) g o = thing_kept a b n.thing g o

-- ---- objects

lent_kept : (a b : View) (l : Lent) → Grows a b → OwnsLent a l → OwnsLent b l × (lent_in b.held l ≡ lent_in a.held l)
lent_kept a b (lent.List vs) g o = let k = all_kept a b vs.value.items g o in (k.0, ap plain.of_list k.1)
lent_kept a b (lent.Dict m) g o =
    let k = each_kept (OwnsPair a) (OwnsPair b) (pair_in b.held) (pair_in a.held) m.value.entries (λ p. pair_kept a b p g) o in
    (k.0, ap plain.of_dict k.1)

pub owns_lent_kept : (a b : View) (l : Lent) → Grows a b → OwnsLent a l → OwnsLent b l
owns_lent_kept a b l g o = (lent_kept a b l g o).0

pub lent_same : (a b : View) (l : Lent) → Grows a b → OwnsLent a l → lent_in b.held l ≡ lent_in a.held l
lent_same a b l g o = (lent_kept a b l g o).1

contents_kept : (a b : View) (c : Contents) → Grows a b → OwnsContents a c → OwnsContents b c × (contents_in b.held c ≡ contents_in a.held c)
contents_kept a b (contents.List vs) g o = let k = all_kept a b vs.items g o in (k.0, ap plain.of_list k.1)
contents_kept a b (contents.Dict m) g o =
    let k = each_kept (OwnsPair a) (OwnsPair b) (pair_in b.held) (pair_in a.held) m.entries (λ p. pair_kept a b p g) o in
    (k.0, ap plain.of_dict k.1)
contents_kept a b (contents.Lent l more) g o = lent_kept a b l g o
contents_kept a b (contents.Box v) g o = let k = option_kept a b v g o in (k.0, ap plain.of_box k.1)
contents_kept a b (contents.Func f) g o =
    let env = each_kept (OwnsVariable a) (OwnsVariable b) (variable_in b.held) (variable_in a.held) f.boxes (λ x. variable_kept a b x g) o.0 in
    let defaults = all_kept a b f.defaults g o.1 in
    ((env.0, defaults.0), λ i. plain.of_function (record { name = f.name; file = f.file; number = f.code; env = env.1 i; defaults = defaults.1 i }))

pub owns_contents_kept : (a b : View) (c : Contents) → Grows a b → OwnsContents a c → OwnsContents b c
owns_contents_kept a b c g o = (contents_kept a b c g o).0

pub objects_kept : (a b : View) (os : List Object) → Grows a b → Each (OwnsObject a) os → Each (OwnsObject b) os × (store_in b.held os ≡ store_in a.held os)
objects_kept a b os g o = each_kept (OwnsObject a) (OwnsObject b) (object_in b.held) (object_in a.held) os (λ x o. let k = contents_kept a b x.contents g o in (k.0, λ i. record { contents = k.1 i; frozen = x.frozen; loops = loops_in x.contents })) o
