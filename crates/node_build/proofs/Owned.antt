-- Which values are owned in items and nodes.
use Rattle.std.proofs.Common.{◌≡◌, ◌∙◌, ◌==◌, ℕ, false, ap, length, get_or, zero, suc, take, List, [], ◌∷◌, ◌++◌, sym, subst, rules}
use Rattle.std.specs.Prelude.{map}
use Rattle.ytt_base.specs.declared.tree.Tree.{Tree}
use Rattle.star_fragments.specs.Fresh.{OwnsBody}
use Rattle.star_values.proofs.Growing.{each_joined, each_set}
use Rattle.star_values.specs.Owns.{Each, Owns, OwnsAll, OwnsBuilt, OwnsItem, all_values, body_values, field_values, item_values, note_values, values_of_item}
use Rattle.star_values.specs.View.{View}
use Rattle.star_values.specs.declared.value.BuiltItem.{BuiltItem}
use Rattle.star_values.specs.declared.value.BuiltNote.{BuiltNote}
use Rattle.star_values.specs.declared.value.BuiltValue as code
use Rattle.star_values.specs.declared.value.BuiltValue.{BuiltValue, fold-BuiltValue, the_lemmas}
use Rattle.star_values.specs.declared.value.Value.{Value}
use Rattle.node_build.specs.Positions.{placed}
use Rattle.node_build.specs.declared.place.Spot.{Spot}
use Rattle.node_build.specs.declared.place.Spot.TheVariants as spot

abbrev held_values : BuiltValue → List Value
held_values = fold-BuiltValue (List Value) (List Value) body_values item_values

item_held : (i : BuiltItem) → values_of_item i ≡ note_values i.notes ++ held_values i.value
item_held i = search (rules, the_lemmas)

map_values : (is : List BuiltItem) → held_values (code.Map is) ≡ all_values (map values_of_item is)
map_values is = search (rules, the_lemmas)

list_values : (is : List BuiltItem) → held_values (code.List is) ≡ all_values (map values_of_item is)
list_values is = search (rules, the_lemmas)

one_values : (t : Tree) → held_values (code.One t) ≡ []
one_values t = search (rules, the_lemmas)

pub one_held : (a : View) (t : Tree) → OwnsBody a (code.One t)
one_held a t = subst (OwnsAll a) (sym (one_values t)) tt

all_owned : (a : View) (is : List BuiltItem) → OwnsBuilt a is → OwnsAll a (all_values (map values_of_item is))
all_owned a [] o = tt
all_owned a (i ∷ is) o = each_joined (Owns a) (values_of_item i) (all_values (map values_of_item is)) o.0 (all_owned a is o.1)

pub map_held : (a : View) (is : List BuiltItem) → OwnsBuilt a is → OwnsBody a (code.Map is)
map_held a is o = subst (OwnsAll a) (sym (map_values is)) (all_owned a is o)

pub list_held : (a : View) (is : List BuiltItem) → OwnsBuilt a is → OwnsBody a (code.List is)
list_held a is o = subst (OwnsAll a) (sym (list_values is)) (all_owned a is o)

-- an item whose notes and whose body are owned
pub item_owned : (a : View) (i : BuiltItem) → OwnsAll a (note_values i.notes) → OwnsBody a i.value → OwnsItem a i
item_owned a i n b = subst (OwnsAll a) (sym (item_held i)) (each_joined (Owns a) (note_values i.notes) (held_values i.value) n b)

pub placed_owned : (a : View) (s : Spot) (i : BuiltItem) (is : List BuiltItem) → OwnsItem a i → OwnsBuilt a is → OwnsBuilt a (placed s i is)
placed_owned a spot.Behind i is o h = each_joined (OwnsItem a) is (i ∷ []) h (o, tt)
placed_owned a (spot.At n) i is o h = each_set (OwnsItem a) is n i h o

pub parted : {A : Type 0} (P : A → Type 0) (xs ys : List A) → Each P (xs ++ ys) → Each P xs × Each P ys
parted P [] ys h = (tt, h)
parted P (x ∷ xs) ys h = let k = parted P xs ys h.1 in ((h.0, k.0), k.1)

-- one note behind others
pub notes_joined : (a : View) (ns : List BuiltNote) (n : BuiltNote) → OwnsAll a (note_values ns) → OwnsAll a (note_values (n ∷ [])) → OwnsAll a (note_values (ns ++ n ∷ []))
notes_joined a [] n h k = k
notes_joined a (m ∷ ns) n h k =
    let p = parted (Owns a) m.args.positional (field_values m.args.named ++ note_values ns) h in
    let q = parted (Owns a) (field_values m.args.named) (note_values ns) p.1 in
    each_joined (Owns a) m.args.positional (field_values m.args.named ++ note_values (ns ++ n ∷ [])) p.0
    (each_joined (Owns a) (field_values m.args.named) (note_values (ns ++ n ∷ [])) q.0 (notes_joined a ns n q.1 k))

pub taken_each : {A : Type 0} (P : A → Type 0) (n : ℕ) (xs : List A) → Each P xs → Each P (take n xs)
taken_each P zero xs h = tt
taken_each P (suc n) [] h = tt
taken_each P (suc n) (x ∷ xs) h = (h.0, taken_each P n xs h.1)

-- what holds of all holds of the first
pub first_of : {A : Type 0} (P : A → Type 0) (n : A) (ns : List A) (many : ℕ) → many ≡ length ns → (many == 0) ≡ false → n ≡ get_or ns 0 n → Each P ns → P n
first_of P n [] many e f is o = absurd (search (rules, sym (ap (λ m. m == 0) e) ∙ f))
first_of P n (m ∷ ns) many e f is o = subst P (sym is) o.0
