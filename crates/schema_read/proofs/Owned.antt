-- What an arena owns of items and their notes.
use Rattle.std.proofs.Common.{◌≡◌, List, [], ◌∷◌, ◌++◌, rules, subst}
use Rattle.star_values.specs.Owns.{Each, Owns, OwnsAll, OwnsItem, body_values, field_values, item_values, note_values, values_of_item}
use Rattle.star_values.specs.View.{View}
use Rattle.star_values.specs.declared.value.BuiltItem.{BuiltItem}
use Rattle.star_values.specs.declared.value.BuiltNote.{BuiltNote}
use Rattle.star_values.specs.declared.value.BuiltValue.{fold-BuiltValue, the_lemmas}
use Rattle.star_values.specs.declared.value.Value.{Value}

pub each_parted : {A : Type 0} (P : A → Type 0) (xs ys : List A) → Each P (xs ++ ys) → Each P xs × Each P ys
each_parted P [] ys h = (tt, h)
each_parted P (x ∷ xs) ys h = let k = each_parted P xs ys h.1 in ((h.0, k.0), k.1)

-- the arguments of a note by position, and the notes behind it
pub note_parted : (a : View) (n : BuiltNote) (ns : List BuiltNote) → OwnsAll a (note_values (n ∷ ns)) → OwnsAll a n.args.positional × OwnsAll a (note_values ns)
note_parted a n ns h =
    let first = each_parted (Owns a) n.args.positional (field_values n.args.named ++ note_values ns) h in
    (first.0, (each_parted (Owns a) (field_values n.args.named) (note_values ns) first.1).1)

item_held : (i : BuiltItem) → values_of_item i ≡ note_values i.notes ++ fold-BuiltValue (List Value) (List Value) body_values item_values i.value
item_held i = search (rules, the_lemmas)

-- the arguments of an item's notes
pub notes_owned : (a : View) (i : BuiltItem) → OwnsItem a i → OwnsAll a (note_values i.notes)
notes_owned a i o = (each_parted (Owns a) (note_values i.notes) (fold-BuiltValue (List Value) (List Value) body_values item_values i.value) (subst (OwnsAll a) (item_held i) o)).0
