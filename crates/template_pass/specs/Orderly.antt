-- The order of a text's items: an outer one before an inner one, and each the next one of its collection.
use Rattle.std.specs.Prelude.{◌≡◌, List, [], ◌∷◌, IsTrue}
use Rattle.template_spec.specs.Events.{Path, Event, begins, beside, says}
use Rattle.template_spec.specs.OpenBlocks.{collection_of, lies_in, so_far}

-- behind these events, where the item at `last` began last, each item's collection is one that the last item is in, and its number
-- is how many items of that have begun
abbrev pub Orderly : (last : Path) → (past : List Event) → List Event → Type 0
Orderly q past [] = Unit {0}
Orderly q past (begins p k l ∷ es) = IsTrue (lies_in q (collection_of p)) × (p ≡ so_far (collection_of p) past ∷ collection_of p) × Orderly p (begins p k l ∷ past) es
Orderly q past (beside p k b l s ∷ es) = Orderly q (beside p k b l s ∷ past) es
Orderly q past (says l s ∷ es) = Orderly q (says l s ∷ past) es
