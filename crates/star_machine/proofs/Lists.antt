-- Lists from an index on.
use Rattle.std.proofs.Common.{◌≡◌, ℕ, ◌+◌, ◌<◌, List, [], ◌∷◌, length, get_or, drop, take, refl, ap, ◌∙◌, add-one, drop-cons}
use Rattle.std.specs.Prelude.{reverse}
use Rattle.std.proofs.lemmas.List.{take_more, reverse-append}
use Rattle.ll.specs.declared.shapes.Effect.{Effect}
use Rattle.ll.specs.declared.shapes.Shape.{Shape}
use Rattle.ll.specs.Shapes.{apply, run}
use Rattle.star_grammar.specs.declared.table.Symbol.TheVariants as symbol
use Rattle.star_machine.specs.declared.pending.Item.{Item}
use Rattle.star_machine.specs.declared.pending.Item.TheVariants as item
use Rattle.star_machine.specs.Turns.{along, passed}

pub run_more : (es : List Effect) (i : ℕ) (d : Effect) (xs : List Shape) → i < length es → run (drop i es) xs ≡ run (drop (i + 1) es) (apply (get_or es i d) xs)
run_more es i d xs lt = rw (add-one, drop-cons es i d lt) refl

pub one : (x : Item) (rest : List Item) (xs : List Shape) → along (x ∷ rest) xs ≡ along rest (passed x xs)
one (item.Close c) rest xs = refl
one (item.Want (symbol.Token a)) rest xs = refl
one (item.Want (symbol.Rule r)) rest xs = refl

pub one_less : (items : List Item) (i left : ℕ) (d : Item) (xs : List Shape) → i + 1 ≡ left → i < length items → along (reverse (take left items)) xs ≡ along (reverse (take i items)) (passed (get_or items i d) xs)
one_less items i left d xs e lt =
    rw (← e) (ap (λ l. along (reverse l) xs) (take_more items i d lt) ∙ ap (λ l. along l xs) (reverse-append (take i items) (get_or items i d ∷ [])) ∙ one (get_or items i d) (reverse (take i items)) xs)
