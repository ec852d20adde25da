-- One member after another, until one is found.
use Rattle.std.proofs.Common.{◌≡◌, ℕ, ◌+◌, ◌<◌, ◌≤◌, List, [], ◌∷◌, Bool, true, false, ◌||◌, length, drop, get_or, refl, sym, ap, ◌∙◌, ◌++◌}
use Rattle.std.proofs.lemmas.List.{drop_more, drop_all}
use Rattle.template_spec.specs.Template.{Item, Items, an_item, no_items}
use Rattle.template_tree.specs.View.{in_order}

-- what holds of some member, where it holds of this one
pub found_here : {T : Type 0} (one : T → Bool) (some : List T → Bool) (all : Bool) (xs : List T) (j : ℕ) (x : T) →
    ((y : T) (ys : List T) → some (y ∷ ys) ≡ (one y || some ys)) → j < length xs → x ≡ get_or xs j x → one x ≡ true → some (drop j xs) ≡ all → true ≡ all
found_here one some all xs j x step lt e h k =
    ap (λ b. b || some (drop (j + 1) xs)) (sym h) ∙ sym (step x (drop (j + 1) xs)) ∙ ap some (ap (λ y. y ∷ drop (j + 1) xs) e ∙ sym (drop_more xs j x lt)) ∙ k

-- what holds of some member, where it doesn't hold of this one
pub found_later : {T : Type 0} (one : T → Bool) (some : List T → Bool) (all : Bool) (xs : List T) (j : ℕ) (x : T) →
    ((y : T) (ys : List T) → some (y ∷ ys) ≡ (one y || some ys)) → j < length xs → x ≡ get_or xs j x → one x ≡ false → some (drop j xs) ≡ all → some (drop (j + 1) xs) ≡ all
found_later one some all xs j x step lt e h k =
    ap (λ b. b || some (drop (j + 1) xs)) (sym h) ∙ sym (step x (drop (j + 1) xs)) ∙ ap some (ap (λ y. y ∷ drop (j + 1) xs) e ∙ sym (drop_more xs j x lt)) ∙ k

-- at the end of the members
pub found_nowhere : {T : Type 0} (some : List T → Bool) (all : Bool) (xs : List T) (j : ℕ) → some [] ≡ false → length xs ≤ j → some (drop j xs) ≡ all → false ≡ all
found_nowhere some all xs j none le k = sym none ∙ ap some (sym (drop_all j xs le)) ∙ k

-- the first of two
pub first_of_two : (r a b : Bool) → r ≡ true → r ≡ a → r ≡ (a || b)
first_of_two r a b t e = t ∙ ap (λ x. x || b) (sym t ∙ e)

-- the second of two, where the first is none
pub second_of_two : (r a b s : Bool) → r ≡ false → r ≡ a → s ≡ b → s ≡ (a || b)
second_of_two r a b s f e k = k ∙ ap (λ x. x || b) (sym f ∙ e)

pub or_swap : (a b c : Bool) → (a || (b || c)) ≡ (b || (a || c))
or_swap true true c = refl
or_swap true false c = refl
or_swap false b c = refl

-- what holds of some item of the text holds of the last one, or of one before it
pub found_last : (one : Item → Bool) (some : Items → Bool) → some no_items ≡ false → ((i : Item) (is : Items) → some (an_item i is) ≡ (one i || some is)) →
    (is : List Item) (i : Item) → some (in_order (is ++ i ∷ [])) ≡ (one i || some (in_order is))
found_last one some none more [] i = more i no_items
found_last one some none more (x ∷ is) i =
    more x (in_order (is ++ i ∷ [])) ∙ ap (λ b. one x || b) (found_last one some none more is i) ∙ or_swap (one x) (one i) (some (in_order is)) ∙ ap (λ b. one i || b) (sym (more x (in_order is)))
