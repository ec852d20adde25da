-- Items that were read already, before those that are still to be read.
use Rattle.std.proofs.Common.{◌≡◌, List, [], ◌∷◌, ◌++◌, Option, Some, None, option_map, Ok, Err, refl, ap, ◌∙◌, sym}
use Rattle.ytt_base.specs.Outcomes.{Outcome, and_then}
use Rattle.yaml_spec.specs.Flow.{Members}
use Rattle.yaml_spec.specs.Noted.{Items, item, no_items}
use Rattle.yaml_noted.specs.declared.noted.NotedItem.{NotedItem}
use Rattle.yaml_noted.specs.View.{items_of, noted_of}
use Rattle.yaml_flow.specs.Members.{Noted_item, some_item}
use Rattle.yaml_flow.specs.View.{with_some}

-- these items before others
abbrev pub with_items : List NotedItem → Items → Items
with_items [] is = is
with_items (x ∷ xs) is = item (noted_of x).0 (noted_of x).1 (with_items xs is)

abbrev pub before_members : List NotedItem → Members → Outcome Members
before_members done m = Ok (with_items done m.0, m.1, m.2)

-- what is read, with these items before it
abbrev pub with_all : List NotedItem → Outcome Members → Outcome Members
with_all done o = and_then (before_members done) o

pub with_items-none : (xs : List NotedItem) → with_items xs no_items ≡ items_of xs
with_items-none [] = refl
with_items-none (x ∷ xs) = ap (item (noted_of x).0 (noted_of x).1) (with_items-none xs)

-- what is read, with an item before it, if there is one
abbrev pub with_found : Option Noted_item → Outcome Members → Outcome Members
with_found i o = and_then (λ (more : Members). Ok (some_item i more.0, more.1, more.2)) o

with_items-push : (xs : List NotedItem) (x : NotedItem) (is : Items) → with_items (xs ++ x ∷ []) is ≡ with_items xs (item (noted_of x).0 (noted_of x).1 is)
with_items-push [] x is = refl
with_items-push (y ∷ xs) x is = ap (item (noted_of y).0 (noted_of y).1) (with_items-push xs x is)

with_items-some : (xs : List NotedItem) (x : Option NotedItem) (is : Items) → with_items xs (some_item (option_map noted_of x) is) ≡ with_items (with_some xs x) is
with_items-some xs None is = refl
with_items-some xs (Some x) is = sym (with_items-push xs x is)

-- an item may be counted to those that were read
pub with_all-found : (xs : List NotedItem) (x : Option NotedItem) (o : Outcome Members) → with_all xs (with_found (option_map noted_of x) o) ≡ with_all (with_some xs x) o
with_all-found xs x (Ok m) = ap (λ (is : Items). Ok (is, m.1, m.2)) (with_items-some xs x m.0)
with_all-found xs x (Err f) = refl

-- nothing is left to be read
pub all-read : (xs ys : List NotedItem) (x : Option NotedItem) → ys ≡ with_some xs x → with_items xs (some_item (option_map noted_of x) no_items) ≡ items_of ys
all-read xs ys x e = rw e (with_items-some xs x no_items ∙ with_items-none (with_some xs x))

-- nothing was read yet
pub with_all-none : (xs : List NotedItem) (o : Outcome Members) → xs ≡ [] → with_all xs o ≡ o
with_all-none xs (Ok m) e = rw e refl
with_all-none xs (Err f) e = refl
