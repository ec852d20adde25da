-- A value that is taken over into a node.
use Rattle.std.proofs.Common.{◌≡◌, ℕ, true, if◌then◌else◌, List, ◌∷◌, refl, sym, ap, ◌∙◌}
use Rattle.ytt_base.specs.declared.fault.FaultKind.TheVariants as kind
use Rattle.ytt_base.specs.declared.fault.Place.{Place}
use Rattle.code_spec.specs.Program.{ItemKind, element_item, pair_item, same_kind}
use Rattle.star_spec.specs.Flow.{on}
use Rattle.star_values.specs.View.{View, value_of}
use Rattle.star_values.specs.declared.value.Ref.{Ref}
use Rattle.star_values.specs.declared.value.Value.{Value}
use Rattle.star_values.specs.declared.value.Value.TheVariants as value
use Rattle.template_meaning.specs.Run.{Node}
use Rattle.template_meaning.specs.Take.{children_in_place, levels_at, levels_replaced, replaced, take_over}
use Rattle.value_spec.specs.Outcomes.{Ending, State, done, asks, bad, fail, give, then_do, ◌>>=◌}
use Rattle.value_spec.specs.Values as plain
use Rattle.value_spec.specs.Values.{Children, Taken, fragment_value, list_of, many, map_of, taken}
use Rattle.node_build.specs.Parts.{taking}
use Rattle.node_build.specs.Taking.{as_tree, items_taken}

-- ---- fragments

after_items : (f : Children → Taken) (cs : Children) (o : Ending (Unit {0}) (Unit {0})) → then_do o (λ u. give (f cs)) ≡ then_do (then_do o (λ u. give cs)) (λ cs. give (f cs))
after_items f cs (done u s) = refl
after_items f cs (bad x s) = refl
after_items f cs (asks q s k) = λ i. asks q s (λ got t. after_items f cs (k got t) i)

module _ (p : Place) (k : ItemKind) (n l : ℕ) (v : plain.Value) (cs : Children) (s : State (Unit {0})) (level : l ≡ levels_at n) where
  pub pairs_over : v ≡ fragment_value pair_item cs → take_over {H = Unit {0}} p k n v s ≡ then_do (items_taken l p (λ cs. cs) cs s) (λ cs. give (taken (map_of cs)))
  pairs_over e = ap (λ v. take_over {H = Unit {0}} p k n v s) e ∙ after_items (λ cs. taken (map_of cs)) cs _ ∙ ap (λ l. then_do (items_taken l p (λ cs. cs) cs s) (λ cs. give (taken (map_of cs)))) (sym level)

  pub elements_over : v ≡ fragment_value element_item cs → take_over {H = Unit {0}} p k n v s ≡ then_do (items_taken l p (λ cs. cs) cs s) (λ cs. give (taken (list_of cs)))
  elements_over e = ap (λ v. take_over {H = Unit {0}} p k n v s) e ∙ after_items (λ cs. taken (list_of cs)) cs _ ∙ ap (λ l. then_do (items_taken l p (λ cs. cs) cs s) (λ cs. give (taken (list_of cs)))) (sym level)

-- in the place of a node of the same kind
pub items_replaced : (p : Place) (k of : ItemKind) (n l : ℕ) (v : plain.Value) (cs : Children) (s : State (Unit {0})) → l ≡ levels_replaced n → v ≡ fragment_value of cs → same_kind of k ≡ true
    → replaced {H = Unit {0}} p k n v s ≡ then_do (items_taken l p (λ cs. cs) cs s) (λ cs. give (many cs))
items_replaced p k of n l v cs s level e h =
    ap (λ v. replaced {H = Unit {0}} p k n v s) e
    ∙ ap (λ b. (if b then (children_in_place p n (fragment_value of cs) >>= λ cs. give (many cs)) else fail kind.FragmentMixed p) s) h
    ∙ ap (λ l. then_do (items_taken l p (λ cs. cs) cs s) (λ cs. give (many cs))) (sym level)

-- ---- what is neither a native nor a fragment

pub other_over : (p : Place) (k : ItemKind) (n : ℕ) (a : View) (v : Value) → ((r : Ref) → v ≡ value.Native r → ⊥) → ((r : Ref) → v ≡ value.Fragment r → ⊥) → take_over {H = Unit {0}} p k n (value_of a v) ≡ as_tree p n (value_of a v)
other_over p k n a value.None g h = refl
other_over p k n a (value.Bool b) g h = refl
other_over p k n a (value.Int z) g h = refl
other_over p k n a (value.Text r) g h = refl
other_over p k n a (value.List r) g h = refl
other_over p k n a (value.Dict r) g h = refl
other_over p k n a (value.Tuple r) g h = refl
other_over p k n a (value.Range r) g h = refl
other_over p k n a (value.Struct r) g h = refl
other_over p k n a (value.Fragment r) g h = absurd (h r refl)
other_over p k n a (value.Func r) g h = refl
other_over p k n a (value.Native r) g h = absurd (g r refl)
other_over p k n a (value.Module r) g h = refl

-- ---- in the node on top

pub taking_form : (v : plain.Value) (top under : Node) (below rest : List Node) (around : ℕ) (s : State (Unit {0})) → below ≡ under ∷ rest → under.level ≡ around
    → taking v (top ∷ below) s ≡ then_do (take_over top.place top.kind around v s) (λ b. give (on (record top { value = b } ∷ under ∷ rest)))
taking_form v top under below rest around s e f =
    ap (λ ns. taking v (top ∷ ns) s) e ∙ ap (λ l. then_do (take_over top.place top.kind l v s) (λ b. give (on (record top { value = b } ∷ under ∷ rest)))) f

pub taking_done : (v : plain.Value) (top under : Node) (below rest : List Node) (around : ℕ) (s t : State (Unit {0})) (b : Taken) → below ≡ under ∷ rest → under.level ≡ around → take_over top.place top.kind around v s ≡ done b t
    → taking v (top ∷ below) s ≡ done (on (record top { value = b } ∷ below)) t
taking_done v top under below rest around s t b e f h =
    taking_form v top under below rest around s e f ∙ ap (λ o. then_do o (λ b. give (on (record top { value = b } ∷ under ∷ rest)))) h
    ∙ ap (λ ns. done (on (record top { value = b } ∷ ns)) t) (sym e)
