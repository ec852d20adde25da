use Rattle.std.proofs.Common.{◌≡◌, ◌∙◌, ℕ, ◌+◌, ◌<◌, List, ◌∷◌, length, get_or, Err, Some, ap, drop, refl, subst, sym, rules}
use Rattle.std.proofs.Math.ListN.{drop_of_length-le}
use Rattle.ytt_base.proofs.Views.{tree_of-List, tree_of-Map}
use Rattle.ytt_base.specs.declared.fault.Place.{Place}
use Rattle.ytt_base.specs.declared.tree.Key.{Key}
use Rattle.ytt_base.specs.declared.tree.Tree.{Tree}
use Rattle.ytt_base.specs.Trees.{list, map}
use Rattle.ytt_base.specs.View.{key_of, pairs_of, tree_of, trees_of}
use Rattle.ytt_laws.proofs.Lists.{dropped}
use Rattle.value_spec.specs.Outcomes.{Computation, State, done, give, then_do}
use Rattle.star_steps.proofs.Meeting.{meets_same, meets_stop}
use Rattle.star_steps.specs.Meets.{as_is}
use Rattle.schema_check.specs.View.{schema_of, types_of}
use Rattle.schema_spec.specs.Reading.{example_item, example_pairs, example_type, list_schema, map_schema, named_type}
use Rattle.schema_spec.specs.Schemas.{Schema, TypePairs}
use Rattle.schema_read.proofs.Examples.{two-items}
use Rattle.schema_read.proofs.Turning.{SoFar, as_entry, begin, finish, key-stop, named-done, next, stop, type-stop}
use Rattle.schema_read.proofs.example.+example.Goals as goal

pub example_item-returns-in-len2-up : goal.example_item-returns-in-len2-up
example_item-returns-in-len2-up t c = λ s.
    meets_same schema_of (Err c.schema_form-in-len2-up.result) s _ _ (two-items c.args.place c.args.trees.now s (rw c.as_slice.ensures at c.in-len2-up.len_at_least)) (rw c.schema_form-in-len2-up.ensures refl)

pub example_pairs-loop-key-init : goal.example_pairs-loop-key-init
example_pairs-loop-key-init t c = (c.new-types.ensures.whole, λ s. begin (types_of c.new-types.result) (example_pairs c.args.place (pairs_of c.args.pairs.now)) s c.new-types.ensures.none)

-- what is read so far, with the pair that comes next in front of the rest
abbrev Left : Place → (pairs : List (Key × Tree)) → (front : TypePairs) → Key × Tree → (rest : List (Key × Tree)) → State (Unit {0}) → Type 0
Left p pairs front one rest s = SoFar (example_pairs p (pairs_of pairs) s) front (example_pairs p (pairs_of (one ∷ rest))) s

left : (p : Place) (pairs : List (Key × Tree)) (front : TypePairs) (i : ℕ) (one : Key × Tree) (s : State (Unit {0})) → i < length pairs → one ≡ get_or pairs i one
    → SoFar (example_pairs p (pairs_of pairs) s) front (example_pairs p (pairs_of (drop i pairs))) s → Left p pairs front one (drop (i + 1) pairs) s
left p pairs front i one s lt is h = subst (λ ps. SoFar (example_pairs p (pairs_of pairs) s) front (example_pairs p (pairs_of ps)) s) (dropped pairs i one lt is) h

abbrev named : Place → Key × Tree → Computation (Unit {0}) (List ℕ × Schema)
named p one = named_type p (Some (key_of one.0)) (example_type p (tree_of one.1))

pub example_pairs-returns-in_err-name : goal.example_pairs-returns-in_err-name
example_pairs-returns-in_err-name t c = λ s.
    let p = c.args.place in
    let one = c.loop-key-item.result in
    let x = c.in_err-name.field-0.0 in
    let stopped : c.from_residual.result ≡ Err x = search rules in
    let lt = rw c.as_slice-key-items.ensures at c.loop-key-test.true in
    let is = rw c.as_slice-key-items.ensures at c.loop-key-item.is in
    let h = left p c.args.pairs.now (types_of c.loop-key.types) c.loop-key.key-index one s lt is (c.loop-key.invariant.1 s) in
    stop _ _ (named p one) _ s h as_entry x s c.from_residual.result (key-stop p (Some (key_of one.0)) (example_type p (tree_of one.1)) s as_is as_entry x s (c.in_err-name.ensures s)) stopped

pub example_pairs-returns-in_err-schema : goal.example_pairs-returns-in_err-schema
example_pairs-returns-in_err-schema t c = λ s.
    let p = c.args.place in
    let one = c.loop-key-item.result in
    let x = c.in_err-schema.field-0.0 in
    let stopped : c.from_residual-in_err-schema.result ≡ Err x = search rules in
    let lt = rw c.as_slice-key-items.ensures at c.loop-key-test.true in
    let is = rw c.as_slice-key-items.ensures at c.loop-key-item.is in
    let h = left p c.args.pairs.now (types_of c.loop-key.types) c.loop-key.key-index one s lt is (c.loop-key.invariant.1 s) in
    stop _ _ (named p one) _ s h as_entry x s c.from_residual-in_err-schema.result
    (type-stop p (Some (key_of one.0)) (example_type p (tree_of one.1)) s schema_of as_entry c.in_ok-name.name s s x (c.in_ok-name.ensures s) (c.in_err-schema.ensures s)) stopped

pub example_pairs-loop-key-preserved : goal.example_pairs-loop-key-preserved
example_pairs-loop-key-preserved t c =
    let p = c.args.place in
    let one = c.loop-key-item.result in
    let name = c.in_ok-name.name in
    let schema = schema_of c.in_ok-schema.schema in
    let lt = rw c.as_slice-key-items.ensures at c.loop-key-test.true in
    let is = rw c.as_slice-key-items.ensures at c.loop-key-item.is in (
      c.push.ensures.whole,
      λ s.
          let h = left p c.args.pairs.now (types_of c.loop-key.types) c.loop-key.key-index one s lt is (c.loop-key.invariant.1 s) in
          let found = named-done p (Some (key_of one.0)) (example_type p (tree_of one.1)) s name schema s s (c.in_ok-name.ensures s) (c.in_ok-schema.ensures s) in
          rw c.in_ok-push.ensures.ok (next _ (types_of c.loop-key.types) (named p one) _ s h name schema s found),
    )

pub example_pairs-returns : goal.example_pairs-returns
example_pairs-returns t c = λ s.
    let past = rw c.as_slice-key-items.ensures at c.loop-key-test.false in
    let p = c.args.place in
    finish _ (types_of c.loop-key.types) s
    (subst (λ ps. SoFar (example_pairs p (pairs_of c.args.pairs.now) s) (types_of c.loop-key.types) (example_pairs p (pairs_of ps)) s) (drop_of_length-le c.args.pairs.now past) (c.loop-key.invariant.1 s))

pub example_type-returns-in_err-item-in-List : goal.example_type-returns-in_err-item-in-List
example_type-returns-in_err-item-in-List t c = λ s.
    let p = c.args.place in
    let trees = c.in-List.trees in
    let x = c.in_err-item-in-List.field-0.0 in
    let stopped : c.from_residual-in_err-item-in-List.result ≡ Err x = search rules in
    let is : tree_of c.args.tree.now ≡ list (trees_of trees) = ap tree_of c.in-List.is ∙ tree_of-List trees in
    meets_same schema_of c.from_residual-in_err-item-in-List.result s _ _ (ap (λ t. example_type p t s) is)
    (meets_stop schema_of schema_of x s (example_item p (trees_of trees) s) (λ i. give (list_schema i)) _ (c.in_err-item-in-List.ensures s) stopped)

pub example_type-returns-in_err-types-in-Map : goal.example_type-returns-in_err-types-in-Map
example_type-returns-in_err-types-in-Map t c = λ s.
    let p = c.args.place in
    let pairs = c.in-Map.pairs in
    let x = c.in_err-types-in-Map.field-0.0 in
    let stopped : c.from_residual-in_err-types-in-Map.result ≡ Err x = search rules in
    let is : tree_of c.args.tree.now ≡ map (pairs_of pairs) = ap tree_of c.in-Map.is ∙ tree_of-Map pairs in
    meets_same schema_of c.from_residual-in_err-types-in-Map.result s _ _ (ap (λ t. example_type p t s) is)
    (meets_stop types_of schema_of x s (example_pairs p (pairs_of pairs) s) (λ ms. give (map_schema ms)) _ (c.in_err-types-in-Map.ensures s) stopped)

pub example_type-returns-in_ok-list_schema-in-List : goal.example_type-returns-in_ok-list_schema-in-List
example_type-returns-in_ok-list_schema-in-List t c = λ s.
    let p = c.args.place in
    let trees = c.in-List.trees in
    let is : tree_of c.args.tree.now ≡ list (trees_of trees) = ap tree_of c.in-List.is ∙ tree_of-List trees in
    ap (λ t. example_type p t s) is ∙ ap (λ o. then_do o (λ i. give (list_schema i))) (c.in_ok-item-in-List.ensures s) ∙ ap (λ t. done t s) (sym c.in_ok-list_schema-in-List.ensures)

pub example_type-returns-in_ok-map_schema-in-Map : goal.example_type-returns-in_ok-map_schema-in-Map
example_type-returns-in_ok-map_schema-in-Map t c = λ s.
    let p = c.args.place in
    let pairs = c.in-Map.pairs in
    let is : tree_of c.args.tree.now ≡ map (pairs_of pairs) = ap tree_of c.in-Map.is ∙ tree_of-Map pairs in
    ap (λ t. example_type p t s) is ∙ ap (λ o. then_do o (λ ms. give (map_schema ms))) (c.in_ok-types-in-Map.ensures s) ∙ ap (λ t. done t s) (sym c.in_ok-map_schema-in-Map.ensures)
