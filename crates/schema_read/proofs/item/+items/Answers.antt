use Rattle.std.proofs.Common.{◌≡◌, ◌∙◌, ℕ, ◌+◌, ◌<◌, List, length, get_or, false, Err, ap, drop, refl, subst, rules}
use Rattle.std.proofs.Math.ListN.{drop_of_length-le}
use Rattle.ytt_laws.proofs.Lists.{dropped}
use Rattle.value_spec.specs.Outcomes.{Computation, Ending, State}
use Rattle.value_spec.specs.Values as plain
use Rattle.star_fragments.proofs.Held.{body_owned, list_owned, map_owned}
use Rattle.star_steps.proofs.Meeting.{meets_same}
use Rattle.star_steps.specs.Meets.{as_is, state_in}
use Rattle.star_values.specs.Objects.{seen}
use Rattle.star_values.specs.View.{built_in, child_in, scalar_key}
use Rattle.star_values.specs.declared.value.BuiltItem.{BuiltItem}
use Rattle.star_values.specs.declared.value.BuiltValue.{the_lemmas}
use Rattle.schema_check.specs.View.{schema_of, types_of}
use Rattle.schema_spec.specs.Reading.{and_types, item_schema, member_types, named_type}
use Rattle.schema_spec.specs.Schemas.{Schema, TypePairs}
use Rattle.schema_read.proofs.Items.{first-member, one-item, two-items}
use Rattle.schema_read.proofs.Owned.{notes_owned}
use Rattle.schema_read.proofs.Turning.{SoFar, as_entry, begin, finish, key-stop, named-done, next, stop, type-stop}
use Rattle.schema_read.proofs.item.+items.Goals as goal

pub body_type-member_types-requires : goal.body_type-member_types-requires
body_type-member_types-requires t c = (search (rules, the_lemmas), rw c.as_slice.ensures (map_owned (seen c.args.arena.now) c.args.value.now c.in-Map.items c.in-Map.is c.requires))

pub body_type-item_type-requires : goal.body_type-item_type-requires
body_type-item_type-requires t c = (search (rules, the_lemmas), rw c.as_slice-in-List.ensures (list_owned (seen c.args.arena.now) c.args.value.now c.in-List.items c.in-List.is c.requires))

pub item_schema-read_notes-requires : goal.item_schema-read_notes-requires
item_schema-read_notes-requires t c = rw c.as_slice.ensures (notes_owned (seen c.args.arena.now) c.args.item.now c.requires)

pub item_schema-body_type-requires : goal.item_schema-body_type-requires
item_schema-body_type-requires t c = (search (rules, the_lemmas), body_owned (seen c.args.arena.now) c.args.item.now c.requires)

pub item_type-returns-in-len1 : goal.item_type-returns-in-len1
item_type-returns-in-len1 t c =
    let a = seen c.args.arena.now in
    let s = state_in a c.args.steps.now in
    meets_same schema_of c.item_schema.result (state_in a c.item_schema.new.steps) _ _
    (ap (λ m. m s) (one-item a.held c.args.place c.args.items.now c.item-item.result c.in-len1.len_at_least c.in-len1.len_below c.item-item.is)) c.item_schema.ensures

pub item_type-returns-in-len2-up : goal.item_type-returns-in-len2-up
item_type-returns-in-len2-up t c =
    let a = seen c.args.arena.now in
    let s = state_in a c.args.steps.now in
    meets_same schema_of (Err c.schema_form-in-len2-up.result) s _ _ (ap (λ m. m s) (two-items a.held c.args.place c.args.items.now c.in-len2-up.len_at_least))
    (rw c.schema_form-in-len2-up.ensures refl)

pub member_types-loop-item-init : goal.member_types-loop-item-init
member_types-loop-item-init t c =
    let a = seen c.args.arena.now in
    (c.new-types.ensures.whole, begin (types_of c.new-types.result) (member_types (built_in a.held c.args.items.now)) (state_in a c.args.steps.now) c.new-types.ensures.none)

-- the key and the type of an item
abbrev named : (held : List plain.Value) → BuiltItem → Computation (Unit {0}) (List ℕ × Schema)
named held i = named_type i.place (scalar_key i.key) (item_schema false (child_in held i))

-- what is read so far, where this item comes next
left : (held : List plain.Value) (all : Ending (Unit {0}) TypePairs) (items : List BuiltItem) (front : TypePairs) (n : ℕ) (i : BuiltItem) (s : State (Unit {0})) → n < length items → i ≡ get_or items n i
    → SoFar all front (member_types (built_in held (drop n items))) s → SoFar all front (and_types (named held i) (member_types (built_in held (drop (n + 1) items)))) s
left held all items front n i s lt is h =
    subst (λ m. SoFar all front m s) (ap (λ is. member_types (built_in held is)) (dropped items n i lt is) ∙ first-member held i (built_in held (drop (n + 1) items))) h

pub member_types-returns-in_err-name : goal.member_types-returns-in_err-name
member_types-returns-in_err-name t c =
    let a = seen c.args.arena.now in
    let item = c.item-item.result in
    let s = state_in a c.loop-item.steps in
    let x = c.in_err-name.field-0.0 in
    let stopped : c.from_residual.result ≡ Err x = search rules in
    let h = left a.held _ c.args.items.now (types_of c.loop-item.types) c.loop-item.item-index item s c.loop-item-test.true c.item-item.is c.loop-item.invariant.1 in
    stop _ _ (named a.held item) _ s h as_entry x s c.from_residual.result
    (key-stop item.place (scalar_key item.key) (item_schema false (child_in a.held item)) s as_is as_entry x s (c.in_err-name.ensures s)) stopped

pub member_types-returns-in_err-schema : goal.member_types-returns-in_err-schema
member_types-returns-in_err-schema t c =
    let a = seen c.args.arena.now in
    let item = c.item-item.result in
    let s = state_in a c.loop-item.steps in
    let u = state_in a c.item_schema.new.steps in
    let x = c.in_err-schema.field-0.0 in
    let stopped : c.from_residual-in_err-schema.result ≡ Err x = search rules in
    let h = left a.held _ c.args.items.now (types_of c.loop-item.types) c.loop-item.item-index item s c.loop-item-test.true c.item-item.is c.loop-item.invariant.1 in
    stop _ _ (named a.held item) _ s h as_entry x u c.from_residual-in_err-schema.result
    (type-stop item.place (scalar_key item.key) (item_schema false (child_in a.held item)) s schema_of as_entry c.in_ok-name.name s u x (c.in_ok-name.ensures s) c.in_err-schema.ensures) stopped

pub member_types-loop-item-preserved : goal.member_types-loop-item-preserved
member_types-loop-item-preserved t c =
    let a = seen c.args.arena.now in
    let item = c.item-item.result in
    let s = state_in a c.loop-item.steps in
    let u = state_in a c.item_schema.new.steps in
    let name = c.in_ok-name.name in
    let schema = schema_of c.in_ok-schema.schema in
    let h = left a.held _ c.args.items.now (types_of c.loop-item.types) c.loop-item.item-index item s c.loop-item-test.true c.item-item.is c.loop-item.invariant.1 in
    let found = named-done item.place (scalar_key item.key) (item_schema false (child_in a.held item)) s name schema s u (c.in_ok-name.ensures s) c.in_ok-schema.ensures in
    (c.push.ensures.whole, rw c.in_ok-push.ensures.ok (next _ (types_of c.loop-item.types) (named a.held item) _ s h name schema u found))

pub member_types-returns : goal.member_types-returns
member_types-returns t c =
    let a = seen c.args.arena.now in
    let s = state_in a c.loop-item.steps in
    let all = member_types (built_in a.held c.args.items.now) (state_in a c.args.steps.now) in
    finish all (types_of c.loop-item.types) s
    (subst (λ is. SoFar all (types_of c.loop-item.types) (member_types (built_in a.held is)) s) (drop_of_length-le c.args.items.now c.loop-item-test.false) c.loop-item.invariant.1)
