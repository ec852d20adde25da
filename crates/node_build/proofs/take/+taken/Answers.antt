use Rattle.std.proofs.Common.{◌≡◌, ◌≤◌, length, Err, ap, subst, ◌∙◌, arith, rules}
use Rattle.std.proofs.Math.ListN.{drop_of_length-le}
use Rattle.std.proofs.lemmas.List.{drop_more}
use Rattle.star_values.specs.declared.value.Value.TheVariants as value
use Rattle.ytt_base.specs.View.{key_of, tree_of}
use Rattle.ytt_base.specs.Trees.{string}
use Rattle.ytt_base.specs.declared.tree.Key.TheVariants as key
use Rattle.star_steps.proofs.Meeting.{meets_same, meets_stop}
use Rattle.star_steps.specs.Meets.{as_is, state_in}
use Rattle.star_values.specs.Objects.{pair_in, seen}
use Rattle.star_values.specs.Owns.{Owns}
use Rattle.star_values.specs.View.{value_of, values_of}
use Rattle.template_meaning.specs.Take.{tree_of_value}
use Rattle.value_spec.specs.Store.{pairs_at}
use Rattle.ytt_laws.proofs.Lists.{dropped}
use Rattle.node_build.proofs.Forms.{dict_form, list_form, struct_form, tuple_form}
use Rattle.node_build.proofs.Taking.{drop_get, left_members, left_pairs, member_form, members_all, members_begin, members_next, members_stop, meets_then, pair_done, pair_key_stop, pair_tree_stop, pairs_begin, pairs_done, pairs_next, pairs_stop}
use Rattle.node_build.specs.Taking.{field_pair, field_pairs}
use Rattle.node_build.proofs.take.+taken.Goals as goal

-- ---- values by their form

pub taken_tree-returns-in-List : goal.taken_tree-returns-in-List
taken_tree-returns-in-List t c =
    let a = seen c.args.arena.now in
    let s = state_in a c.args.steps.now in
    let owned = subst (Owns a) c.in-List.is c.requires in
    meets_same tree_of c.list_tree.result (state_in a c.list_tree.new.steps) _ _
    (ap (λ v. tree_of_value c.args.levels c.args.place (value_of a v) s) c.in-List.is ∙ list_form c.args.place s c.args.levels c.in-List.list.at _ owned.1 c.list.ensures.members)
    c.list_tree.ensures

pub taken_tree-returns-in-Tuple : goal.taken_tree-returns-in-Tuple
taken_tree-returns-in-Tuple t c =
    let a = seen c.args.arena.now in
    let s = state_in a c.args.steps.now in
    meets_same tree_of c.list_tree-in-Tuple.result (state_in a c.list_tree-in-Tuple.new.steps) _ _
    (ap (λ v. tree_of_value c.args.levels c.args.place (value_of a v) s) c.in-Tuple.is ∙ tuple_form c.args.place s c.args.levels _ _ c.tuple_members.ensures.members)
    c.list_tree-in-Tuple.ensures

pub taken_tree-returns-in-Dict : goal.taken_tree-returns-in-Dict
taken_tree-returns-in-Dict t c =
    let a = seen c.args.arena.now in
    let s = state_in a c.args.steps.now in
    let owned = subst (Owns a) c.in-Dict.is c.requires in
    meets_same tree_of c.dict_tree.result (state_in a c.dict_tree.new.steps) _ _
    (ap (λ v. tree_of_value c.args.levels c.args.place (value_of a v) s) c.in-Dict.is ∙ dict_form c.args.place s c.args.levels c.in-Dict.dict.at owned.1)
    c.dict_tree.ensures

pub taken_tree-returns-in-Struct : goal.taken_tree-returns-in-Struct
taken_tree-returns-in-Struct t c =
    let a = seen c.args.arena.now in
    let s = state_in a c.args.steps.now in
    meets_same tree_of c.struct_tree.result (state_in a c.struct_tree.new.steps) _ _
    (ap (λ v. tree_of_value c.args.levels c.args.place (value_of a v) s) c.in-Struct.is ∙ struct_form c.args.place s c.args.levels _ _ c.fields_of.ensures.fields)
    c.struct_tree.ensures

-- ---- members

pub member_tree-returns-in_err-pay : goal.member_tree-returns-in_err-pay
member_tree-returns-in_err-pay t c =
    let a = seen c.args.arena.now in
    let stopped : c.from_residual.result ≡ Err c.in_err-pay.field-0.0 = search rules in
    meets_same tree_of c.from_residual.result (state_in a c.pay.new.steps) _ _
    (ap (λ m. m (state_in a c.args.steps.now)) (member_form c.args.levels c.args.place (value_of a c.args.value)))
    (meets_stop {A = Unit {0}} as_is tree_of c.in_err-pay.field-0.0 _ _ _ _ c.in_err-pay.ensures stopped)

pub member_tree-returns : goal.member_tree-returns
member_tree-returns t c =
    let a = seen c.args.arena.now in
    meets_same tree_of c.taken_tree.result (state_in a c.taken_tree.new.steps) _ _
    (ap (λ m. m (state_in a c.args.steps.now)) (member_form c.args.levels c.args.place (value_of a c.args.value)))
    (meets_then tree_of (state_in a c.taken_tree.new.steps) (state_in a c.pay.new.steps) _ _ _ c.taken_tree.result c.in_ok-pay.ensures c.taken_tree.ensures)

pub member_trees-returns-in_err-tree : goal.member_trees-returns-in_err-tree
member_trees-returns-in_err-tree t c =
    let a = seen c.args.arena.now in
    let stopped : c.from_residual.result ≡ Err c.in_err-tree.field-0.0 = search rules in
    let left = ap (values_of a) (drop_more c.args.members.now c.loop-member.member-index value.None c.loop-member-test.true) in
    members_stop c.args.levels c.args.place _ c.loop-member.trees _ _ (state_in a c.loop-member.steps) (left_members c.args.levels c.args.place _ _ _ _ _ left c.loop-member.invariant)
    c.in_err-tree.field-0.0 (state_in a c.member_tree.new.steps) c.from_residual.result c.in_err-tree.ensures stopped

pub member_trees-loop-member-init : goal.member_trees-loop-member-init
member_trees-loop-member-init t c = members_begin c.args.levels c.args.place _ (values_of (seen c.args.arena.now) c.args.members.now) (state_in (seen c.args.arena.now) c.args.steps.now) c.new-trees.ensures

pub member_trees-loop-member-preserved : goal.member_trees-loop-member-preserved
member_trees-loop-member-preserved t c =
    let a = seen c.args.arena.now in
    let left = ap (values_of a) (drop_more c.args.members.now c.loop-member.member-index value.None c.loop-member-test.true) in
    rw c.in_ok-push.ensures.ok
    (members_next c.args.levels c.args.place _ c.loop-member.trees _ _ (state_in a c.loop-member.steps) (left_members c.args.levels c.args.place _ _ _ _ _ left c.loop-member.invariant)
    c.in_ok-tree.tree (state_in a c.member_tree.new.steps) c.in_ok-tree.ensures)

pub member_trees-returns : goal.member_trees-returns
member_trees-returns t c =
    let a = seen c.args.arena.now in
    members_all c.args.levels c.args.place _ c.loop-member.trees (state_in a c.loop-member.steps)
    (left_members c.args.levels c.args.place _ _ _ _ _ (ap (values_of a) (drop_of_length-le c.args.members.now c.loop-member-test.false)) c.loop-member.invariant)

-- ---- the pairs of a dict

pub dict_pair-returns-in_err-key : goal.dict_pair-returns-in_err-key
dict_pair-returns-in_err-key t c =
    let a = seen c.args.arena.now in
    let stopped : c.from_residual.result ≡ Err c.in_err-key.field-0.0 = search rules in
    pair_key_stop c.args.levels c.args.place key_of (pair_in a.held c.args.pair) c.in_err-key.field-0.0 _ _ c.from_residual.result c.in_err-key.ensures stopped

pub dict_pair-returns-in_err-tree : goal.dict_pair-returns-in_err-tree
dict_pair-returns-in_err-tree t c =
    let a = seen c.args.arena.now in
    let stopped : c.from_residual-in_err-tree.result ≡ Err c.in_err-tree.field-0.0 = search rules in
    pair_tree_stop c.args.levels c.args.place (pair_in a.held c.args.pair) _ c.in_err-tree.field-0.0 _ _ _ c.from_residual-in_err-tree.result c.in_ok-key.ensures c.in_err-tree.ensures stopped

pub dict_pair-returns : goal.dict_pair-returns
dict_pair-returns t c =
    let a = seen c.args.arena.now in
    pair_done c.args.levels c.args.place (pair_in a.held c.args.pair) (c.in_ok-key.key, c.in_ok-tree.tree) _ _ _ c.in_ok-key.ensures c.in_ok-tree.ensures

pub dict_pairs-returns-in_err-pair : goal.dict_pairs-returns-in_err-pair
dict_pairs-returns-in_err-pair t c =
    let a = seen c.args.arena.now in
    let stopped : c.from_residual.result ≡ Err c.in_err-pair.field-0.0 = search rules in
    let left = drop_get (pairs_at c.args.dict.at a.store) c.loop-i.i _ c.pair_at.ensures.pair in
    pairs_stop c.args.levels c.args.place _ c.loop-i.pairs _ _ (state_in a c.loop-i.steps) (left_pairs c.args.levels c.args.place _ _ _ _ _ left c.loop-i.invariant)
    c.in_err-pair.field-0.0 (state_in a c.dict_pair.new.steps) c.from_residual.result c.in_err-pair.ensures stopped

pub dict_pairs-loop-i-init : goal.dict_pairs-loop-i-init
dict_pairs-loop-i-init t c = pairs_begin c.args.levels c.args.place _ (pairs_at c.args.dict.at (seen c.args.arena.now).store) (state_in (seen c.args.arena.now) c.args.steps.now) c.new-pairs.ensures

pub dict_pairs-loop-i-preserved : goal.dict_pairs-loop-i-preserved
dict_pairs-loop-i-preserved t c =
    let a = seen c.args.arena.now in
    let left = drop_get (pairs_at c.args.dict.at a.store) c.loop-i.i _ c.pair_at.ensures.pair in
    rw c.in_ok-push.ensures.ok
    (pairs_next c.args.levels c.args.place _ c.loop-i.pairs _ _ (state_in a c.loop-i.steps) (left_pairs c.args.levels c.args.place _ _ _ _ _ left c.loop-i.invariant)
    c.in_ok-pair.pair (state_in a c.dict_pair.new.steps) c.in_ok-pair.ensures)

pub dict_pairs-returns : goal.dict_pairs-returns
dict_pairs-returns t c =
    let a = seen c.args.arena.now in
    let past : length (pairs_at c.args.dict.at a.store) ≤ c.loop-i.i = omega (arith, c.loop-i-test.false, c.pair_count-i-end.ensures) in
    pairs_done c.args.levels c.args.place _ c.loop-i.pairs (state_in a c.loop-i.steps)
    (left_pairs c.args.levels c.args.place _ _ _ _ _ (drop_of_length-le (pairs_at c.args.dict.at a.store) past) c.loop-i.invariant)

-- ---- the fields of a struct

pub struct_pair-returns-in_err-name : goal.struct_pair-returns-in_err-name
struct_pair-returns-in_err-name t c =
    let a = seen c.args.arena.now in
    let stopped : c.from_residual.result ≡ Err c.in_err-name.field-0.0 = search rules in
    pair_key_stop c.args.levels c.args.place string (field_pair a.held c.args.field.now) c.in_err-name.field-0.0 _ _ c.from_residual.result c.in_err-name.ensures stopped

pub struct_pair-returns-in_err-tree : goal.struct_pair-returns-in_err-tree
struct_pair-returns-in_err-tree t c =
    let a = seen c.args.arena.now in
    let stopped : c.from_residual-in_err-tree.result ≡ Err c.in_err-tree.field-0.0 = search rules in
    pair_tree_stop c.args.levels c.args.place (field_pair a.held c.args.field.now) _ c.in_err-tree.field-0.0 _ _ _ c.from_residual-in_err-tree.result c.in_ok-name.ensures c.in_err-tree.ensures stopped

pub struct_pair-returns : goal.struct_pair-returns
struct_pair-returns t c =
    let a = seen c.args.arena.now in
    pair_done c.args.levels c.args.place (field_pair a.held c.args.field.now) (key.Str c.in_ok-name.name, c.in_ok-tree.tree) _ _ _ c.in_ok-name.ensures c.in_ok-tree.ensures

pub struct_pairs-returns-in_err-pair : goal.struct_pairs-returns-in_err-pair
struct_pairs-returns-in_err-pair t c =
    let a = seen c.args.arena.now in
    let stopped : c.from_residual.result ≡ Err c.in_err-pair.field-0.0 = search rules in
    let left = ap (field_pairs a.held) (dropped c.args.fields.now c.loop-field.field-index c.field-item.result c.loop-field-test.true c.field-item.is) in
    pairs_stop c.args.levels c.args.place _ c.loop-field.pairs _ _ (state_in a c.loop-field.steps) (left_pairs c.args.levels c.args.place _ _ _ _ _ left c.loop-field.invariant)
    c.in_err-pair.field-0.0 (state_in a c.struct_pair.new.steps) c.from_residual.result c.in_err-pair.ensures stopped

pub struct_pairs-loop-field-init : goal.struct_pairs-loop-field-init
struct_pairs-loop-field-init t c = pairs_begin c.args.levels c.args.place _ (field_pairs (seen c.args.arena.now).held c.args.fields.now) (state_in (seen c.args.arena.now) c.args.steps.now) c.new-pairs.ensures

pub struct_pairs-loop-field-preserved : goal.struct_pairs-loop-field-preserved
struct_pairs-loop-field-preserved t c =
    let a = seen c.args.arena.now in
    let left = ap (field_pairs a.held) (dropped c.args.fields.now c.loop-field.field-index c.field-item.result c.loop-field-test.true c.field-item.is) in
    rw c.in_ok-push.ensures.ok
    (pairs_next c.args.levels c.args.place _ c.loop-field.pairs _ _ (state_in a c.loop-field.steps) (left_pairs c.args.levels c.args.place _ _ _ _ _ left c.loop-field.invariant)
    c.in_ok-pair.pair (state_in a c.struct_pair.new.steps) c.in_ok-pair.ensures)

pub struct_pairs-returns : goal.struct_pairs-returns
struct_pairs-returns t c =
    let a = seen c.args.arena.now in
    pairs_done c.args.levels c.args.place _ c.loop-field.pairs (state_in a c.loop-field.steps)
    (left_pairs c.args.levels c.args.place _ _ _ _ _ (ap (field_pairs a.held) (drop_of_length-le c.args.fields.now c.loop-field-test.false)) c.loop-field.invariant)
