use Rattle.std.specs.Int.{w128}
use Rattle.std.proofs.Common.{FitsSigned, ◌≡◌, ◌+◌, [], ◌∷◌, drop, Err, ap, sym, ◌∙◌, rules}
use Rattle.std.proofs.Math.ListN.{drop_of_length-le}
use Rattle.serde_json.specs.View.{view}
use Rattle.star_steps.proofs.Meeting.{meets_same, meets_stop}
use Rattle.star_steps.specs.Meets.{as_is, state_in}
use Rattle.star_values.specs.Objects.{seen}
use Rattle.ytt_base.proofs.Views.{tree_of-Int, tree_of-List, tree_of-Map}
use Rattle.module_spec.specs.JsonCodec.{number_data, tree_data}
use Rattle.std.proofs.lemmas.Int.{to_z-of_z}
use Rattle.ytt_base.specs.View.{tree_of}
use Rattle.ytt_laws.proofs.Lists.{dropped}
use Rattle.mod_json.proofs.Forms.{tree_list_form, tree_map_form}
use Rattle.mod_json.proofs.InTurn.{items_all, items_begin, items_left, items_next, items_stop, meets_then, members_all, members_begin, members_left, members_next, members_stop, data_under, done_under, key_under}
use Rattle.mod_json.specs.Walk.{each_member, entries_seen, items_seen, tree_item, tree_member}
use Rattle.mod_json.proofs.trees.+trees.Goals as goal

-- ---- by the form

pub tree_json-returns-in-List : goal.tree_json-returns-in-List
tree_json-returns-in-List t c =
    let a = seen c.args.arena.now in
    let s = state_in a c.args.steps.now in
    meets_same view c.list_json.result (state_in a c.list_json.new.steps) _ _
    (tree_list_form c.args.place s c.args.levels _ c.in-List.trees (ap tree_of c.in-List.is ∙ tree_of-List c.in-List.trees))
    (rw c.as_slice.ensures at c.list_json.ensures)

pub tree_json-returns-in-Map : goal.tree_json-returns-in-Map
tree_json-returns-in-Map t c =
    let a = seen c.args.arena.now in
    let s = state_in a c.args.steps.now in
    meets_same view c.map_json.result (state_in a c.map_json.new.steps) _ _
    (tree_map_form c.args.place s c.args.levels _ c.in-Map.pairs (ap tree_of c.in-Map.is ∙ tree_of-Map c.in-Map.pairs))
    (rw c.as_slice-in-Map.ensures at c.map_json.ensures)

-- ---- members

pub tree_item-returns-in_err-pay : goal.tree_item-returns-in_err-pay
tree_item-returns-in_err-pay t c =
    let stopped : c.from_residual.result ≡ Err c.in_err-pay.field-0.0 = search rules in
    meets_stop {A = Unit {0}} as_is view c.in_err-pay.field-0.0 _ _ _ c.from_residual.result c.in_err-pay.ensures stopped

pub tree_item-returns : goal.tree_item-returns
tree_item-returns t c =
    let a = seen c.args.arena.now in
    meets_then view (state_in a c.tree_json.new.steps) (state_in a c.pay.new.steps) _ _ _ c.tree_json.result c.in_ok-pay.ensures c.tree_json.ensures

pub tree_items-loop-tree-init : goal.tree_items-loop-tree-init
tree_items-loop-tree-init t c =
    let a = seen c.args.arena.now in
    items_begin (tree_item c.args.place c.args.levels) _ c.args.trees.now (state_in a c.args.steps.now) c.new-items.ensures.items

pub tree_items-loop-tree-preserved : goal.tree_items-loop-tree-preserved
tree_items-loop-tree-preserved t c =
    let a = seen c.args.arena.now in
    let left = dropped c.args.trees.now c.loop-tree.tree-index c.tree-item.result c.loop-tree-test.true c.tree-item.is in
    rw c.in_ok-push_back.ensures
    (items_next (tree_item c.args.place c.args.levels) _ c.loop-tree.items.items _ _ (state_in a c.loop-tree.steps) (items_left (tree_item c.args.place c.args.levels) _ _ _ _ _ left c.loop-tree.invariant)
    c.in_ok-item.item (state_in a c.tree_item.new.steps) c.in_ok-item.ensures)

pub tree_items-returns-in_err-item : goal.tree_items-returns-in_err-item
tree_items-returns-in_err-item t c =
    let a = seen c.args.arena.now in
    let stopped : c.from_residual.result ≡ Err c.in_err-item.field-0.0 = search rules in
    let left = dropped c.args.trees.now c.loop-tree.tree-index c.tree-item.result c.loop-tree-test.true c.tree-item.is in
    items_stop (tree_item c.args.place c.args.levels) _ c.loop-tree.items.items _ _ (state_in a c.loop-tree.steps) (items_left (tree_item c.args.place c.args.levels) _ _ _ _ _ left c.loop-tree.invariant)
    items_seen c.in_err-item.field-0.0 (state_in a c.tree_item.new.steps) c.from_residual.result c.in_err-item.ensures stopped

pub tree_items-returns : goal.tree_items-returns
tree_items-returns t c =
    let a = seen c.args.arena.now in
    items_all (tree_item c.args.place c.args.levels) _ c.loop-tree.items.items (state_in a c.loop-tree.steps)
    (items_left (tree_item c.args.place c.args.levels) _ _ _ _ _ (drop_of_length-le c.args.trees.now c.loop-tree-test.false) c.loop-tree.invariant)

-- ---- pairs

pub tree_member-returns-in_err-key : goal.tree_member-returns-in_err-key
tree_member-returns-in_err-key t c =
    let stopped : c.from_residual.result ≡ Err c.in_err-key.field-0.0 = search rules in
    key_under c.args.place _ _ _ _ (c.text_in.ensures c.args.place) c.in_err-key.field-0.0 _ c.from_residual.result c.in_err-key.ensures stopped

pub tree_member-returns-in_err-json : goal.tree_member-returns-in_err-json
tree_member-returns-in_err-json t c =
    let stopped : c.from_residual-in_err-json.result ≡ Err c.in_err-json.field-0.0 = search rules in
    data_under c.args.place _ _ _ _ (c.text_in.ensures c.args.place) _ c.in_err-json.field-0.0 _ _ c.from_residual-in_err-json.result c.in_ok-key.ensures c.in_err-json.ensures stopped

pub tree_member-returns : goal.tree_member-returns
tree_member-returns t c = done_under c.args.place _ _ _ _ (c.text_in.ensures c.args.place) (c.in_ok-key.key, c.in_ok-json.json) _ _ c.in_ok-key.ensures c.in_ok-json.ensures

pub tree_members-loop-key-init : goal.tree_members-loop-key-init
tree_members-loop-key-init t c =
    let a = seen c.args.arena.now in
    members_begin (tree_member c.args.place c.args.levels) _ c.args.pairs.now (state_in a c.args.steps.now) c.new-entries.ensures.items

pub tree_json-returns-in-Int : goal.tree_json-returns-in-Int
tree_json-returns-in-Int t c =
    let s = state_in (seen c.args.arena.now) c.args.steps.now in
    let fits : FitsSigned w128 c.in-Int.n = search rules in
    meets_same view c.number_json.result s _ _
    (ap (λ t. tree_data c.args.place c.args.levels t s) (ap tree_of c.in-Int.is ∙ tree_of-Int c.in-Int.n) ∙ ap (λ z. number_data c.args.place z s) (sym (to_z-of_z w128 c.in-Int.n fits)))
    (c.number_json.ensures s)

pub tree_members-returns-in_err-entry : goal.tree_members-returns-in_err-entry
tree_members-returns-in_err-entry t c =
    let a = seen c.args.arena.now in
    let f = tree_member c.args.place c.args.levels in
    let s = state_in a c.loop-key.steps in
    let all = each_member f (c.args.pairs.now) (state_in a c.args.steps.now) in
    let front = c.loop-key.entries.items in
    let rest = drop (c.loop-key.key-index + 1) c.args.pairs.now in
    let left : drop c.loop-key.key-index c.args.pairs.now ≡ c.loop-key-item.result ∷ rest = dropped c.args.pairs.now c.loop-key.key-index c.loop-key-item.result c.loop-key-test.true c.loop-key-item.is in
    let had = members_left f all front (drop c.loop-key.key-index c.args.pairs.now) (c.loop-key-item.result ∷ rest) s left c.loop-key.invariant in
    let stopped : c.from_residual.result ≡ Err c.in_err-entry.field-0.0 = search rules in
    members_stop f all front (c.loop-key-item.result) rest s had entries_seen c.in_err-entry.field-0.0 (state_in a c.tree_member.new.steps) c.from_residual.result c.in_err-entry.ensures stopped

pub tree_members-loop-key-preserved : goal.tree_members-loop-key-preserved
tree_members-loop-key-preserved t c =
    let a = seen c.args.arena.now in
    let f = tree_member c.args.place c.args.levels in
    let s = state_in a c.loop-key.steps in
    let all = each_member f (c.args.pairs.now) (state_in a c.args.steps.now) in
    let front = c.loop-key.entries.items in
    let rest = drop (c.loop-key.key-index + 1) c.args.pairs.now in
    let left : drop c.loop-key.key-index c.args.pairs.now ≡ c.loop-key-item.result ∷ rest = dropped c.args.pairs.now c.loop-key.key-index c.loop-key-item.result c.loop-key-test.true c.loop-key-item.is in
    let had = members_left f all front (drop c.loop-key.key-index c.args.pairs.now) (c.loop-key-item.result ∷ rest) s left c.loop-key.invariant in
    rw c.in_ok-push_back.ensures (members_next f all front (c.loop-key-item.result) rest s had c.in_ok-entry.entry (state_in a c.tree_member.new.steps) c.in_ok-entry.ensures)

pub tree_members-returns : goal.tree_members-returns
tree_members-returns t c =
    let a = seen c.args.arena.now in
    let f = tree_member c.args.place c.args.levels in
    let s = state_in a c.loop-key.steps in
    let all = each_member f (c.args.pairs.now) (state_in a c.args.steps.now) in
    let front = c.loop-key.entries.items in
    members_all f all front s (members_left f all front (drop c.loop-key.key-index c.args.pairs.now) [] s (drop_of_length-le c.args.pairs.now c.loop-key-test.false) c.loop-key.invariant)
