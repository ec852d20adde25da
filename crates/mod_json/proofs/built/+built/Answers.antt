use Rattle.std.proofs.Common.{◌≡◌, ◌+◌, [], ◌∷◌, drop, Err, ap, ◌∙◌, rules}
use Rattle.std.proofs.Math.ListN.{drop_of_length-le}
use Rattle.serde_json.specs.View.{view}
use Rattle.star_steps.proofs.Meeting.{meets_same, meets_stop}
use Rattle.star_steps.specs.Meets.{as_is, state_in}
use Rattle.star_values.specs.Objects.{seen}
use Rattle.star_values.specs.View.{body_in}
use Rattle.ytt_laws.proofs.Lists.{dropped}
use Rattle.mod_json.proofs.Forms.{body_list_form, body_map_form, body_of_list, body_of_map}
use Rattle.mod_json.proofs.InTurn.{items_all, items_begin, items_left, items_next, items_stop, meets_then, members_all, members_begin, members_left, members_next, members_stop, data_under, done_under, key_under}
use Rattle.mod_json.specs.Walk.{each_item, each_member, entries_seen, items_seen, built_item, built_member}
use Rattle.mod_json.proofs.built.+built.Goals as goal

-- ---- by the form

pub body_json-returns-in-Map : goal.body_json-returns-in-Map
body_json-returns-in-Map t c =
    let a = seen c.args.arena.now in
    let s = state_in a c.args.steps.now in
    meets_same view c.map_json.result (state_in a c.map_json.new.steps) _ _
    (body_map_form a.held c.args.place s c.args.levels _ c.in-Map.items (ap (body_in a.held) c.in-Map.is ∙ body_of_map a.held c.in-Map.items))
    (rw c.as_slice.ensures at c.map_json.ensures)

pub body_json-returns-in-List : goal.body_json-returns-in-List
body_json-returns-in-List t c =
    let a = seen c.args.arena.now in
    let s = state_in a c.args.steps.now in
    meets_same view c.list_json.result (state_in a c.list_json.new.steps) _ _
    (body_list_form a.held c.args.place s c.args.levels _ c.in-List.items (ap (body_in a.held) c.in-List.is ∙ body_of_list a.held c.in-List.items))
    (rw c.as_slice-in-List.ensures at c.list_json.ensures)

-- ---- members

pub built_item-returns-in_err-pay : goal.built_item-returns-in_err-pay
built_item-returns-in_err-pay t c =
    let stopped : c.from_residual.result ≡ Err c.in_err-pay.field-0.0 = search rules in
    meets_stop {A = Unit {0}} as_is view c.in_err-pay.field-0.0 _ _ _ c.from_residual.result c.in_err-pay.ensures stopped

pub built_item-returns : goal.built_item-returns
built_item-returns t c =
    let a = seen c.args.arena.now in
    meets_then view (state_in a c.body_json.new.steps) (state_in a c.pay.new.steps) _ _ _ c.body_json.result c.in_ok-pay.ensures c.body_json.ensures

pub built_items-loop-item-init : goal.built_items-loop-item-init
built_items-loop-item-init t c =
    let a = seen c.args.arena.now in
    items_begin (built_item (seen c.args.arena.now).held c.args.place c.args.levels) _ c.args.items.now (state_in a c.args.steps.now) c.new-all.ensures.items

-- ---- pairs

pub built_members-loop-item-init : goal.built_members-loop-item-init
built_members-loop-item-init t c =
    let a = seen c.args.arena.now in
    members_begin (built_member (seen c.args.arena.now).held c.args.place c.args.levels) _ c.args.items.now (state_in a c.args.steps.now) c.new-entries.ensures.items

pub built_member-returns-in_err-key : goal.built_member-returns-in_err-key
built_member-returns-in_err-key t c =
    let stopped : c.from_residual.result ≡ Err c.in_err-key.field-0.0 = search rules in
    key_under c.args.place _ _ _ _ (c.key_text.ensures c.args.place) c.in_err-key.field-0.0 _ c.from_residual.result c.in_err-key.ensures stopped

pub built_member-returns-in_err-json : goal.built_member-returns-in_err-json
built_member-returns-in_err-json t c =
    let stopped : c.from_residual-in_err-json.result ≡ Err c.in_err-json.field-0.0 = search rules in
    data_under c.args.place _ _ _ _ (c.key_text.ensures c.args.place) _ c.in_err-json.field-0.0 _ _ c.from_residual-in_err-json.result c.in_ok-key.ensures c.in_err-json.ensures stopped

pub built_member-returns : goal.built_member-returns
built_member-returns t c = done_under c.args.place _ _ _ _ (c.key_text.ensures c.args.place) (c.in_ok-key.key, c.in_ok-json.json) _ _ c.in_ok-key.ensures c.in_ok-json.ensures

pub built_items-returns-in_err-json : goal.built_items-returns-in_err-json
built_items-returns-in_err-json t c =
    let a = seen c.args.arena.now in
    let f = built_item a.held c.args.place c.args.levels in
    let s = state_in a c.loop-item.steps in
    let all = each_item f (c.args.items.now) (state_in a c.args.steps.now) in
    let front = c.loop-item.all.items in
    let rest = drop (c.loop-item.item-index + 1) c.args.items.now in
    let left : drop c.loop-item.item-index c.args.items.now ≡ c.item-item.result ∷ rest = dropped c.args.items.now c.loop-item.item-index c.item-item.result c.loop-item-test.true c.item-item.is in
    let had = items_left f all front (drop c.loop-item.item-index c.args.items.now) (c.item-item.result ∷ rest) s left c.loop-item.invariant in
    let stopped : c.from_residual.result ≡ Err c.in_err-json.field-0.0 = search rules in
    items_stop f all front (c.item-item.result) rest s had items_seen c.in_err-json.field-0.0 (state_in a c.built_item.new.steps) c.from_residual.result c.in_err-json.ensures stopped

pub built_items-loop-item-preserved : goal.built_items-loop-item-preserved
built_items-loop-item-preserved t c =
    let a = seen c.args.arena.now in
    let f = built_item a.held c.args.place c.args.levels in
    let s = state_in a c.loop-item.steps in
    let all = each_item f (c.args.items.now) (state_in a c.args.steps.now) in
    let front = c.loop-item.all.items in
    let rest = drop (c.loop-item.item-index + 1) c.args.items.now in
    let left : drop c.loop-item.item-index c.args.items.now ≡ c.item-item.result ∷ rest = dropped c.args.items.now c.loop-item.item-index c.item-item.result c.loop-item-test.true c.item-item.is in
    let had = items_left f all front (drop c.loop-item.item-index c.args.items.now) (c.item-item.result ∷ rest) s left c.loop-item.invariant in
    rw c.in_ok-push_back.ensures (items_next f all front (c.item-item.result) rest s had c.in_ok-json.json (state_in a c.built_item.new.steps) c.in_ok-json.ensures)

pub built_items-returns : goal.built_items-returns
built_items-returns t c =
    let a = seen c.args.arena.now in
    let f = built_item a.held c.args.place c.args.levels in
    let s = state_in a c.loop-item.steps in
    let all = each_item f (c.args.items.now) (state_in a c.args.steps.now) in
    let front = c.loop-item.all.items in
    items_all f all front s (items_left f all front (drop c.loop-item.item-index c.args.items.now) [] s (drop_of_length-le c.args.items.now c.loop-item-test.false) c.loop-item.invariant)

pub built_members-returns-in_err-entry : goal.built_members-returns-in_err-entry
built_members-returns-in_err-entry t c =
    let a = seen c.args.arena.now in
    let f = built_member a.held c.args.place c.args.levels in
    let s = state_in a c.loop-item.steps in
    let all = each_member f (c.args.items.now) (state_in a c.args.steps.now) in
    let front = c.loop-item.entries.items in
    let rest = drop (c.loop-item.item-index + 1) c.args.items.now in
    let left : drop c.loop-item.item-index c.args.items.now ≡ c.item-item.result ∷ rest = dropped c.args.items.now c.loop-item.item-index c.item-item.result c.loop-item-test.true c.item-item.is in
    let had = members_left f all front (drop c.loop-item.item-index c.args.items.now) (c.item-item.result ∷ rest) s left c.loop-item.invariant in
    let stopped : c.from_residual.result ≡ Err c.in_err-entry.field-0.0 = search rules in
    members_stop f all front (c.item-item.result) rest s had entries_seen c.in_err-entry.field-0.0 (state_in a c.built_member.new.steps) c.from_residual.result c.in_err-entry.ensures stopped

pub built_members-loop-item-preserved : goal.built_members-loop-item-preserved
built_members-loop-item-preserved t c =
    let a = seen c.args.arena.now in
    let f = built_member a.held c.args.place c.args.levels in
    let s = state_in a c.loop-item.steps in
    let all = each_member f (c.args.items.now) (state_in a c.args.steps.now) in
    let front = c.loop-item.entries.items in
    let rest = drop (c.loop-item.item-index + 1) c.args.items.now in
    let left : drop c.loop-item.item-index c.args.items.now ≡ c.item-item.result ∷ rest = dropped c.args.items.now c.loop-item.item-index c.item-item.result c.loop-item-test.true c.item-item.is in
    let had = members_left f all front (drop c.loop-item.item-index c.args.items.now) (c.item-item.result ∷ rest) s left c.loop-item.invariant in
    rw c.in_ok-push_back.ensures (members_next f all front (c.item-item.result) rest s had c.in_ok-entry.entry (state_in a c.built_member.new.steps) c.in_ok-entry.ensures)

pub built_members-returns : goal.built_members-returns
built_members-returns t c =
    let a = seen c.args.arena.now in
    let f = built_member a.held c.args.place c.args.levels in
    let s = state_in a c.loop-item.steps in
    let all = each_member f (c.args.items.now) (state_in a c.args.steps.now) in
    let front = c.loop-item.entries.items in
    members_all f all front s (members_left f all front (drop c.loop-item.item-index c.args.items.now) [] s (drop_of_length-le c.args.items.now c.loop-item-test.false) c.loop-item.invariant)
