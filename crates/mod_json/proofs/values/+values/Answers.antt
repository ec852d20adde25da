use Rattle.std.specs.Int.{w128}
use Rattle.std.proofs.Common.{FitsSigned, get_or, ◌≡◌, ◌≤◌, ◌+◌, [], ◌∷◌, Some, drop, length, string_bytes, Err, ap, sym, ◌∙◌, arith, refl, rules}
use Rattle.std.proofs.Math.ListN.{drop_of_length-le}
use Rattle.std.proofs.lemmas.List.{drop_more}
use Rattle.star_values.specs.declared.value.Value.TheVariants as value
use Rattle.serde_json.specs.View.{view}
use Rattle.star_steps.proofs.Meeting.{meets_same, meets_stop}
use Rattle.star_steps.specs.Meets.{as_is, state_in}
use Rattle.star_values.specs.Objects.{pair_in, seen}
use Rattle.star_values.specs.View.{value_in, value_of, values_of}
use Rattle.module_spec.specs.JsonCodec.{key_data, number_data}
use Rattle.std.proofs.lemmas.Int.{to_z-of_z}
use Rattle.value_spec.specs.Values.{text_value}
use Rattle.value_spec.specs.Store.{pairs_at}
use Rattle.ytt_laws.proofs.Lists.{dropped}
use Rattle.mod_json.proofs.Forms.{dict_form, list_form, struct_form, tuple_form}
use Rattle.mod_json.proofs.InTurn.{drop_get, items_all, items_begin, items_left, items_next, items_stop, meets_then, members_all, members_begin, members_left, members_next, members_stop, data_under, done_under, key_under}
use Rattle.mod_json.specs.View.{field_pair, field_pairs}
use Rattle.mod_json.specs.Walk.{each_item, each_member, entries_seen, key_text, items_seen, value_data, value_item, value_member}
use Rattle.mod_json.proofs.values.+values.Goals as goal

-- ---- values by their form

pub value_json-returns-in-List : goal.value_json-returns-in-List
value_json-returns-in-List t c =
    let a = seen c.args.arena.now in
    let s = state_in a c.args.steps.now in
    meets_same view c.list_json.result (state_in a c.list_json.new.steps) _ _
    (ap (λ v. value_data c.args.levels c.args.place (value_of a v) s) c.in-List.is ∙ list_form c.args.place s c.args.levels c.in-List.list.at _ c.list.ensures.members)
    c.list_json.ensures

pub value_json-returns-in-Tuple : goal.value_json-returns-in-Tuple
value_json-returns-in-Tuple t c =
    let a = seen c.args.arena.now in
    let s = state_in a c.args.steps.now in
    meets_same view c.list_json-in-Tuple.result (state_in a c.list_json-in-Tuple.new.steps) _ _
    (ap (λ v. value_data c.args.levels c.args.place (value_of a v) s) c.in-Tuple.is ∙ tuple_form c.args.place s c.args.levels _ _ c.tuple_members.ensures.members)
    c.list_json-in-Tuple.ensures

pub value_json-returns-in-Dict : goal.value_json-returns-in-Dict
value_json-returns-in-Dict t c =
    let a = seen c.args.arena.now in
    let s = state_in a c.args.steps.now in
    meets_same view c.dict_json.result (state_in a c.dict_json.new.steps) _ _
    (ap (λ v. value_data c.args.levels c.args.place (value_of a v) s) c.in-Dict.is ∙ dict_form c.args.place s c.args.levels c.in-Dict.dict.at)
    c.dict_json.ensures

pub value_json-returns-in-Struct : goal.value_json-returns-in-Struct
value_json-returns-in-Struct t c =
    let a = seen c.args.arena.now in
    let s = state_in a c.args.steps.now in
    meets_same view c.struct_json.result (state_in a c.struct_json.new.steps) _ _
    (ap (λ v. value_data c.args.levels c.args.place (value_of a v) s) c.in-Struct.is ∙ struct_form c.args.place s c.args.levels _ _ c.fields_of.ensures.fields)
    c.struct_json.ensures

-- ---- members

pub value_item-returns-in_err-pay : goal.value_item-returns-in_err-pay
value_item-returns-in_err-pay t c =
    let stopped : c.from_residual.result ≡ Err c.in_err-pay.field-0.0 = search rules in
    meets_stop {A = Unit {0}} as_is view c.in_err-pay.field-0.0 _ _ _ c.from_residual.result c.in_err-pay.ensures stopped

pub value_item-returns : goal.value_item-returns
value_item-returns t c =
    let a = seen c.args.arena.now in
    meets_then view (state_in a c.value_json.new.steps) (state_in a c.pay.new.steps) _ _ _ c.value_json.result c.in_ok-pay.ensures c.value_json.ensures

pub value_items-loop-member-init : goal.value_items-loop-member-init
value_items-loop-member-init t c = items_begin (value_item c.args.place c.args.levels) _ (values_of (seen c.args.arena.now) c.args.members.now) (state_in (seen c.args.arena.now) c.args.steps.now) c.new-items.ensures.items

-- ---- the pairs of a dict

pub dict_member-returns-in_err-key : goal.dict_member-returns-in_err-key
dict_member-returns-in_err-key t c =
    let stopped : c.from_residual.result ≡ Err c.in_err-key.field-0.0 = search rules in
    key_under c.args.place _ _ _ _ (c.text_in.ensures c.args.place) c.in_err-key.field-0.0 _ c.from_residual.result c.in_err-key.ensures stopped

pub dict_member-returns-in_err-json : goal.dict_member-returns-in_err-json
dict_member-returns-in_err-json t c =
    let stopped : c.from_residual-in_err-json.result ≡ Err c.in_err-json.field-0.0 = search rules in
    data_under c.args.place _ _ _ _ (c.text_in.ensures c.args.place) _ c.in_err-json.field-0.0 _ _ c.from_residual-in_err-json.result c.in_ok-key.ensures c.in_err-json.ensures stopped

pub dict_member-returns : goal.dict_member-returns
dict_member-returns t c = done_under c.args.place _ _ _ _ (c.text_in.ensures c.args.place) (c.in_ok-key.key, c.in_ok-json.json) _ _ c.in_ok-key.ensures c.in_ok-json.ensures

pub dict_members-loop-i-init : goal.dict_members-loop-i-init
dict_members-loop-i-init t c = members_begin (value_member c.args.place c.args.levels) _ (pairs_at c.args.dict.at (seen c.args.arena.now).store) (state_in (seen c.args.arena.now) c.args.steps.now) c.new-entries.ensures.items

-- ---- the fields of a struct

pub struct_members-loop-field-init : goal.struct_members-loop-field-init
struct_members-loop-field-init t c = members_begin (value_member c.args.place c.args.levels) _ (field_pairs (seen c.args.arena.now).held c.args.fields.now) (state_in (seen c.args.arena.now) c.args.steps.now) c.new-entries.ensures.items

pub dict_members-returns-in_err-entry : goal.dict_members-returns-in_err-entry
dict_members-returns-in_err-entry t c =
    let a = seen c.args.arena.now in
    let f = value_member c.args.place c.args.levels in
    let s = state_in a c.loop-i.steps in
    let all = each_member f (pairs_at c.args.dict.at a.store) (state_in a c.args.steps.now) in
    let front = c.loop-i.entries.items in
    let rest = drop (c.loop-i.i + 1) (pairs_at c.args.dict.at a.store) in
    let left : drop c.loop-i.i (pairs_at c.args.dict.at a.store) ≡ pair_in a.held c.pair_at.result ∷ rest = drop_get (pairs_at c.args.dict.at a.store) c.loop-i.i _ c.pair_at.ensures.pair in
    let had = members_left f all front (drop c.loop-i.i (pairs_at c.args.dict.at a.store)) (pair_in a.held c.pair_at.result ∷ rest) s left c.loop-i.invariant in
    let stopped : c.from_residual.result ≡ Err c.in_err-entry.field-0.0 = search rules in
    members_stop f all front (pair_in a.held c.pair_at.result) rest s had entries_seen c.in_err-entry.field-0.0 (state_in a c.dict_member.new.steps) c.from_residual.result c.in_err-entry.ensures stopped

pub dict_members-loop-i-preserved : goal.dict_members-loop-i-preserved
dict_members-loop-i-preserved t c =
    let a = seen c.args.arena.now in
    let f = value_member c.args.place c.args.levels in
    let s = state_in a c.loop-i.steps in
    let all = each_member f (pairs_at c.args.dict.at a.store) (state_in a c.args.steps.now) in
    let front = c.loop-i.entries.items in
    let rest = drop (c.loop-i.i + 1) (pairs_at c.args.dict.at a.store) in
    let left : drop c.loop-i.i (pairs_at c.args.dict.at a.store) ≡ pair_in a.held c.pair_at.result ∷ rest = drop_get (pairs_at c.args.dict.at a.store) c.loop-i.i _ c.pair_at.ensures.pair in
    let had = members_left f all front (drop c.loop-i.i (pairs_at c.args.dict.at a.store)) (pair_in a.held c.pair_at.result ∷ rest) s left c.loop-i.invariant in
    rw c.in_ok-push_back.ensures (members_next f all front (pair_in a.held c.pair_at.result) rest s had c.in_ok-entry.entry (state_in a c.dict_member.new.steps) c.in_ok-entry.ensures)

pub dict_members-returns : goal.dict_members-returns
dict_members-returns t c =
    let a = seen c.args.arena.now in
    let f = value_member c.args.place c.args.levels in
    let s = state_in a c.loop-i.steps in
    let all = each_member f (pairs_at c.args.dict.at a.store) (state_in a c.args.steps.now) in
    let front = c.loop-i.entries.items in
    let past : length (pairs_at c.args.dict.at a.store) ≤ c.loop-i.i = omega (arith, c.loop-i-test.false, c.pair_count-i-end.ensures) in
    members_all f all front s (members_left f all front (drop c.loop-i.i (pairs_at c.args.dict.at a.store)) [] s (drop_of_length-le (pairs_at c.args.dict.at a.store) past) c.loop-i.invariant)

pub struct_members-returns-in_err-entry : goal.struct_members-returns-in_err-entry
struct_members-returns-in_err-entry t c =
    let a = seen c.args.arena.now in
    let f = value_member c.args.place c.args.levels in
    let s = state_in a c.loop-field.steps in
    let all = each_member f (field_pairs a.held c.args.fields.now) (state_in a c.args.steps.now) in
    let front = c.loop-field.entries.items in
    let rest = field_pairs a.held (drop (c.loop-field.field-index + 1) c.args.fields.now) in
    let left : field_pairs a.held (drop c.loop-field.field-index c.args.fields.now) ≡ field_pair a.held c.field-item.result ∷ rest = ap (field_pairs a.held) (dropped c.args.fields.now c.loop-field.field-index c.field-item.result c.loop-field-test.true c.field-item.is) in
    let had = members_left f all front (field_pairs a.held (drop c.loop-field.field-index c.args.fields.now)) (field_pair a.held c.field-item.result ∷ rest) s left c.loop-field.invariant in
    let stopped : c.from_residual.result ≡ Err c.in_err-entry.field-0.0 = search rules in
    members_stop f all front (field_pair a.held c.field-item.result) rest s had entries_seen c.in_err-entry.field-0.0 (state_in a c.struct_member.new.steps) c.from_residual.result c.in_err-entry.ensures stopped

pub struct_members-loop-field-preserved : goal.struct_members-loop-field-preserved
struct_members-loop-field-preserved t c =
    let a = seen c.args.arena.now in
    let f = value_member c.args.place c.args.levels in
    let s = state_in a c.loop-field.steps in
    let all = each_member f (field_pairs a.held c.args.fields.now) (state_in a c.args.steps.now) in
    let front = c.loop-field.entries.items in
    let rest = field_pairs a.held (drop (c.loop-field.field-index + 1) c.args.fields.now) in
    let left : field_pairs a.held (drop c.loop-field.field-index c.args.fields.now) ≡ field_pair a.held c.field-item.result ∷ rest = ap (field_pairs a.held) (dropped c.args.fields.now c.loop-field.field-index c.field-item.result c.loop-field-test.true c.field-item.is) in
    let had = members_left f all front (field_pairs a.held (drop c.loop-field.field-index c.args.fields.now)) (field_pair a.held c.field-item.result ∷ rest) s left c.loop-field.invariant in
    rw c.in_ok-push_back.ensures (members_next f all front (field_pair a.held c.field-item.result) rest s had c.in_ok-entry.entry (state_in a c.struct_member.new.steps) c.in_ok-entry.ensures)

pub struct_members-returns : goal.struct_members-returns
struct_members-returns t c =
    let a = seen c.args.arena.now in
    let f = value_member c.args.place c.args.levels in
    let s = state_in a c.loop-field.steps in
    let all = each_member f (field_pairs a.held c.args.fields.now) (state_in a c.args.steps.now) in
    let front = c.loop-field.entries.items in
    members_all f all front s (members_left f all front (field_pairs a.held (drop c.loop-field.field-index c.args.fields.now)) [] s (ap (field_pairs a.held) (drop_of_length-le c.args.fields.now c.loop-field-test.false)) c.loop-field.invariant)

pub struct_member-returns-in_err-key : goal.struct_member-returns-in_err-key
struct_member-returns-in_err-key t c =
    let a = seen c.args.arena.now in
    let p = c.args.place in
    let s = state_in a c.args.steps.now in
    let stopped : c.from_residual.result ≡ Err c.in_err-key.field-0.0 = search rules in
    key_under p (key_text p (Some c.args.field.now.name)) (key_data p (text_value c.args.field.now.name)) (value_data c.args.levels p (value_in a.held c.args.field.now.value)) s refl c.in_err-key.field-0.0 (state_in a c.paid_key.new.steps) c.from_residual.result c.in_err-key.ensures stopped

pub struct_member-returns-in_err-json : goal.struct_member-returns-in_err-json
struct_member-returns-in_err-json t c =
    let a = seen c.args.arena.now in
    let p = c.args.place in
    let s = state_in a c.args.steps.now in
    let stopped : c.from_residual-in_err-json.result ≡ Err c.in_err-json.field-0.0 = search rules in
    data_under p (key_text p (Some c.args.field.now.name)) (key_data p (text_value c.args.field.now.name)) (value_data c.args.levels p (value_in a.held c.args.field.now.value)) s refl (string_bytes c.in_ok-key.key) c.in_err-json.field-0.0 (state_in a c.paid_key.new.steps) (state_in a c.value_json.new.steps) c.from_residual-in_err-json.result c.in_ok-key.ensures c.in_err-json.ensures stopped

pub struct_member-returns : goal.struct_member-returns
struct_member-returns t c =
    let a = seen c.args.arena.now in
    let p = c.args.place in
    let s = state_in a c.args.steps.now in
    done_under p (key_text p (Some c.args.field.now.name)) (key_data p (text_value c.args.field.now.name)) (value_data c.args.levels p (value_in a.held c.args.field.now.value)) s refl (c.in_ok-key.key, c.in_ok-json.json) (state_in a c.paid_key.new.steps) (state_in a c.value_json.new.steps) c.in_ok-key.ensures c.in_ok-json.ensures

pub value_json-returns-in-Int : goal.value_json-returns-in-Int
value_json-returns-in-Int t c =
    let a = seen c.args.arena.now in
    let s = state_in a c.args.steps.now in
    let fits : FitsSigned w128 c.in-Int.n = search rules in
    meets_same view c.number_json.result s _ _
    (ap (λ v. value_data c.args.levels c.args.place (value_of a v) s) c.in-Int.is ∙ ap (λ z. number_data c.args.place z s) (sym (to_z-of_z w128 c.in-Int.n fits)))
    (c.number_json.ensures s)

pub value_items-returns-in_err-item : goal.value_items-returns-in_err-item
value_items-returns-in_err-item t c =
    let a = seen c.args.arena.now in
    let f = value_item c.args.place c.args.levels in
    let s = state_in a c.loop-member.steps in
    let all = each_item f (values_of a c.args.members.now) (state_in a c.args.steps.now) in
    let front = c.loop-member.items.items in
    let i = c.loop-member.member-index in
    let x = value_of a (get_or c.args.members.now i value.None) in
    let rest = values_of a (drop (i + 1) c.args.members.now) in
    let left : values_of a (drop i c.args.members.now) ≡ x ∷ rest = ap (values_of a) (drop_more c.args.members.now i value.None c.loop-member-test.true) in
    let had = items_left f all front (values_of a (drop i c.args.members.now)) (x ∷ rest) s left c.loop-member.invariant in
    let stopped : c.from_residual.result ≡ Err c.in_err-item.field-0.0 = search rules in
    items_stop f all front x rest s had items_seen c.in_err-item.field-0.0 (state_in a c.value_item.new.steps) c.from_residual.result c.in_err-item.ensures stopped

pub value_items-loop-member-preserved : goal.value_items-loop-member-preserved
value_items-loop-member-preserved t c =
    let a = seen c.args.arena.now in
    let f = value_item c.args.place c.args.levels in
    let s = state_in a c.loop-member.steps in
    let all = each_item f (values_of a c.args.members.now) (state_in a c.args.steps.now) in
    let front = c.loop-member.items.items in
    let i = c.loop-member.member-index in
    let x = value_of a (get_or c.args.members.now i value.None) in
    let rest = values_of a (drop (i + 1) c.args.members.now) in
    let left : values_of a (drop i c.args.members.now) ≡ x ∷ rest = ap (values_of a) (drop_more c.args.members.now i value.None c.loop-member-test.true) in
    let had = items_left f all front (values_of a (drop i c.args.members.now)) (x ∷ rest) s left c.loop-member.invariant in
    rw c.in_ok-push_back.ensures (items_next f all front x rest s had c.in_ok-item.item (state_in a c.value_item.new.steps) c.in_ok-item.ensures)

pub value_items-returns : goal.value_items-returns
value_items-returns t c =
    let a = seen c.args.arena.now in
    let f = value_item c.args.place c.args.levels in
    let s = state_in a c.loop-member.steps in
    let all = each_item f (values_of a c.args.members.now) (state_in a c.args.steps.now) in
    let front = c.loop-member.items.items in
    items_all f all front s (items_left f all front (values_of a (drop c.loop-member.member-index c.args.members.now)) [] s (ap (values_of a) (drop_of_length-le c.args.members.now c.loop-member-test.false)) c.loop-member.invariant)
