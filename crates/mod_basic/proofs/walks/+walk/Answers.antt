use Rattle.std.proofs.Common.{ap, arith, refl, rules, sym, ◌∙◌}
use Rattle.std.proofs.Math.ListN.{drop_of_length-le}
use Rattle.star_steps.proofs.Names.{some_same}
use Rattle.star_steps.specs.Meets.{as_is, state_in}
use Rattle.star_steps.specs.declared.steps.Depth.{Depth}
use Rattle.star_values.proofs.Growing.{grows_same, grows_then}
use Rattle.star_values.specs.Objects.{seen}
use Rattle.star_values.specs.Owns.{Owns, OwnsPair}
use Rattle.star_values.specs.View.{value_of, values_of}
use Rattle.star_values.specs.declared.value.Value.TheVariants as value
use Rattle.value_spec.specs.Outcomes.{new_dict, new_list, then_do}
use Rattle.mod_basic.specs.Walks.{converted, fields_from, member_converted, members_within, pair_converted, pairs_of, pairs_within}
use Rattle.mod_basic.proofs.Forms.{as_struct, as_tuple, dict_form, list_form, member_form, next_level, struct_form, tuple_form}
use Rattle.mod_basic.proofs.Walking.{dict_given, dict_kept, gives_after, gives_err, gives_memory, keeps_pair, keeps_value, list_given, name_err, pair_given, pair_of, plain_kept, seen_same, struct_given, struct_kept, text_err, text_stays, tuple_given, turn_done, turn_owned, turn_stopped, turns_begin, turns_end, value_err}
use Rattle.mod_basic.specs.declared.walks.Way.TheVariants as way
use Rattle.mod_basic.proofs.walks.+walk.Goals as goal
use Rattle.mod_basic.proofs.walks.+walk.Goals.{converted-in_default-via-in-Dict+in_default, converted-in_default-via-in-Struct+in_default, converted-in_default-via-in_default}

-- ---- members

pub members_done-loop-member-init : goal.members_done-loop-member-init
members_done-loop-member-init t c = turns_begin value_of Owns _ _ _ _ _ c.new-values.ensures

pub members_done-member_done-requires : goal.members_done-member_done-requires
members_done-member_done-requires t c =
    let less = ap (λ (d : Depth). d.levels) c.one_in-inside.ensures in
    (omega (arith, less, c.if-at-eq0.false, c.decreases), turn_owned value_of Owns keeps_value _ _ _ _ _ value.None _ _ _ c.loop-member-test.true c.requires c.loop-member.invariant)

pub members_done-loop-member-preserved : goal.members_done-loop-member-preserved
members_done-loop-member-preserved t c =
    turn_done value_of Owns keeps_value _ _ _ _ _ value.None _ _ _ c.loop-member-test.true c.requires c.loop-member.invariant _ _ _ _ c.in_ok-push.ensures
    c.in_ok-value.ensures.meaning c.in_ok-value.ensures.owns c.in_ok-value.ensures.grows

-- ---- pairs

pub pairs_done-loop-pair-init : goal.pairs_done-loop-pair-init
pairs_done-loop-pair-init t c = turns_begin pair_of OwnsPair _ _ _ _ _ c.new-done.ensures

pub pairs_done-pair_done-requires : goal.pairs_done-pair_done-requires
pairs_done-pair_done-requires t c =
    let less = ap (λ (d : Depth). d.levels) c.one_in-inside.ensures in
    (omega (arith, less, c.if-at-eq0.false, c.decreases), turn_owned pair_of OwnsPair keeps_pair _ _ _ _ _ (value.None, value.None) _ _ _ c.loop-pair-test.true c.requires c.loop-pair.invariant)

pub pairs_done-loop-pair-preserved : goal.pairs_done-loop-pair-preserved
pairs_done-loop-pair-preserved t c =
    turn_done pair_of OwnsPair keeps_pair _ _ _ _ _ (value.None, value.None) _ _ _ c.loop-pair-test.true c.requires c.loop-pair.invariant _ _ _ _ c.in_ok-push.ensures
    c.in_ok-pair.ensures.meaning c.in_ok-pair.ensures.owns c.in_ok-pair.ensures.grows

pub members_done-returns-in_err-value : goal.members_done-returns-in_err-value
members_done-returns-in_err-value t c =
    let was = seen c.args.arena.now in
    let form = next_level (member_converted c.args.way) c.args.at c.one_in-inside.result (values_of was c.args.members.now) (state_in was c.args.steps.now) (omega (arith, c.if-at-eq0.false)) c.one_in-inside.ensures in
    seen_same form
    (turn_stopped value_of Owns keeps_value _ _ _ _ _ value.None _ _ _ c.loop-member-test.true c.requires c.loop-member.invariant (value_of (seen c.member_done.new.arena)) c.in_err-value.field-0.0 _ _ _
    c.in_err-value.ensures.meaning (search rules) c.in_err-value.ensures.grows)

pub members_done-returns : goal.members_done-returns
members_done-returns t c =
    let was = seen c.args.arena.now in
    let form = next_level (member_converted c.args.way) c.args.at c.one_in-inside.result (values_of was c.args.members.now) (state_in was c.args.steps.now) (omega (arith, c.if-at-eq0.false)) c.one_in-inside.ensures in
    seen_same form
    (turns_end value_of Owns _ _ _ _ _ _ _ (ap (values_of was) (drop_of_length-le c.args.members.now c.loop-member-test.false)) c.loop-member.invariant)

pub pairs_done-returns-in_err-pair : goal.pairs_done-returns-in_err-pair
pairs_done-returns-in_err-pair t c =
    let was = seen c.args.arena.now in
    let form = next_level (pair_converted c.args.way) c.args.at c.one_in-inside.result (pairs_of was c.args.pairs.now) (state_in was c.args.steps.now) (omega (arith, c.if-at-eq0.false)) c.one_in-inside.ensures in
    seen_same form
    (turn_stopped pair_of OwnsPair keeps_pair _ _ _ _ _ (value.None, value.None) _ _ _ c.loop-pair-test.true c.requires c.loop-pair.invariant (pair_of (seen c.pair_done.new.arena)) c.in_err-pair.field-0.0 _ _ _
    c.in_err-pair.ensures.meaning (search rules) c.in_err-pair.ensures.grows)

pub pairs_done-returns : goal.pairs_done-returns
pairs_done-returns t c =
    let was = seen c.args.arena.now in
    let form = next_level (pair_converted c.args.way) c.args.at c.one_in-inside.result (pairs_of was c.args.pairs.now) (state_in was c.args.steps.now) (omega (arith, c.if-at-eq0.false)) c.one_in-inside.ensures in
    seen_same form
    (turns_end pair_of OwnsPair _ _ _ _ _ _ _ (ap (pairs_of was) (drop_of_length-le c.args.pairs.now c.loop-pair-test.false)) c.loop-pair.invariant)

-- ---- a member, and a pair

pub member_done-returns-in_err-pay : goal.member_done-returns-in_err-pay
member_done-returns-in_err-pay t c =
    let a = seen c.args.arena.now in
    let at = c.args.at in
    gives_err as_is c.in_err-pay.field-0.0 a a c.pay.new.steps _ (λ u. converted c.args.way at.levels at.place (value_of a c.args.value)) _ _
    (member_form c.args.way at.levels at.place (value_of a c.args.value) (state_in a c.args.steps.now)) c.in_err-pay.ensures (search rules) (grows_same a)

pub member_done-returns : goal.member_done-returns
member_done-returns t c =
    let a = seen c.args.arena.now in
    let at = c.args.at in
    gives_after _ _ tt (λ u. converted c.args.way at.levels at.place (value_of a c.args.value)) _ a a _ c.pay.new.steps _
    (member_form c.args.way at.levels at.place (value_of a c.args.value) (state_in a c.args.steps.now)) c.in_ok-pay.ensures (grows_same a) c.converted.ensures

pub pair_done-returns-in_err-pay_name : goal.pair_done-returns-in_err-pay_name
pair_done-returns-in_err-pay_name t c =
    let a = seen c.args.arena.now in
    name_err c.args.way c.args.at.levels c.args.at.place c.args.pair a a c.args.steps.now c.pay_name.new.steps c.pay_name.new.steps c.in_err-pay_name.field-0.0 _ c.in_err-pay_name.ensures.meaning (search rules)

pub pair_done-returns-in_err-value : goal.pair_done-returns-in_err-value
pair_done-returns-in_err-value t c =
    let a = seen c.args.arena.now in
    value_err c.args.way c.args.at.levels c.args.at.place c.args.pair a (seen c.converted.new.arena) c.args.steps.now c.pay_name.new.steps c.converted.new.steps c.in_ok-pay_name.ensures.meaning
    c.in_err-value.field-0.0 _ c.in_err-value.ensures (search rules)

pub pair_done-returns : goal.pair_done-returns
pair_done-returns t c =
    let a = seen c.args.arena.now in
    pair_given c.args.way c.args.at.levels c.args.at.place c.args.pair a (seen c.converted.new.arena) c.args.steps.now c.pay_name.new.steps c.converted.new.steps c.in_ok-pay_name.ensures.meaning
    c.in_ok-value.value c.in_ok-pay_name.ensures.text c.requires c.in_ok-value.ensures

-- ---- lists and tuples

pub list_done-returns-in_err-values : goal.list_done-returns-in_err-values
list_done-returns-in_err-values t c =
    let a = seen c.args.arena.now in
    let d = seen c.members_done.new.arena in
    let at = c.args.at in
    let s = state_in a c.args.steps.now in
    let form = list_form c.args.way at.levels at.place c.args.list.at s ∙ ap (λ ws. then_do (members_within c.args.way at.levels at.place ws s) new_list) (some_same _ _ c.in_ok-members.ensures.members ∙ ap (values_of a) (sym c.as_slice.ensures)) in
    gives_err (values_of d) c.in_err-values.field-0.0 a d c.members_done.new.steps _ new_list _ _ form c.in_err-values.ensures.meaning (search rules) c.in_err-values.ensures.grows

pub list_done-returns : goal.list_done-returns
list_done-returns t c =
    let a = seen c.args.arena.now in
    let d = seen c.members_done.new.arena in
    let at = c.args.at in
    let s = state_in a c.args.steps.now in
    let form = list_form c.args.way at.levels at.place c.args.list.at s ∙ ap (λ ws. then_do (members_within c.args.way at.levels at.place ws s) new_list) (some_same _ _ c.in_ok-members.ensures.members ∙ ap (values_of a) (sym c.as_slice.ensures)) in
    list_given _ c.in_ok-new_list.field-0 a d (seen c.new_list.new.self) c.members_done.new.steps _ c.in_ok-values.values form c.in_ok-values.ensures (rw c.as_slice-2.ensures at c.in_ok-new_list.ensures.made)

pub tuple_done-returns-in_err-values : goal.tuple_done-returns-in_err-values
tuple_done-returns-in_err-values t c =
    let a = seen c.args.arena.now in
    let d = seen c.members_done.new.arena in
    let at = c.args.at in
    let form = tuple_form c.args.way at.levels at.place (state_in a c.args.steps.now) (value_of a (value.Tuple c.args.tuple)) (values_of a c.as_slice.result.now) _ refl (some_same _ _ c.in_ok-members.ensures.members ∙ ap (values_of a) (sym c.as_slice.ensures)) in
    gives_err (values_of d) c.in_err-values.field-0.0 a d c.members_done.new.steps _ as_tuple _ _ form c.in_err-values.ensures.meaning (search rules) c.in_err-values.ensures.grows

pub tuple_done-returns : goal.tuple_done-returns
tuple_done-returns t c =
    let a = seen c.args.arena.now in
    let d = seen c.members_done.new.arena in
    let at = c.args.at in
    let form = tuple_form c.args.way at.levels at.place (state_in a c.args.steps.now) (value_of a (value.Tuple c.args.tuple)) (values_of a c.as_slice.result.now) _ refl (some_same _ _ c.in_ok-members.ensures.members ∙ ap (values_of a) (sym c.as_slice.ensures)) in
    tuple_given _ c.in_ok-new_tuple.field-0 a d (seen c.new_tuple.new.self) c.members_done.new.steps _ c.in_ok-values.values form c.in_ok-values.ensures (rw c.as_slice-2.ensures at c.in_ok-new_tuple.ensures.made)

-- ---- dicts and structs

pub dict_done-returns-in_err-pairs-2 : goal.dict_done-returns-in_err-pairs-2
dict_done-returns-in_err-pairs-2 t c =
    let a = seen c.args.arena.now in
    let d = seen c.pairs_done.new.arena in
    let at = c.args.at in
    let s = state_in a c.args.steps.now in
    let pairs = c.pairs.ensures.pairs ∙ ap (pairs_of a) (sym c.in_ok-pairs.ensures) ∙ ap (pairs_of a) (sym c.as_slice.ensures) in
    let form = dict_form at.levels at.place c.args.dict.at s ∙ ap (λ ms. then_do (pairs_within way.Encode at.levels at.place ms s) as_struct) pairs in
    gives_err (pairs_of d) c.in_err-pairs-2.field-0.0 a d c.pairs_done.new.steps _ as_struct _ _ form c.in_err-pairs-2.ensures.meaning (search rules) c.in_err-pairs-2.ensures.grows

pub dict_done-returns : goal.dict_done-returns
dict_done-returns t c =
    let a = seen c.args.arena.now in
    let d = seen c.pairs_done.new.arena in
    let at = c.args.at in
    let s = state_in a c.args.steps.now in
    let pairs = c.pairs.ensures.pairs ∙ ap (pairs_of a) (sym c.in_ok-pairs.ensures) ∙ ap (pairs_of a) (sym c.as_slice.ensures) in
    let form = dict_form at.levels at.place c.args.dict.at s ∙ ap (λ ms. then_do (pairs_within way.Encode at.levels at.place ms s) as_struct) pairs in
    struct_given _ c.in_ok-new_struct.field-0 a d (seen c.new_struct.new.self) c.pairs_done.new.steps _ c.in_ok-pairs-2.pairs c.in_ok-fields.fields form c.in_ok-pairs-2.ensures
    (c.in_ok-fields.ensures.fields ∙ ap (λ ps. fields_from (pairs_of d ps)) c.as_slice-2.ensures) c.in_ok-new_struct.ensures.made

pub struct_done-returns-in_err-pairs-2 : goal.struct_done-returns-in_err-pairs-2
struct_done-returns-in_err-pairs-2 t c =
    let a = seen c.args.arena.now in
    let b = seen c.struct_pairs.new.arena in
    let d = seen c.pairs_done.new.arena in
    let at = c.args.at in
    let n = c.args.steps.now in
    let made = c.in_ok-pairs.ensures in
    let pairs = sym made.pairs ∙ ap (pairs_of b) (sym c.as_slice.ensures) in
    let form = struct_form at.levels at.place _ (state_in a n) ∙ (λ i. then_do (pairs_within way.Decode at.levels at.place (pairs i) (record { store = sym made.store i; steps = n; host = tt })) new_dict) in
    gives_err (pairs_of d) c.in_err-pairs-2.field-0.0 a d c.pairs_done.new.steps _ new_dict _ _ form c.in_err-pairs-2.ensures.meaning (search rules) (grows_then a b d made.grows c.in_err-pairs-2.ensures.grows)

pub struct_done-returns : goal.struct_done-returns
struct_done-returns t c =
    let a = seen c.args.arena.now in
    let b = seen c.struct_pairs.new.arena in
    let d = seen c.pairs_done.new.arena in
    let at = c.args.at in
    let n = c.args.steps.now in
    let made = c.in_ok-pairs.ensures in
    let done = c.in_ok-pairs-2.ensures in
    let pairs = sym made.pairs ∙ ap (pairs_of b) (sym c.as_slice.ensures) in
    let form = struct_form at.levels at.place _ (state_in a n) ∙ (λ i. then_do (pairs_within way.Decode at.levels at.place (pairs i) (record { store = sym made.store i; steps = n; host = tt })) new_dict) in
    dict_given _ c.in_ok-new_dict_of.field-0 a d (seen c.new_dict_of.new.self) c.pairs_done.new.steps _ c.in_ok-pairs-2.pairs c.in_ok-pairs-3.pairs.entries form
    (record { meaning = done.meaning; owns = done.owns; grows = grows_then a b d made.grows done.grows })
    (c.in_ok-pairs-3.ensures.pairs ∙ ap (pairs_of d) c.as_slice-2.ensures) c.in_ok-new_dict_of.ensures.made

pub struct_done-returns-in_err-new_dict_of : goal.struct_done-returns-in_err-new_dict_of
struct_done-returns-in_err-new_dict_of t c =
    let a = seen c.args.arena.now in
    let b = seen c.struct_pairs.new.arena in
    let d = seen c.pairs_done.new.arena in
    let e = seen c.new_dict_of.new.self in
    gives_memory _ _ a e _ (search rules) (grows_then a b e c.in_ok-pairs.ensures.grows (grows_then b d e c.in_ok-pairs-2.ensures.grows c.in_err-new_dict_of.ensures.made.grows))

-- ---- what stays

pub converted-returns-in_err-pay_text-in_default-Text : goal.converted-returns-in_err-pay_text-in_default-Text
converted-returns-in_err-pay_text-in_default-Text t c =
    let a = seen c.args.arena.now in
    text_err c.args.way c.args.at a c.args.value c.in_default-Text.text c.in_default-Text.is-1 c.args.steps.now c.pay_text.new.steps c.in_err-pay_text-in_default-Text.field-0.0 _ (c.in_err-pay_text-in_default-Text.ensures _ refl) (search rules)

pub converted-returns-in_ok-pay_text-in_default-Text : goal.converted-returns-in_ok-pay_text-in_default-Text
converted-returns-in_ok-pay_text-in_default-Text t c =
    let a = seen c.args.arena.now in
    text_stays c.args.way c.args.at a c.args.value c.in_default-Text.text c.in_default-Text.is-1 c.args.steps.now c.pay_text.new.steps (c.in_ok-pay_text-in_default-Text.ensures _ refl) c.requires

pub converted-returns-in_default : goal.converted-returns-in_default
converted-returns-in_default t c =
    let a = seen c.args.arena.now in
    elim c.in_default.branch [
      | converted-in_default-via-in-Dict+in_default w ↦ dict_kept c.args.way c.args.at a c.args.value c.args.steps.now c.requires _ w.in_default.is-1 w.in_default.is-0
      | converted-in_default-via-in-Struct+in_default w ↦ struct_kept c.args.way c.args.at a c.args.value c.args.steps.now c.requires _ w.in_default.is-1 w.in_default.is-0
      | converted-in_default-via-in_default w ↦
          let rest = w.in_default in
          plain_kept c.args.way c.args.at a c.args.value c.args.steps.now c.requires rest.not-Text-1 rest.not-List-1 rest.not-Dict-1 rest.not-Tuple-1 rest.not-Struct-1
    ]
