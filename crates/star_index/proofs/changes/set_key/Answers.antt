use Rattle.star_steps.proofs.Names.{◌∙◌, Err, acting, ap, as_is, dict_put, meets_same, rules, seen, state_in, then_do, value_of}
use Rattle.star_index.proofs.KeyLevels.{is_key}
use Rattle.star_index.proofs.ChangeRows.{act_stopped, change_refused, key_put, put_stopped}
use Rattle.value_spec.specs.Outcomes.{after_act}
use Rattle.star_index.proofs.changes.set_key.Goals as goal

pub dict_put-requires-clause-key : goal.dict_put-requires-clause-key
dict_put-requires-clause-key c = is_key 100 (value_of (seen c.args.arena.now) c.args.key) c.in_ok-key_size.ensures.key

pub returns-in_err-key_size-clause-meaning : goal.returns-in_err-key_size-clause-meaning
returns-in_err-key_size-clause-meaning c =
    let a = seen c.args.arena.now in
    put_stopped c.args.place c.args.dict.at (value_of a c.args.key) (value_of a c.args.new) a c.args.steps.now c.key_size.new.steps c.in_err-key_size.field-0.0 c.from_residual.result c.in_default.ensures.meaning c.in_err-key_size.ensures.meaning (search rules)

pub returns-in-Err-clause-meaning : goal.returns-in-Err-clause-meaning
returns-in-Err-clause-meaning c =
    change_refused c.args.place c.in-Err.stop c.stop_at.result c.args.dict.at _ (seen c.args.arena.now) c.args.steps.now c.in-Err.ensures.meaning c.stop_at.ensures

pub returns-in-Ok-clause-meaning : goal.returns-in-Ok-clause-meaning
returns-in-Ok-clause-meaning c =
    let a = seen c.args.arena.now in
    key_put c.args.place c.args.dict.at (value_of a c.args.key) (value_of a c.args.new) a c.args.steps.now c.in_default.ensures.meaning
    ∙ ap (λ o. then_do o (λ w. acting c.args.place (dict_put c.args.dict.at (value_of a c.args.key) (value_of a c.args.new)))) c.in_ok-key_size.ensures.meaning
    ∙ ap (λ o. after_act c.args.place o (state_in a c.key_size.new.steps)) c.in-Ok.ensures.meaning

pub returns-in-Err-dict_put-clause-meaning : goal.returns-in-Err-dict_put-clause-meaning
returns-in-Err-dict_put-clause-meaning c =
    let a = seen c.args.arena.now in
    let b = seen c.dict_put.new.self in
    let m = c.key_size.new.steps in
    meets_same as_is (Err c.stop_at-in-Err-dict_put.result) (state_in b m) _ _
    (key_put c.args.place c.args.dict.at (value_of a c.args.key) (value_of a c.args.new) a c.args.steps.now c.in_default.ensures.meaning
    ∙ ap (λ o. then_do o (λ w. acting c.args.place (dict_put c.args.dict.at (value_of a c.args.key) (value_of a c.args.new)))) c.in_ok-key_size.ensures.meaning)
    (act_stopped (λ u. u) c.args.place c.in-Err-dict_put.stop c.stop_at-in-Err-dict_put.result _ a b m c.in-Err-dict_put.ensures.meaning c.stop_at-in-Err-dict_put.ensures)
