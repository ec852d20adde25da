use Rattle.star_steps.proofs.Names.{◌∙◌}
use Rattle.star_index.proofs.Names.{None, Some, ap, field_row, fields_in, absent_field, gives_refused, gives_value, key_offence, max_depth, missing, other_field, seen, state_in, sym, text_value, value_of}
use Rattle.star_values.specs.declared.value.Value.TheVariants as value
use Rattle.star_index.proofs.keys.field_named.Goals as goal

pub returns-in-Some : goal.returns-in-Some
returns-in-Some c =
    let a = seen c.args.arena.now in
    gives_value c.in-Some.value a c.args.steps.now _
    (field_row c.args.place (fields_in a.held c.args.fields.now) (value_of a c.args.key) c.as_str.result.now (Some (value_of a c.in-Some.value)) (state_in a c.args.steps.now)
    (ap (value_of a) c.in-Text.is ∙ c.text.ensures ∙ ap text_value (sym c.as_str.ensures)) (sym (c.in-Some.ensures.value a)))
    (c.in-Some.ensures.owned a c.requires.fields)

pub returns-in-None : goal.returns-in-None
returns-in-None c =
    let a = seen c.args.arena.now in
    let s = state_in a c.args.steps.now in
    gives_refused c.missing.result (missing c.args.place (value_of a (value.Text c.in-Text.name))) a c.args.steps.now _ c.missing.ensures
    (field_row c.args.place (fields_in a.held c.args.fields.now) (value_of a c.args.key) c.as_str.result.now None s
    (ap (value_of a) c.in-Text.is ∙ c.text.ensures ∙ ap text_value (sym c.as_str.ensures)) (sym (c.in-None.ensures.value a))
    ∙ ap (λ v. missing c.args.place (value_of a v) s) c.in-Text.is)

pub returns-in_default : goal.returns-in_default
returns-in_default c =
    let a = seen c.args.arena.now in
    let k = value_of a c.args.key in
    gives_refused c.absent_field.result (absent_field c.args.place k (key_offence max_depth k)) a c.args.steps.now _ c.absent_field.ensures
    (other_field c.args.place (fields_in a.held c.args.fields.now) a c.args.key (state_in a c.args.steps.now) c.in_default.not-Text)
