use Rattle.star_steps.proofs.Names.{◌≡◌, ◌∙◌}
use Rattle.star_index.proofs.Names.{Err, ap, as_is, as_text_value, cut_in, gives_made, gives_stop, rules, seen, state_in, sym, text_cut, text_value, then_do, value_of}
use Rattle.star_values.specs.declared.value.Value.TheVariants as value
use Rattle.star_index.proofs.slices.text_slice.Goals as goal

pub returns-in_err-bytes : goal.returns-in_err-bytes
returns-in_err-bytes c =
    let a = seen c.args.arena.now in
    let stopped : c.from_residual.result ≡ Err c.in_err-bytes.field-0.0 = search rules in
    gives_stop as_is c.in_err-bytes.field-0.0 a c.bytes_slice.new.steps _ as_text_value c.from_residual.result _
    (text_cut c.args.place (value_of a (value.Text c.args.text)) c.as_str.result.now (cut_in a.held c.args.cut.now) (state_in a c.args.steps.now) (c.text.ensures ∙ ap text_value (sym c.as_str.ensures)))
    c.in_err-bytes.ensures stopped

pub returns : goal.returns
returns c =
    let a = seen c.args.arena.now in
    gives_made _ c.in_ok-new_text.field-0 a (seen c.new_text.new.self) c.bytes_slice.new.steps _
    (text_cut c.args.place (value_of a (value.Text c.args.text)) c.as_str.result.now (cut_in a.held c.args.cut.now) (state_in a c.args.steps.now) (c.text.ensures ∙ ap text_value (sym c.as_str.ensures))
    ∙ ap (λ o. then_do o as_text_value) c.in_ok-bytes.ensures)
    c.in_ok-new_text.ensures.made
