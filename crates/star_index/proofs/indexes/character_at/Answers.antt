use Rattle.star_steps.proofs.Names.{◌≡◌, ◌∙◌}
use Rattle.star_index.proofs.Names.{Err, ap, as_is, as_text_value, gives_made, gives_stop, rules, seen, state_in, sym, text_row, text_value, then_do, value_of}
use Rattle.star_values.specs.declared.value.Value.TheVariants as value
use Rattle.star_index.proofs.indexes.character_at.Goals as goal

pub returns-in_err-character : goal.returns-in_err-character
returns-in_err-character c n =
    let a = seen c.args.arena.now in
    let stopped : c.from_residual.result ≡ Err c.in_err-character.field-0.0 = search rules in
    gives_stop as_is c.in_err-character.field-0.0 a n _ as_text_value c.from_residual.result _
    (text_row c.args.place (value_of a (value.Text c.args.text)) c.as_str.result.now (value_of a c.args.index) (state_in a n) (c.text.ensures ∙ ap text_value (sym c.as_str.ensures)))
    (c.in_err-character.ensures n) stopped

pub returns : goal.returns
returns c n =
    let a = seen c.args.arena.now in
    gives_made _ c.in_ok-new_text.field-0 a (seen c.new_text.new.self) n _
    (text_row c.args.place (value_of a (value.Text c.args.text)) c.as_str.result.now (value_of a c.args.index) (state_in a n) (c.text.ensures ∙ ap text_value (sym c.as_str.ensures))
    ∙ ap (λ o. then_do o as_text_value) (c.in_ok-character.ensures n))
    c.in_ok-new_text.ensures.made
