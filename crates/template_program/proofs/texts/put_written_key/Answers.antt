use Rattle.std.proofs.Common.{Ok, refl, ap, ◌∙◌}
use Rattle.std.specs.Prelude.{option_map}
use Rattle.ytt_base.specs.Outcomes.{◌>>=◌}
use Rattle.ytt_base.specs.View.{key_of}
use Rattle.code_spec.specs.Numbering.{number_expr}
use Rattle.code_spec.specs.Program.{part, node_key, node_key_from}
use Rattle.star_number.proofs.Formed.{one_part}
use Rattle.star_tree.specs.Whole.{expr_of}
use Rattle.template_spec.specs.Template.{written_key, key_from}
use Rattle.text_template_spec.specs.TextTemplates.{key_with}
use Rattle.template_program.proofs.texts.put_written_key.Goals as goal

pub returns-in_ok-put-in-None : goal.returns-in_ok-put-in-None
returns-in_ok-put-in-None c =
    let file = c.args.place.file in
    let n = c.args.next.now in
    let x = key_of c.args.key in
    λ r reads. (
      written_key x,
      ap (λ o. o >>= (λ e. Ok (key_with x e))) (c.in_ok-template_in.ensures r reads ∙ ap (λ o. Ok (option_map (expr_of file) o)) c.in-None.is),
      c.in_ok-put-in-None.ensures file n n (part (node_key c.args.place x)) refl,
    )

pub returns-in_ok-put-in-Some : goal.returns-in_ok-put-in-Some
returns-in_ok-put-in-Some c =
    let file = c.args.place.file in
    let value = expr_of file c.in-Some.expr in
    let x = key_of c.args.key in
    λ r reads. (
      key_from value,
      ap (λ o. o >>= (λ e. Ok (key_with x e))) (c.in_ok-template_in.ensures r reads ∙ ap (λ o. Ok (option_map (expr_of file) o)) c.in-Some.is),
      c.in_ok-put-in-Some.ensures file c.args.next.now c.number_owned.new.next (part (node_key_from c.args.place value)) (one_part (λ e. part (node_key_from c.args.place e)) (number_expr value) _ _ _ c.in_ok-numbered-in-Some.ensures),
    )
