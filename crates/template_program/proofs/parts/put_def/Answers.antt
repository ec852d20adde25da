use Rattle.std.proofs.Common.{◌∙◌}
use Rattle.std.specs.Option.{option_map}
use Rattle.ytt_base.specs.Outcomes.{place_at}
use Rattle.code_spec.specs.Numbering.{number_parameters, over_one}
use Rattle.code_spec.specs.Program.{begin_def}
use Rattle.star_tree.specs.View.{item_kind_of}
use Rattle.star_tree.specs.Whole.{parameters_of}
use Rattle.star_number.proofs.Formed.{one_part}
use Rattle.template_program.proofs.parts.put_def.Goals as goal

pub returns : goal.returns
returns c =
    let file = c.args.file in
    let place = place_at file c.args.line in
    let builds = option_map item_kind_of c.args.fragment in
    let params = parameters_of file c.args.params in
    c.put.ensures file c.args.next.now c.number_params.new.next (begin_def place 0 builds c.args.name params)
    (one_part (begin_def place c.in_ok-number.number builds c.args.name) (number_parameters params) _ _ _ c.in_ok-numbered.ensures
    ∙ (λ i. over_one (begin_def place (c.in_ok-number.ensures.number i) builds c.args.name) (number_parameters params) (c.in_ok-number.ensures.next i)))
