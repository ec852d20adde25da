use Rattle.std.proofs.Common.{◌≡◌, ap, sym, ◌∙◌, arith, length, Ok}
use Rattle.std.proofs.lemmas.Grind.{common_steps}
use Rattle.yaml_noted.specs.View.{comments_of}
use Rattle.yaml_rows.specs.View.{value_of}
use Rattle.yaml_read.proofs.Roots.{taken-root}
use Rattle.yaml_read.proofs.stepping.step_root.Goals as goal

pub returns-clause-extent : goal.returns-clause-extent
returns-clause-extent c =
    let none : length c.as_slice-heads.result.now ≡ 0 = grind (arith, common_steps) in
    taken-root c.args.left c.args.row.now c.as_slice-heads.result.now (comments_of c.args.before) (value_of c.in_ok-value.value) c.as_slice-heads.ensures none c.requires.shallow c.requires.value c.in_ok-value.ensures
    ∙ ap Ok (sym c.found_by-found.ensures.extent)
