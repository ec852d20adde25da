use Rattle.std.proofs.Common.{ap, sym, ◌∙◌}
use Rattle.code_spec.specs.Names.{target_names}
use Rattle.star_tree.specs.Whole.{expr_of, instruction_of}
use Rattle.star_resolve.specs.Gathered.{own_names}
use Rattle.star_resolve.proofs.Gathering.{names_same}
use Rattle.star_resolve.proofs.gather.own_names.Goals as goal

pub returns-in-Assign : goal.returns-in-Assign
returns-in-Assign c = λ file.
    names_same c.of_target.result _ _ (c.of_target.ensures file)
    (ap (λ s. own_names (instruction_of file s)) c.in-Assign.is ∙ ap (λ e. target_names (expr_of file e)) (sym c.get.ensures))

pub returns-in-Augment : goal.returns-in-Augment
returns-in-Augment c = λ file.
    names_same c.of_target-in-Augment.result _ _ (c.of_target-in-Augment.ensures file)
    (ap (λ s. own_names (instruction_of file s)) c.in-Augment.is ∙ ap (λ e. target_names (expr_of file e)) (sym c.get-in-Augment.ensures))

pub returns-in-For : goal.returns-in-For
returns-in-For c = λ file.
    names_same c.of_target-in-For.result _ _ (c.of_target-in-For.ensures file)
    (ap (λ s. own_names (instruction_of file s)) c.in-For.is ∙ ap (λ e. target_names (expr_of file e)) (sym c.get-in-For.ensures))
