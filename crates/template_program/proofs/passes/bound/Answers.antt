use Rattle.std.proofs.Common.{subst, sym}
use Rattle.std.proofs.lemmas.Result.{err_from_is_err_and}
use Rattle.star_tree.specs.declared.code.Program.{Program}
use Rattle.star_tree.specs.Whole.{program_of}
use Rattle.template_spec.specs.Numbered.{numbered}
use Rattle.template_tree.specs.View.{template_of}
use Rattle.template_program.specs.Programs.{IsBound}
use Rattle.template_program.proofs.Passing.{all_known, one_unknown}
use Rattle.template_program.proofs.Resolving.{has_blocks}
use Rattle.template_program.proofs.passes.bound.Goals as goal

pub resolve-requires : goal.resolve-requires
resolve-requires c = has_blocks (numbered c.in_ok-program.ensures.code.whole) _ c.in_ok-program.ensures.code.code

pub returns-in_err-resolved-clause-program : goal.returns-in_err-resolved-clause-program
returns-in_err-resolved-clause-program c =
    let p = err_from_is_err_and c.from_residual-in_err-resolved.result c.from_residual-in_err-resolved.ensures.1 in
    rw (p.1, p.2) (one_unknown (template_of c.args.template) (program_of c.in_ok-program.program) c.in_ok-program.ensures.code c.in_ok-builtins.builtins c.in_ok-builtins.ensures c.in_err-resolved.field-0.0 c.in_err-resolved.ensures.unknown)

pub returns-clause-program : goal.returns-clause-program
returns-clause-program c =
    let t = template_of c.args.template in
    subst (λ (p : Program). IsBound t (program_of p)) (sym c.in_ok-resolved.ensures.program)
    (all_known t (program_of c.in_ok-program.program) c.in_ok-program.ensures.code c.in_ok-builtins.builtins c.in_ok-builtins.ensures c.in_ok-resolved.ensures.known)
