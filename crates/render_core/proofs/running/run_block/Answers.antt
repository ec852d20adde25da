use Rattle.std.proofs.Common.{◌≡◌, ◌∙◌, suc, Err, ap, rules, subst, sym}
use Rattle.star_eval.specs.Meets.{arena_of}
use Rattle.star_values.specs.View.{built_in}
use Rattle.template_meaning.specs.Meaning.{documents}
use Rattle.render_core.proofs.Blocks.{block_ends, block_refused}
use Rattle.render_core.specs.Runs.{EndsFrom}
use Rattle.render_core.specs.declared.parts.Output.TheVariants as output
use Rattle.render_core.proofs.running.run_block.Goals as goal

pub returns-in_err-file-clause-ends : goal.returns-in_err-file-clause-ends
returns-in_err-file-clause-ends c =
    let before = c.args.session.now in
    let after = c.run_at.new.session in
    let stopped : c.from_residual.result ≡ Err c.in_err-file.field-0.0 = search rules in
    subst (λ r. EndsFrom c.args.functions.now c.args.programs.now (suc c.args.place) output.Built r c.run_at.new.given c.args.modules.now after before) (sym stopped)
    (block_refused c.args.functions.now c.args.programs.now (suc c.args.place) c.run_at.new.given c.args.modules.now after before c.in_err-file.field-0.0 c.in_err-file.ensures.runs)

pub returns-clause-ends : goal.returns-clause-ends
returns-clause-ends c =
    let after = c.run_at.new.session in
    block_ends c.args.functions.now c.args.programs.now (suc c.args.place) c.run_at.new.given c.args.modules.now after c.args.session.now c.in_ok-file.file c.in_ok-trees.trees
    (c.in_ok-trees.ensures (arena_of after).held ∙ ap (λ is. documents (built_in (arena_of after).held is)) c.as_slice.ensures) c.in_ok-file.ensures.runs
