use Rattle.std.proofs.Common.{subst, ◌∙◌}
use Rattle.std.proofs.lemmas.Result.{err_from_is_err_and}
use Rattle.ytt_base.specs.Outcomes.{Gives}
use Rattle.star_tree.specs.Whole.{program_of}
use Rattle.world_spec.specs.StarFiles.{lines_text}
use Rattle.yaml_spec.specs.Held.{plain_lines}
use Rattle.ytt_laws.proofs.Chains.{gives_next, gives_stop}
use Rattle.star_file.proofs.text.read_bytes.Goals as goal

pub returns-in_err-lines-clause-read : goal.returns-in_err-lines-clause-read
returns-in_err-lines-clause-read c = λ r reads.
    let p = err_from_is_err_and c.from_residual.result c.from_residual.ensures.1 in
    rw (p.1, p.2) (gives_stop plain_lines program_of (λ ls. r.file c.args.file (lines_text ls)) c.in_err-lines.field-0.0 _ c.in_err-lines.ensures.lines)

pub returns-clause-read : goal.returns-clause-read
returns-clause-read c = λ r reads.
    let file = c.args.file in
    gives_next program_of (λ ls. r.file file (lines_text ls)) c.read_text.result (plain_lines c.in_ok-lines.lines) _ c.in_ok-lines.ensures.lines
    (subst (λ t. Gives program_of c.read_text.result (r.file file t)) (c.as_str.ensures ∙ c.in_ok-text.ensures) (c.read_text.ensures.read r reads))
