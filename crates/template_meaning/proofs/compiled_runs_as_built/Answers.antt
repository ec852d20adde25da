use Rattle.template_meaning.proofs.Theorem.{agrees, files_agree, loads_run_as_built}
use Rattle.template_meaning.proofs.compiled_runs_as_built.Goals as goal

pub returns : goal.returns
returns g c = record {
  scopes = λ language host program t e h. agrees language host program t e h;
  files = λ language host program t e h. files_agree language host program t e h;
  loads = λ language host shelf. loads_run_as_built language host shelf;
}
