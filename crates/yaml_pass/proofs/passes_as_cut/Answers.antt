use Rattle.yaml_pass.proofs.Pass.{pass-content_of}
use Rattle.yaml_pass.proofs.passes_as_cut.Goals as goal

pub returns : goal.returns
returns c = λ stop is_owned comments lines. pass-content_of stop is_owned comments lines
