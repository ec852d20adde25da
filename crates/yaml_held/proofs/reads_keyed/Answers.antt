use Rattle.std.proofs.lemmas.Result.{IfOk-at_ok}
use Rattle.yaml_held.specs.Keyed.{KeyedDocuments}
use Rattle.yaml_held.proofs.KeyedRead.{keyed_read}
use Rattle.yaml_held.proofs.reads_keyed.Goals as goal

pub returns : goal.returns
returns c = λ file bytes documents e. IfOk-at_ok KeyedDocuments e (keyed_read file bytes)
