use Rattle.yaml_back.proofs.ReadsBack.{reads_alone}
use Rattle.yaml_back.proofs.reads_back.Goals as goal

pub returns : goal.returns
returns c = λ documents h w. reads_alone documents h w
