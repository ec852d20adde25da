use Rattle.yaml_back.proofs.ReadsBack.{reads_one, text_one}
use Rattle.yaml_back.proofs.reads_one.Goals as goal

pub returns : goal.returns
returns c = record { one_list = λ bytes some others p q. reads_one bytes some others p q; one_text = λ some others h w i v e. text_one some others h w i v e }
