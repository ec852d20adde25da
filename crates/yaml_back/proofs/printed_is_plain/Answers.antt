use Rattle.yaml_back.proofs.ReadsBack.{no_code, noted_same}
use Rattle.yaml_back.proofs.printed_is_plain.Goals as goal

pub returns : goal.returns
returns c = record {
  no_code = λ documents h w file noted e. no_code documents h w file noted e;
  same_documents = λ documents h w file noted e. noted_same documents h w file noted e;
}
