use Rattle.yaml_held.proofs.HeldDocuments.{reads_trees}
use Rattle.yaml_back.proofs.ReadsBack.{reads_alone}
use Rattle.yaml_held.proofs.Shallow.{reads_writable}
use Rattle.yaml_held.proofs.reads_writable.Goals as goal

pub returns : goal.returns
returns c = record {
  held = λ file bytes documents e. reads_trees file bytes documents e;
  writable = λ file bytes documents e. reads_writable file bytes documents e;
  back = λ file bytes documents e. reads_alone documents (reads_trees file bytes documents e) (reads_writable file bytes documents e);
}
