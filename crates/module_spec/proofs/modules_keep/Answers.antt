use Rattle.module_spec.proofs.QuestionsKeep.{answers_keep}
use Rattle.module_spec.proofs.modules_keep.Goals as goal

pub returns : goal.returns
returns c = answers_keep
