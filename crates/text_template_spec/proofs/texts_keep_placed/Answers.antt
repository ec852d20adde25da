use Rattle.std.proofs.Common.{false}
use Rattle.code_spec.specs.Program.{document_item}
use Rattle.template_spec.specs.ControlWords.{free}
use Rattle.template_spec.specs.WellNested.{in_a_file}
use Rattle.text_template_spec.specs.TextTemplates.{with_texts}
use Rattle.text_template_spec.proofs.TextsKeep.{allowed_kept, placed_kept}
use Rattle.text_template_spec.proofs.TextsKeepWords.{words_kept}
use Rattle.text_template_spec.proofs.texts_keep_placed.Goals as goal

pub returns-clause-placed : goal.returns-clause-placed
unfolding with_texts
returns-clause-placed c = λ r t u e h. placed_kept r false in_a_file document_item t u e h

pub returns-clause-allowed : goal.returns-clause-allowed
unfolding with_texts
returns-clause-allowed c = λ r t u a e h. allowed_kept r a false t u e h

pub returns-clause-words : goal.returns-clause-words
unfolding with_texts
returns-clause-words c = λ r t u e h. words_kept r false free t u e h
