use Rattle.template_spec.proofs.Nesting.{well_nested}
use Rattle.template_spec.proofs.NestedWords.{nested_words}
use Rattle.template_spec.proofs.compiled_is_well_nested.Goals as goal

pub returns : goal.returns
returns c = record { placed = λ t h names. well_nested t h names; words = λ t h. nested_words t h.nested }
