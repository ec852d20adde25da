use Rattle.template_spec.proofs.NumbersAllowed.{program_allowed}
use Rattle.template_spec.proofs.NumbersNest.{blocks_nested, blocks_there}
use Rattle.template_spec.proofs.numbers_keep_programs.Goals as goal

pub returns-clause-blocks : goal.returns-clause-blocks
returns-clause-blocks c = λ is h. blocks_there is 0 h

pub returns-clause-nested : goal.returns-clause-nested
returns-clause-nested c = λ is h. record { nested = blocks_nested is 0 h.nested; names = program_allowed is 0 h.names }
