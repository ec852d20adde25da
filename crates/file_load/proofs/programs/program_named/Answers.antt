use Rattle.file_load.proofs.Finding.{found_at}
use Rattle.file_load.proofs.programs.program_named.Goals as goal

pub returns-in-Some : goal.returns-in-Some
returns-in-Some c = found_at c.args.programs.now c.args.name.now c.in-Some.place c.program_at.result c.requires c.in-Some.ensures.number c.in-Some.ensures.within c.program_at.ensures
