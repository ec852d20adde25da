use Rattle.file_load.proofs.looking.look_for.Goals as goal

pub returns-clause-owned : goal.returns-clause-owned
returns-clause-owned c = λ a owned. c.standing.ensures.owned a c.args.programs.now owned c.in-Some.ensures.1
