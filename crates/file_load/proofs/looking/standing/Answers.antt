use Rattle.file_load.proofs.looking.standing.Goals as goal

pub returns-in-Some-clause-owned : goal.returns-in-Some-clause-owned
returns-in-Some-clause-owned c = λ a ps owned stands. (c.in-Some.ensures a).1 owned
