use Rattle.test_schema.proofs.script.pair.Goals as goal

pub returns : goal.returns
returns c = λ a o. c.key.ensures.owned a (c.begin.ensures a o)
