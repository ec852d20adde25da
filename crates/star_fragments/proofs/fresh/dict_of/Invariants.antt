use Rattle.star_steps.proofs.Names.{take, seen}
use Rattle.star_fragments.proofs.Dicts.{PutSoFar}
use Rattle.star_fragments.proofs.fresh.dict_of.Given as goal

abbrev pub invariant-loop-key : goal.invariant-loop-key
invariant-loop-key l = PutSoFar l.dict (take l.key-index l.pairs) (seen l.fn.arena) (seen l.arena)
