use Rattle.std.proofs.Common.{Some, subst, sym}
use Rattle.star_values.specs.Owns.{Owns}
use Rattle.star_values.specs.View.{value_of}
use Rattle.star_eval.specs.Sources.{IsWalkOf}
use Rattle.star_eval.proofs.Walked.{dict_walks, list_walks}
use Rattle.star_eval.proofs.walk.walk_of.Goals as goal

pub returns-in-List : goal.returns-in-List
returns-in-List c = λ a owned. subst (λ v. IsWalkOf a (value_of a v) (Some c.in-List.list)) (sym c.in-List.is) (list_walks a c.in-List.list (subst (Owns a) c.in-List.is owned))

pub returns-in-Dict : goal.returns-in-Dict
returns-in-Dict c = λ a owned. subst (λ v. IsWalkOf a (value_of a v) (Some c.in-Dict.dict)) (sym c.in-Dict.is) (dict_walks a c.in-Dict.dict (subst (Owns a) c.in-Dict.is owned))
