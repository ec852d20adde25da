use Rattle.file_spec.specs.Reading.{IsAtOrBelow}
use Rattle.file_find.specs.Walk.{walk_of}
use Rattle.file_find.proofs.Added.{found_few, found_near}
use Rattle.file_find.proofs.find.find_files.Goals as goal

pub returns-clause-few : goal.returns-clause-few
returns-clause-few g c = found_few (λ p. IsAtOrBelow p c.args.paths.now) (walk_of c.new-walk.result) (walk_of c.look_up_each.new.walk) _ c.new-walk.ensures c.in_ok-look_up_each.ensures.adds c.in_ok-into_files.ensures

pub returns-clause-near : goal.returns-clause-near
returns-clause-near g c = found_near (λ p. IsAtOrBelow p c.args.paths.now) (walk_of c.new-walk.result) (walk_of c.look_up_each.new.walk) _ c.new-walk.ensures c.in_ok-look_up_each.ensures.adds c.in_ok-into_files.ensures
