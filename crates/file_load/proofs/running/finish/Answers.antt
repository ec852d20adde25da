use Rattle.std.proofs.Common.{◌≡◌, Err, rules, subst, sym}
use Rattle.star_eval.specs.Meets.{arena_of}
use Rattle.star_values.specs.Owns.{OwnsFields}
use Rattle.file_load.proofs.Turning.{file_goes, file_stops}
use Rattle.file_load.specs.Turns.{TakesTurn}
use Rattle.file_load.proofs.running.finish.Goals as goal

pub run_file-requires : goal.run_file-requires
run_file-requires c = subst (OwnsFields (arena_of c.args.session.now)) (sym c.as_slice.ensures) c.requires.got

pub returns-in_err-ended-clause-turns : goal.returns-in_err-ended-clause-turns
returns-in_err-ended-clause-turns c = λ ps sound.
    let stopped : c.from_residual.result ≡ Err c.in_err-ended.field-0.0 = search rules in
    subst (λ r. TakesTurn c.args.functions.now ps c.args.run r c.args.given.now c.args.given.now c.args.waiting.now c.args.waiting.now c.run_file.new.session c.args.session.now) (sym stopped)
    (file_stops _ _ c.args.functions.now ps c.args.run c.args.given.now c.args.waiting.now c.run_file.new.session c.args.session.now sound c.requires.done c.as_slice.result.now c.as_slice.ensures
    c.in_err-ended.field-0.0 c.args.given.now c.in_err-ended.ensures.runs)

pub returns-clause-turns : goal.returns-clause-turns
returns-clause-turns c = λ ps sound.
    file_goes _ _ c.args.functions.now ps c.args.run c.args.given.now c.args.waiting.now c.run_file.new.session c.args.session.now sound c.requires.done c.as_slice.result.now c.as_slice.ensures
    c.in_ok-ended.ended c.in_ok-ended.ensures.runs c.go_on.result c.go_on.new.given c.go_on.new.waiting c.go_on.ensures
