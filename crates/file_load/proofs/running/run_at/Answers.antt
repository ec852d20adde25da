use Rattle.std.proofs.Common.{length, refl, subst, sym}
use Rattle.star_eval.specs.Meets.{arena_of}
use Rattle.star_values.specs.Owns.{OwnsFields}
use Rattle.file_load.proofs.Finding.{stands_at}
use Rattle.file_load.proofs.Turning.{starts}
use Rattle.file_load.specs.Turns.{GaveOrFails}
use Rattle.file_load.specs.declared.waiting.Run.{Run}
use Rattle.file_load.proofs.running.run_at.Goals as goal

pub run_down-requires-clause-sound : goal.run_down-requires-clause-sound
run_down-requires-clause-sound c =
    let stands = stands_at c.args.programs.now c.args.place c.in-Some.program c.requires.programs (sym c.in-Some.ensures) in
    record { run = record { stands = stands.0; got = subst (OwnsFields (arena_of c.args.session.now)) (sym c.new.ensures) tt }; waiting = tt; given = c.requires.given }

pub returns-clause-runs : goal.returns-clause-runs
returns-clause-runs c =
    let stands = stands_at c.args.programs.now c.args.place c.in-Some.program c.requires.programs (sym c.in-Some.ensures) in
    let start : Run = record { program = c.in-Some.program; rest = c.as_slice.result; got = c.new.result; loads = length c.args.programs.now } in
    subst (λ e. GaveOrFails c.run_down.new.session c.run_down.new.given e c.run_down.result)
    (starts c.args.functions.now c.args.programs.now c.args.session.now c.args.given.now c.args.place c.in-Some.program start stands.0 stands.1 refl c.as_slice.ensures c.new.ensures refl) c.run_down.ensures.ends
