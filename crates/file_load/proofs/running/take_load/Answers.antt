use Rattle.std.proofs.Common.{◌∙◌, ap, refl, subst, sym}
use Rattle.star_eval.specs.Meets.{arena_of}
use Rattle.star_values.specs.Objects.{seen}
use Rattle.world_spec.specs.Paths.{name_at}
use Rattle.file_load.proofs.Turning.{found_taken, private_taken}
use Rattle.file_load.specs.Looking.{LooksUp}
use Rattle.file_load.specs.Programs.{names_in}
use Rattle.file_load.specs.Seen.{files_of}
use Rattle.file_load.specs.declared.waiting.Waiting.{Waiting}
use Rattle.std.specs.Prelude.{List}
use Rattle.file_load.proofs.running.take_load.Goals as goal

pub look-requires-clause-from : goal.look-requires-clause-from
look-requires-clause-from c = ap (name_at (names_in c.args.programs.now)) c.requires.here ∙ c.requires.sound.run.stands.name ∙ sym c.as_str.ensures

pub returns-in-Some-clause-takes : goal.returns-in-Some-clause-takes
returns-in-Some-clause-takes c =
    private_taken c.args.programs.now c.args.load c.args.run c.args.given.now c.args.waiting.now c.args.session.now c.fault_with.result c.in-Some.name.now c.in-Some.ensures c.fault_with.ensures

pub returns-clause-takes : goal.returns-clause-takes
returns-clause-takes c =
    let before = c.args.session.now in
    let gs = c.args.given.now in
    let ws = c.args.waiting.now in
    let looks = subst (λ (vs : List Waiting). LooksUp c.args.programs.now gs (files_of vs) c.args.load (seen c.look.new.arena) (arena_of before) c.in_ok-found.found) c.as_slice.ensures c.in_ok-found.ensures in
    found_taken c.args.programs.now c.args.load c.args.run gs c.load_found.result c.load_found.new.waiting ws (record { arena = c.look.new.arena; work = before.work }) before
    c.in_ok-found.found c.in_default.ensures refl looks c.requires.sound c.load_found.ensures
