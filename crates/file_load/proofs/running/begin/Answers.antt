use Rattle.std.proofs.Common.{◌≡◌, ◌-◌, suc, Err, arith, refl, subst, sym}
use Rattle.file_load.proofs.Turning.{begun_taken, too_deep_taken}
use Rattle.file_load.specs.Turns.{TakesFound}
use Rattle.file_load.specs.declared.looking.Found.TheVariants as there
use Rattle.file_load.proofs.running.begin.Goals as goal

pub returns-then-run-eq0 : goal.returns-then-run-eq0
returns-then-run-eq0 c =
    subst (λ x. TakesFound (there.NotBegun c.args.program) c.args.load c.args.run (Err x) c.args.waiting.now c.args.waiting.now) (sym c.ill_formed.ensures)
    (too_deep_taken c.args.load c.args.run c.args.waiting.now c.args.program c.if-run-eq0.true)

pub returns : goal.returns
returns c =
    let m = c.args.run.loads - 1 in
    let more : c.args.run.loads ≡ suc m = omega (arith, c.if-run-eq0.false) in
    begun_taken c.args.load c.args.run c.args.waiting.now c.args.program m _ c.wait.new.waiting more c.in_ok-wait.ensures refl c.as_slice.ensures c.new.ensures refl
