use Rattle.std.proofs.Common.{ap, arith, sym}
use Rattle.std.proofs.Math.Seq.{take-length}
use Rattle.world_spec.specs.Worlds.{given_by}
use Rattle.file_load.specs.Gave.{given_in}
use Rattle.file_load.proofs.given.globals_given.Goals as goal

pub loop-left-init : goal.loop-left-init
loop-left-init c = record {
  within = omega arith;
  same = λ a. ap (λ gs. given_by c.args.file (given_in a gs)) (sym (take-length c.args.given.now));
}
