use Rattle.std.proofs.Common.{subst}
use Rattle.star_spec.specs.Names.{box_of, read_name}
use Rattle.star_values.specs.Objects.{env_in}
use Rattle.star_eval.specs.Meets.{GivesFrom}
use Rattle.star_eval.specs.View.{arena_in, env_of}
use Rattle.star_eval.proofs.Going.{gives_on}
use Rattle.star_eval.proofs.eval.variable.Goals as goal

pub returns : goal.returns
returns c =
    let m = c.args.m.now in
    gives_on m c.read.new.session c.requires (read_name c.args.place c.args.name.now (box_of c.args.name.now (env_of m))) c.read.result c.settle.result
    (subst (λ scope. GivesFrom (read_name c.args.place c.args.name.now (box_of c.args.name.now (env_in (arena_in m).held scope))) c.read.result c.read.new.session m.session) c.as_slice.ensures c.read.ensures) c.settle.ensures
