use Rattle.std.proofs.Common.{subst}
use Rattle.star_spec.specs.Names.{box_of, write_name}
use Rattle.star_values.specs.Objects.{env_in}
use Rattle.star_values.specs.View.{value_of}
use Rattle.star_eval.specs.Meets.{Acts}
use Rattle.star_eval.specs.View.{arena_in, env_of}
use Rattle.star_eval.proofs.Going.{ends_on}
use Rattle.star_eval.proofs.assign.name_gets.Goals as goal

pub returns : goal.returns
returns c =
    let m = c.args.m.now in
    let v = value_of (arena_in m) c.args.value in
    ends_on m c.write.new.session c.requires.sound (write_name c.args.place c.args.name.now v (box_of c.args.name.now (env_of m))) c.write.result c.settle_flow.result
    (subst (λ scope. Acts (write_name c.args.place c.args.name.now v (box_of c.args.name.now (env_in (arena_in m).held scope))) c.write.result c.write.new.session m.session) c.as_slice.ensures c.write.ensures) c.settle_flow.ensures
