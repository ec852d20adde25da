use Rattle.star_eval.specs.Doing.{function_made}
use Rattle.star_eval.specs.View.{arena_in, making_of, setting_of}
use Rattle.star_values.specs.View.{values_of}
use Rattle.star_eval.proofs.Going.{gives_on}
use Rattle.star_eval.proofs.functions.made.Goals as goal

pub returns : goal.returns
returns c =
    let m = c.args.m.now in
    gives_on m c.new_function.new.session c.requires.sound (function_made (setting_of m).env (making_of c.args.making) (values_of (arena_in m) c.args.defaults)) c.new_function.result c.settle.result c.new_function.ensures c.settle.ensures
