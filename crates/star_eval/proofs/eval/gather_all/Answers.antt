use Rattle.std.proofs.Common.{sym, subst}
use Rattle.value_spec.specs.Outcomes.{give, new_list}
use Rattle.value_spec.specs.Values.{tuple_value, values_from}
use Rattle.star_values.specs.View.{values_of}
use Rattle.star_eval.specs.Frames.{GoesToValue}
use Rattle.star_eval.specs.Meets.{GivesFrom}
use Rattle.star_eval.specs.View.{arena_in, gathering_of}
use Rattle.star_eval.specs.Waiting.{gathered}
use Rattle.star_eval.proofs.Going.{gives_on}
use Rattle.star_eval.proofs.eval.gather_all.Goals as goal

pub returns-in-Tuple : goal.returns-in-Tuple
returns-in-Tuple c =
    let m = c.args.m.now in
    let a = arena_in m in
    let n = record m { session = c.make_tuple.new.session } in
    subst (λ g. GoesToValue c.settle.result n m (gathered (gathering_of g) (values_of a c.args.values))) (sym c.in-Tuple.is)
    (gives_on m c.make_tuple.new.session c.requires.sound (give (tuple_value (values_from (values_of a c.args.values)))) c.make_tuple.result c.settle.result
    (subst (λ vs. GivesFrom (give (tuple_value (values_from (values_of a vs)))) c.make_tuple.result c.make_tuple.new.session m.session) c.as_slice.ensures c.make_tuple.ensures) c.settle.ensures)

pub returns : goal.returns
returns c =
    let m = c.args.m.now in
    let a = arena_in m in
    let n = record m { session = c.make_list.new.session } in
    subst (λ g. GoesToValue c.settle-in-List.result n m (gathered (gathering_of g) (values_of a c.args.values))) (sym c.in-List.is)
    (gives_on m c.make_list.new.session c.requires.sound (new_list (values_of a c.args.values)) c.make_list.result c.settle-in-List.result
    (subst (λ vs. GivesFrom (new_list (values_of a vs)) c.make_list.result c.make_list.new.session m.session) c.as_slice-in-List.ensures c.make_list.ensures) c.settle-in-List.ensures)
