use Rattle.std.proofs.Common.{sym, ap, subst, ◌∙◌}
use Rattle.star_values.specs.Objects.{pairs_in}
use Rattle.star_values.specs.View.{values_of}
use Rattle.value_spec.specs.Outcomes.{new_dict, new_list}
use Rattle.star_eval.specs.declared.frame.Bag.TheVariants as bag
use Rattle.star_eval.specs.Doing.{bag_made}
use Rattle.star_eval.specs.Frames.{GoesToValue}
use Rattle.star_eval.specs.Meets.{GivesFrom, Here}
use Rattle.star_eval.specs.View.{arena_in, bag_of}
use Rattle.star_eval.proofs.Going.{gives_on}
use Rattle.star_eval.proofs.comprehensions.bag_made.Goals as goal

pub returns-in-Values : goal.returns-in-Values
returns-in-Values c =
    let m = c.args.m.now in
    let a = arena_in m in
    let n = record m { session = c.make_list.new.session } in
    subst (λ b. GoesToValue c.settle.result n m (bag_made (bag_of a m.code.file b))) (sym c.in-Values.is)
    (gives_on m c.make_list.new.session c.requires.sound (new_list (values_of a c.in-Values.values)) c.make_list.result c.settle.result
    (subst (λ vs. GivesFrom (new_list (values_of a vs)) c.make_list.result c.make_list.new.session m.session) c.as_slice.ensures c.make_list.ensures) c.settle.ensures)

pub returns-in-Pairs : goal.returns-in-Pairs
returns-in-Pairs c =
    let m = c.args.m.now in
    let a = arena_in m in
    let n = record m { session = c.make_dict.new.session } in
    let b = c.in-Pairs in
    subst (λ b. GoesToValue c.settle-in-Pairs.result n m (bag_made (bag_of a m.code.file b))) (sym (b.is ∙ ap (bag.Pairs b._key b._value) (sym c.into_inner.ensures)))
    (gives_on m c.make_dict.new.session c.requires.sound (new_dict {H = Here} (pairs_in a.held c.into_inner.result.entries)) c.make_dict.result c.settle-in-Pairs.result c.make_dict.ensures c.settle-in-Pairs.ensures)
