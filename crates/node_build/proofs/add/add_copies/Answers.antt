use Rattle.std.proofs.Common.{◌+◌, drop, refl, ap, ◌∙◌}
use Rattle.std.proofs.lemmas.Option.{slice_get_read}
use Rattle.star_values.proofs.Growing.{each_at}
use Rattle.star_values.specs.Owns.{OwnsItem}
use Rattle.star_values.specs.View.{built_in}
use Rattle.template_meaning.specs.Adding.{add_all}
use Rattle.value_spec.specs.Outcomes.{then_do}
use Rattle.ytt_laws.proofs.Lists.{dropped}
use Rattle.node_build.proofs.add.add_copies.Goals as goal

pub returns-in_err-add_copy-clause-owned : goal.returns-in_err-add_copy-clause-owned
returns-in_err-add_copy-clause-owned c =
    let here = slice_get_read c.args.more.now _ c.loop-item.item-index c.item-item.result refl c.loop-item-test.true c.item-item.is in
    λ a h o. c.add_copy.ensures.owned a (each_at (OwnsItem a) c.args.more.now c.loop-item.item-index c.item-item.result h here) (c.loop-item.invariant.owned a h o)

pub loop-item-preserved : goal.loop-item-preserved
loop-item-preserved c =
    let more = c.args.more.now in
    let i = c.loop-item.item-index in
    let items = c.loop-item.items.items in
    let here = slice_get_read more _ i c.item-item.result refl c.loop-item-test.true c.item-item.is in
    record {
      known = c.add_copy.ensures.known;
      still = λ is k. c.add_copy.ensures.still is (c.loop-item.invariant.still is k);
      undone = c.add_copy.ensures.undone ∙ c.loop-item.invariant.undone;
      meaning = λ held s.
          c.loop-item.invariant.meaning held s
          ∙ ap (λ l. add_all {H = Unit {0}} (built_in held items) (built_in held l) s) (dropped more i c.item-item.result c.loop-item-test.true c.item-item.is)
          ∙ ap (λ o. then_do o (λ all. add_all all (built_in held (drop (i + 1) more)))) (c.in_ok-add_copy.ensures.meaning held s);
      owned = λ a h o. c.add_copy.ensures.owned a (each_at (OwnsItem a) more i c.item-item.result h here) (c.loop-item.invariant.owned a h o);
    }
