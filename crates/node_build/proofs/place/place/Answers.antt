use Rattle.std.proofs.Common.{◌≡◌, get_or, sym, subst}
use Rattle.star_values.specs.declared.value.BuiltItem.{BuiltItem}
use Rattle.node_build.proofs.Undoing.{set_back}
use Rattle.node_build.proofs.place.place.Goals as goal

pub returns-in-At-clause-undone : goal.returns-in-At-clause-undone
returns-in-At-clause-undone c =
    set_back c.args.items.now.items c.in-At.at c.replace.result c.replace.new.dest (rw c.in-At.is at c.requires.stands)
    (subst (λ (i : BuiltItem). i ≡ get_or c.args.items.now.items c.in-At.at i) (sym c.replace.ensures.value) c.index_mut.ensures.value)
