use Rattle.std.proofs.Common.{sym, subst}
use Rattle.value_spec.specs.Keys.{IsKey}
use Rattle.star_values.specs.declared.value.Value.{Value}
use Rattle.star_values.specs.Objects.{seen}
use Rattle.star_values.specs.View.{value_of}
use Rattle.test_values.proofs.owned.is_key.Goals as goal

pub returns-in-Tuple : goal.returns-in-Tuple
returns-in-Tuple c =
    let a = seen c.args.arena.now in
    λ yes. subst (λ (v : Value). IsKey (value_of a v)) (sym c.in-Tuple.is) (subst IsKey (sym c.tuple.ensures.members) (c.are_plain_keys.ensures a yes))
