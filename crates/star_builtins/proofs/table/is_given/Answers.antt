use Rattle.std.proofs.Common.{◌<◌, ◌≤◌, ap, length, subst, sym, ◌∙◌}
use Rattle.std.proofs.lemmas.Bool.{lt-ltb}
use Rattle.star_values.specs.View.{fields_in}
use Rattle.value_spec.specs.Binding.{has_field}
use Rattle.star_builtins.proofs.Given.{by_name, by_position}
use Rattle.star_builtins.proofs.table.is_given.Goals as goal

pub returns-then-position-as_slice : goal.returns-then-position-as_slice
returns-then-position-as_slice c = λ held.
    let args = c.args.args.now in
    let named = has_field c.args.name.now (fields_in held args.named) in
    lt-ltb c.args.position (length c.as_slice.result.now) c.if-position-as_slice.true
    ∙ sym (by_position held args.positional c.args.position named (subst (λ vs. c.args.position < length vs) c.as_slice.ensures c.if-position-as_slice.true))

pub returns-else-position-as_slice : goal.returns-else-position-as_slice
returns-else-position-as_slice c = λ held.
    let args = c.args.args.now in
    let named = has_field c.args.name.now (fields_in held args.named) in
    c.is_named.ensures held ∙ ap (λ qs. has_field c.args.name.now (fields_in held qs)) c.as_slice-else-position-as_slice.ensures
    ∙ sym (by_name held args.positional c.args.position named (subst (λ vs. length vs ≤ c.args.position) c.as_slice.ensures c.if-position-as_slice.false))
