use Rattle.std.proofs.Common.{ap, false, subst, sym, true, ◌∙◌}
use Rattle.std.proofs.lemmas.List.{nil_from_length}
use Rattle.value_spec.specs.Binding.{has_field, has_twice}
use Rattle.star_values.specs.Owns.{OwnsAll}
use Rattle.star_values.specs.View.{fields_in, option_in, values_of}
use Rattle.star_calls.proofs.Named.{once_behind}
use Rattle.star_calls.proofs.Taking.{behind_named, behind_position, got_named, got_position, when_some}
use Rattle.star_calls.proofs.left.take_for.Goals as goal

pub returns-in-None : goal.returns-in-None
returns-in-None c =
    let l = c.args.left.now in
    let x = c.args.name.now in
    let none = nil_from_length l.positions.now c.in-None.ensures.cases in
    record {
      value = λ a. c.by_name.ensures.value a ∙ sym (got_named a x (option_in a.held c.args.default) l.positions.now (fields_in a.held l.named) none);
      left = when_some c.by_name.result _ (λ a. behind_named a x l.positions.now (values_of a l.defaults.now) (values_of a l.got) (fields_in a.held l.named) (fields_in a.held c.by_name.new.named) none (c.by_name.ensures.left a));
      owned = λ a d o.
          let own = c.by_name.ensures.owned a d o.named in (
            own.0,
            record {
              positions = o.positions;
              defaults = o.defaults;
              named = own.1;
              got = o.got;
              once = ap has_twice (c.by_name.ensures.left a) ∙ once_behind x (fields_in a.held l.named) o.once;
            },
          );
    }

pub returns-then-has_name : goal.returns-then-has_name
returns-then-has_name c =
    let l = c.args.left.now in
    let x = c.args.name.now in
    record {
      value = λ a. sym (got_position a x (option_in a.held c.args.default) c.in-Some.first.now c.in-Some.more.now l.positions.now (fields_in a.held l.named) true c.in-Some.ensures.cases.0 (c.if-has_name.ensures a ∙ ap (λ fs. has_field x (fields_in a.held fs)) c.as_slice.ensures));
      left = tt;
      owned = λ a d o. (tt, o);
    }

pub returns-else-has_name : goal.returns-else-has_name
returns-else-has_name c =
    let l = c.args.left.now in
    let x = c.args.name.now in
    record {
      value = λ a. sym (got_position a x (option_in a.held c.args.default) c.in-Some.first.now c.in-Some.more.now l.positions.now (fields_in a.held l.named) false c.in-Some.ensures.cases.0 (c.if-has_name.ensures a ∙ ap (λ fs. has_field x (fields_in a.held fs)) c.as_slice.ensures));
      left = λ a. behind_position a x c.in-Some.first.now c.in-Some.more.now l.positions.now (values_of a l.defaults.now) (values_of a l.got) (fields_in a.held l.named) c.in-Some.ensures.cases.0;
      owned = λ a d o.
          let own = subst (OwnsAll a) c.in-Some.ensures.cases.0 o.positions in
          (own.0, record { positions = own.1; defaults = o.defaults; named = o.named; got = o.got; once = o.once });
    }
