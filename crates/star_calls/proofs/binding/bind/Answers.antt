use Rattle.std.proofs.Common.{◌≡◌, ap, subst, sym, ◌∙◌, false, true}
use Rattle.object_arena.specs.Names.{OwnsAll, fields_in, seen, values_from, values_of}
use Rattle.value_spec.specs.Binding.{has_twice}
use Rattle.star_steps.specs.Meets.{state_in}
use Rattle.star_tree.specs.Whole.{parameters_of}
use Rattle.star_calls.specs.Left.{completed}
use Rattle.star_calls.proofs.Whole.{gives_refused, gives_same, once_bound, twice_refused}
use Rattle.star_calls.proofs.binding.bind.Goals as goal

pub returns-then-twice : goal.returns-then-twice
returns-then-twice c = λ file n.
    let a = seen c.args.arena.now in
    let args = c.args.args in
    let twice : has_twice (fields_in a.held args.named) ≡ true = sym (sym c.if-twice.true ∙ c.in_ok-twice.ensures a ∙ ap (λ fs. has_twice (fields_in a.held fs)) c.as_slice.ensures) in
    gives_refused c.args.at c.refusal.result a n _ c.refusal.ensures
    (twice_refused c.args.at (parameters_of file c.args.params.now) (values_of a c.args.defaults.now) (values_from (values_of a args.positional)) (fields_in a.held args.named) (state_in a n) twice)

pub fill_all-requires : goal.fill_all-requires
fill_all-requires c =
    let a = seen c.args.arena.now in
    record {
      positions = subst (OwnsAll a) (sym c.as_slice-2.ensures) c.requires.args.0;
      defaults = c.requires.defaults;
      named = c.requires.args.1;
      got = subst (OwnsAll a) (sym c.new.ensures) tt;
      once = sym (sym c.if-twice.false ∙ c.in_ok-twice.ensures a ∙ ap (λ fs. has_twice (fields_in a.held fs)) c.as_slice.ensures);
    }

pub returns : goal.returns
returns c = λ file n.
    let a = seen c.args.arena.now in
    let args = c.args.args in
    let ps = parameters_of file c.args.params.now in
    let once : has_twice (fields_in a.held args.named) ≡ false = sym (sym c.if-twice.false ∙ c.in_ok-twice.ensures a ∙ ap (λ fs. has_twice (fields_in a.held fs)) c.as_slice.ensures) in
    gives_same _ _ c.fill_all.result a (seen c.fill_all.new.arena) n
    (once_bound c.args.at ps (values_of a c.args.defaults.now) (values_of a args.positional) (fields_in a.held args.named) (state_in a n) once
    ∙ (λ i. completed c.args.at ps (record { positions = values_of a (sym c.as_slice-2.ensures i); defaults = values_of a c.args.defaults.now; named = fields_in a.held args.named; got = values_of a (sym c.new.ensures i) }) (state_in a n)))
    (c.fill_all.ensures file n)
