use Rattle.std.proofs.Common.{◌≡◌, ap, false, map as each, subst, sym, true, ◌∙◌}
use Rattle.object_arena.specs.Names.{OwnsAll, fields_in, seen, values_from, values_of}
use Rattle.star_steps.specs.Meets.{state_in}
use Rattle.value_spec.specs.Binding.{has_twice, none_for_each, parameters_named}
use Rattle.star_calls.specs.Left.{completed}
use Rattle.star_calls.proofs.Whole.{gives_refused, gives_same, once_bound, twice_refused}
use Rattle.star_calls.proofs.signature.bind_named.Goals as goal

pub returns-then-twice : goal.returns-then-twice
returns-then-twice c = λ n.
    let a = seen c.args.arena.now in
    let args = c.args.args in
    let xs = each (λ w. w.now) c.args.needed.now in
    let ys = each (λ w. w.now) c.args.optional.now in
    let twice : has_twice (fields_in a.held args.named) ≡ true = sym (sym c.if-twice.true ∙ c.in_ok-twice.ensures a ∙ ap (λ fs. has_twice (fields_in a.held fs)) c.as_slice.ensures) in
    gives_refused c.args.at c.refusal.result a n _ c.refusal.ensures
    (twice_refused c.args.at (parameters_named xs ys) (none_for_each ys) (values_from (values_of a args.positional)) (fields_in a.held args.named) (state_in a n) twice)

pub fill_needed-requires : goal.fill_needed-requires
fill_needed-requires c =
    let a = seen c.args.arena.now in
    record {
      positions = subst (OwnsAll a) (sym c.as_slice-2.ensures) c.requires.0;
      defaults = subst (OwnsAll a) (sym c.as_slice-3.ensures) (c.in_ok-nones.ensures a).1;
      named = c.requires.1;
      got = subst (OwnsAll a) (sym c.new.ensures) tt;
      once = sym (sym c.if-twice.false ∙ c.in_ok-twice.ensures a ∙ ap (λ fs. has_twice (fields_in a.held fs)) c.as_slice.ensures);
    }

pub returns : goal.returns
returns c = λ n.
    let a = seen c.args.arena.now in
    let args = c.args.args in
    let xs = each (λ w. w.now) c.args.needed.now in
    let ys = each (λ w. w.now) c.args.optional.now in
    let ps = parameters_named xs ys in
    let nones = sym (c.in_ok-nones.ensures a).0 ∙ ap (values_of a) (sym c.as_slice-3.ensures) in
    let once : has_twice (fields_in a.held args.named) ≡ false = sym (sym c.if-twice.false ∙ c.in_ok-twice.ensures a ∙ ap (λ fs. has_twice (fields_in a.held fs)) c.as_slice.ensures) in
    gives_same _ _ c.fill_needed.result a a n
    (once_bound c.args.at ps (none_for_each ys) (values_of a args.positional) (fields_in a.held args.named) (state_in a n) once
    ∙ (λ i. completed c.args.at ps (record { positions = values_of a (sym c.as_slice-2.ensures i); defaults = nones i; named = fields_in a.held args.named; got = values_of a (sym c.new.ensures i) }) (state_in a n)))
    (c.fill_needed.ensures n)
