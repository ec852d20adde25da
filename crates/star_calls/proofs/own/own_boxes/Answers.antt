use Rattle.std.proofs.Common.{ℕ, ap, length, subst, sym, [], ◌++◌, ◌∙◌, ◌∷◌}
use Rattle.std.proofs.lemmas.List.{nil_from_length}
use Rattle.code_spec.specs.Allowed.{parameter_names}
use Rattle.object_arena.specs.Names.{OwnsAll, OwnsEnv, env_in, seen, value_of, values_of}
use Rattle.star_steps.specs.Meets.{state_in}
use Rattle.star_tree.specs.Whole.{parameters_of}
use Rattle.star_spec.specs.Binding.{boxes_for}
use Rattle.value_spec.specs.Outcomes.{give, then_do}
use Rattle.star_values.proofs.Growing.{grows_same, grows_then, owns_all_kept, values_kept}
use Rattle.star_calls.proofs.Called.{box_next, names_end, none_boxed, values_end, state_boxed}
use Rattle.star_calls.proofs.own.own_boxes.Goals as goal

pub loop-value-init : goal.loop-value-init
loop-value-init c =
    let a = seen c.args.arena.now in
    let boxes = λ (file n : ℕ). boxes_for (parameter_names (parameters_of file c.args.params.now)) (values_of a c.args.values.now) (state_in a n) in
    record {
      same = λ file n. none_boxed (boxes file n) ∙ (λ i. then_do (boxes file n) (λ more. give (env_in a.held (sym c.new-made.ensures i) ++ more)));
      made = subst (OwnsEnv a) (sym c.new-made.ensures) tt;
      rest = c.requires;
      grows = grows_same a;
    }

pub loop-value-preserved : goal.loop-value-preserved
loop-value-preserved c =
    let b = seen c.loop-value.arena in
    let d = seen c.put_box.new.arena in
    let put = c.in_ok-put_box-in-Some-next_named.ensures in
    let own = subst (OwnsAll b) c.in-Some.ensures.cases.0 c.loop-value.invariant.rest in
    let values = ap (values_of b) c.in-Some.ensures.cases.0 in
    record {
      same = λ file n. c.loop-value.invariant.same file n
          ∙ box_next c.in-Some-next_named.name.now (parameter_names (parameters_of file c.in-Some-next_named.more.now)) (parameter_names (parameters_of file c.loop-value.left.now))
          (value_of b c.in-Some.value.now) (values_of d c.in-Some.after.now) (values_of b c.loop-value.rest.now) (env_in b.held c.loop-value.made) (env_in d.held c.put_box.new.made) (state_in b n) (state_in d n)
          (c.in-Some-next_named.ensures file)
          (values ∙ (λ i. value_of b c.in-Some.value.now ∷ sym (values_kept b d c.in-Some.after.now put.grows own.1) i))
          (put.made ∙ ap (λ x. env_in b.held c.loop-value.made ++ (x, length b.store) ∷ []) c.as_str.ensures) (state_boxed b d n (value_of b c.in-Some.value.now) put.store);
      made = put.owned;
      rest = owns_all_kept b d c.in-Some.after.now put.grows own.1;
      grows = grows_then (seen c.args.arena.now) b d c.loop-value.invariant.grows put.grows;
    }

pub returns-in-None : goal.returns-in-None
returns-in-None c = λ file n.
    let b = seen c.loop-value.arena in
    record {
      meaning = c.loop-value.invariant.same file n ∙ names_end (parameter_names (parameters_of file c.loop-value.left.now)) (values_of b c.loop-value.rest.now) (env_in b.held c.loop-value.made) (state_in b n) (c.in-None.ensures file);
      owns = c.loop-value.invariant.made;
      grows = c.loop-value.invariant.grows;
    }

pub returns : goal.returns
returns c = λ file n.
    let b = seen c.loop-value.arena in
    record {
      meaning = c.loop-value.invariant.same file n
          ∙ values_end (parameter_names (parameters_of file c.loop-value.left.now)) (values_of b c.loop-value.rest.now) (env_in b.held c.loop-value.made) (state_in b n) (ap (values_of b) (nil_from_length c.loop-value.rest.now c.in_default.ensures.cases));
      owns = c.loop-value.invariant.made;
      grows = c.loop-value.invariant.grows;
    }
