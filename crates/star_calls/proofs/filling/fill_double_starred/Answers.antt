use Rattle.std.proofs.Common.{◌≡◌, ◌++◌, [], ◌∷◌, ap, subst, sym, ◌∙◌}
use Rattle.object_arena.specs.Names.{OwnsFields, fields_in, of_dict, seen, with_object}
use Rattle.value_spec.specs.Binding.{has_twice, text_pairs}
use Rattle.star_steps.specs.Meets.{state_in}
use Rattle.star_tree.specs.Whole.{parameters_of}
use Rattle.star_values.proofs.Growing.{grows_same}
use Rattle.star_calls.specs.Left.{completed, rest_of}
use Rattle.star_calls.proofs.Filled.{stars_filled, stars_refused, stars_short}
use Rattle.star_calls.proofs.Fills.{fills_refused}
use Rattle.star_calls.proofs.Kept.{owns_rest_kept, rest_kept}
use Rattle.star_calls.proofs.Taking.{no_positions, some_positions}
use Rattle.star_calls.proofs.filling.fill_double_starred.Goals as goal

pub returns-then-not-is_empty : goal.returns-then-not-is_empty
returns-then-not-is_empty c =
    let a = seen c.args.arena.now in
    record {
      fills = λ file n x. fills_refused c.args.at c.refusal.result _ _ _ c.refusal.ensures
          (stars_refused c.args.at x (parameters_of file c.args.more.now) (rest_of a c.args.left.now) (state_in a n) (some_positions a c.args.left.now.positions.now c.if-not-is_empty.ensures));
      owns = tt;
      grows = grows_same a;
    }

pub returns-then-not-need_nothing : goal.returns-then-not-need_nothing
returns-then-not-need_nothing c =
    let a = seen c.args.arena.now in
    let l = c.args.left.now in
    record {
      fills = λ file n x. fills_refused c.args.at c.refusal-then-not-need_nothing.result _ _ _ c.refusal-then-not-need_nothing.ensures
          (stars_short c.args.at x (parameters_of file c.args.more.now) (rest_of a l) (state_in a n) (no_positions a l.positions.now c.if-not-is_empty.ensures) (c.if-not-need_nothing.ensures a file));
      owns = tt;
      grows = grows_same a;
    }

pub returns : goal.returns
returns c =
    let a = seen c.args.arena.now in
    let b = seen c.dict_of.new.arena in
    let l = c.args.left.now in
    let r = rest_of a l in
    let made = c.in_ok-dict.ensures in
    let kept = rest_kept a b l made.grows c.requires in
    let own = owns_rest_kept a b l made.grows c.requires in
    let store : with_object (of_dict (text_pairs r.named)) a.store ≡ b.store = sym (made.store ∙ ap (λ fs. with_object (of_dict (text_pairs (fields_in a.held fs))) a.store) c.as_slice.ensures) in
    let left = rest_of b c.put.new.left in
    record {
      fills = λ file n x.
          stars_filled c.args.at x (parameters_of file c.args.more.now) r left (state_in a n) (no_positions a l.positions.now c.if-not-is_empty.ensures) (c.if-not-need_nothing.ensures a file)
          (c.in_ok-put.ensures.left b ∙ (λ i. record (kept i) { named = fields_in b.held (c.new.ensures i); got = (kept i).got ++ made.value i ∷ [] }))
          ∙ (λ i. completed c.args.at (parameters_of file c.args.more.now) left (record { store = store i; steps = n; host = tt }));
      owns = c.in_ok-put.ensures.owned b made.owns
          (record {
            positions = own.positions;
            defaults = own.defaults;
            named = subst (OwnsFields b) (sym c.new.ensures) tt;
            got = own.got;
            once = ap (λ fs. has_twice (fields_in b.held fs)) c.new.ensures;
          });
      grows = made.grows;
    }
