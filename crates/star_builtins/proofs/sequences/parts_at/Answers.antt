use Rattle.std.proofs.Common.{Some, [], ap, append_assoc, drop, length, map as each, slice_get, subst, sym, ◌++◌, ◌≡◌, ◌≤◌, ◌∷◌, ◌∙◌}
use Rattle.std.proofs.lemmas.Bool.{ltb-true}
use Rattle.std.proofs.lemmas.List.{map-append}
use Rattle.std.proofs.lemmas.Option.{slice_get-get_or}
use Rattle.builtin_spec.specs.Builtins.{firsts}
use Rattle.star_steps.proofs.Names.{Each, Owns, OwnsAll, value_of, values_of}
use Rattle.star_values.proofs.Growing.{each_at, each_joined}
use Rattle.star_builtins.proofs.Sequencing.{part_absent, part_there}
use Rattle.star_builtins.proofs.sequences.parts_at.Goals as goal

pub loop-first-preserved-in_ok-push : goal.loop-first-preserved-in_ok-push
loop-first-preserved-in_ok-push c =
    let k = c.args.place in
    let so_far = c.loop-first.invariant in
    let parts = c.loop-first.parts in
    let vs = c.in-Some.first.now in
    let part = c.in-Some-get.part.now in
    let lookup = c.in-Some-get.ensures.lookup in
    let there : slice_get vs k ≡ Some part =
    subst (λ vs. slice_get vs k ≡ Some part) c.as_slice.ensures (slice_get-get_or c.as_slice.result.now k part (ltb-true _ _ (sym lookup.0)) ∙ ap Some (sym lookup.1)) in
    record {
      values = λ a. let more = each (drop k) (each (values_of a) c.in-Some.more.now) in
          ap (λ ws. values_of a ws ++ firsts more) c.in_ok-push.ensures.ok
          ∙ ap (λ ws. ws ++ firsts more) (map-append (value_of a) parts (part ∷ []))
          ∙ append_assoc (values_of a parts) (value_of a part ∷ []) (firsts more)
          ∙ ap (λ ws. values_of a parts ++ ws) (sym (ap (λ vss. firsts (each (drop k) (each (values_of a) vss))) c.in-Some.ensures.cases.0 ∙ part_there a k vs part more there))
          ∙ so_far.values a;
      owns = λ a h. let owned = so_far.owns a h in
          let rest = subst (Each (OwnsAll a)) c.in-Some.ensures.cases.0 owned.1 in
          (subst (OwnsAll a) (sym c.in_ok-push.ensures.ok) (each_joined (Owns a) parts (part ∷ []) owned.0 (each_at (Owns a) vs k part rest.0 there, tt)), rest.1);
    }

pub loop-first-preserved : goal.loop-first-preserved
loop-first-preserved c =
    let k = c.args.place in
    let so_far = c.loop-first.invariant in
    let vs = c.in-Some.first.now in
    let behind = subst (λ vs. length vs ≤ k) c.as_slice.ensures c.in_default-get.ensures.lookup.3 in
    record {
      values = λ a. ap (λ ws. values_of a c.loop-first.parts ++ ws) (sym (ap (λ vss. firsts (each (drop k) (each (values_of a) vss))) c.in-Some.ensures.cases.0 ∙ part_absent a k vs (each (drop k) (each (values_of a) c.in-Some.more.now)) behind)) ∙ so_far.values a;
      owns = λ a h. let owned = so_far.owns a h in (owned.0, (subst (Each (OwnsAll a)) c.in-Some.ensures.cases.0 owned.1).1);
    }

pub returns-clause-owns : goal.returns-clause-owns
returns-clause-owns c a h = (c.loop-first.invariant.owns a h).0
