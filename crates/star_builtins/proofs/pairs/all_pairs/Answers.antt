use Rattle.std.proofs.Common.{◌≡◌, ◌∷◌, [], Some, ap, option_map, subst, sym, ◌∙◌}
use Rattle.std.proofs.lemmas.List.{map-append}
use Rattle.builtin_spec.specs.Dicts.{all_pairs, pair_of}
use Rattle.star_steps.proofs.Names.{Each, OwnsAll, members_in, pair_in, pairs_in, seen, value_of, values_of}
use Rattle.star_values.proofs.Growing.{each_joined}
use Rattle.star_builtins.specs.Pairing.{OwnsBoth, OwnsOnePair, pairs_then}
use Rattle.star_builtins.proofs.Pairing.{pair_next}
use Rattle.star_builtins.proofs.pairs.all_pairs.Goals as goal

pub loop-first-preserved : goal.loop-first-preserved
loop-first-preserved c =
    let a = seen c.args.arena.now in
    let so_far = c.loop-first.invariant in
    let qs = c.loop-first.pairs in
    let q = c.in-Some-2.pair in
    let v = c.in-Some.first.now in
    let more = c.in-Some.more.now in
    let told : Some (pair_in a.held q) ≡ pair_of (members_in a.store (value_of a v)) = ap (option_map (pair_in a.held)) (sym c.in-Some-2.is) ∙ c.in_ok-pair_of.ensures.pair in
    let pushed = c.in_ok-push-in-Some-2.ensures.ok in
    record {
      pairs =
          so_far.pairs
          ∙ ap (λ ws. pairs_then (pairs_in a.held qs) (all_pairs a.store (values_of a ws))) c.in-Some.ensures.cases.0
          ∙ pair_next a.store (value_of a v) (values_of a more) (pair_in a.held q) (pairs_in a.held qs) told
          ∙ ap (λ ps. pairs_then ps (all_pairs a.store (values_of a more))) (sym (ap (pairs_in a.held) pushed ∙ map-append (pair_in a.held) qs (q ∷ [])));
      owns = subst (Each (OwnsBoth a)) (sym pushed) (each_joined (OwnsBoth a) qs (q ∷ []) so_far.owns (subst (OwnsOnePair a) c.in-Some-2.is c.in_ok-pair_of.ensures.owned, tt));
      rest = (subst (OwnsAll a) c.in-Some.ensures.cases.0 so_far.rest).1;
    }
