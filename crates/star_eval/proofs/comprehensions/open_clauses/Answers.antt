use Rattle.std.proofs.Common.{[], ◌++◌, length, sym, ap, subst, ◌∙◌}
use Rattle.std.proofs.lemmas.List.{map-append}
use Rattle.star_resolve.specs.Frames.{boxed, unset_boxes}
use Rattle.star_resolve.specs.Variables.{each_once}
use Rattle.star_values.proofs.Growing.{each_joined}
use Rattle.star_values.specs.Objects.{env_in, variable_in}
use Rattle.star_values.specs.Owns.{OwnsEnv, OwnsVariable}
use Rattle.star_eval.specs.Meets.{arena_of}
use Rattle.star_eval.specs.declared.session.Session.{Session}
use Rattle.star_eval.proofs.Growing.{env_kept}
use Rattle.star_eval.proofs.comprehensions.open_clauses.Goals as goal

pub returns : goal.returns
returns c = λ file.
    let a = arena_of c.args.session.now in
    let s : Session = record c.args.session.now { arena = c.open_scope.new.arena } in
    let b = arena_of s in
    let opens = c.in_ok-own.ensures.opens in
    let grows = c.open_scope.ensures.grows in
    let outer = c.args.outer.now in
    let kept = env_kept a b outer grows c.requires in
    let named = c.in_ok-names.ensures ∙ ap each_once (c.in_ok-clause_names.ensures file) in
    let all = c.in_ok-joined.ensures in
    record {
      env = ap (env_in b.held) all ∙ map-append (variable_in b.held) c.in_ok-own.own outer ∙ (λ i. (opens.env ∙ ap (λ ns. boxed (length a.store) ns []) named) i ++ kept.1 i);
      owned = subst (OwnsEnv b) (sym all) (each_joined (OwnsVariable b) c.in_ok-own.own outer opens.owned kept.0);
      state = λ i. record { store = (opens.store ∙ ap (λ ns. a.store ++ unset_boxes (length ns)) named) i; steps = c.args.session.now.work.steps; host = tt };
      grows = grows;
    }
