use Rattle.std.proofs.Common.{◌≡◌, ◌∙◌, ◌++◌, ◌∷◌, [], map as each, ap}
use Rattle.render_core.specs.Parts.{gives_in, scope_in}
use Rattle.render_core.proofs.Parting.{all_parted, none_parted, one_parted}
use Rattle.render_core.proofs.parts.parted.Goals as goal

pub loop-content-init : goal.loop-content-init
loop-content-init c = record {
  scopes = none_parted scope_in c.args.contents _ c.new-scopes.ensures;
  outputs = none_parted gives_in c.args.contents _ c.new-outputs.ensures;
}

pub loop-content-preserved : goal.loop-content-preserved
loop-content-preserved c =
    let all = c.args.contents in
    let before = c.loop-content in
    let left = c.pop.new.self in
    let content = c.in-Some.content in
    record {
      scopes = one_parted scope_in (each scope_in all) before.left left before.scopes c.push.new.self content c.in-Some.ensures
          (c.in_ok-push.ensures.ok ∙ ap (λ p. before.scopes ++ p.0 ∷ []) c.in_ok-scope.ensures) before.invariant.scopes;
      outputs = one_parted gives_in (each gives_in all) before.left left before.outputs c.push-in-Some.new.self content c.in-Some.ensures
          (c.in_ok-push-2.ensures.ok ∙ ap (λ p. before.outputs ++ p.1 ∷ []) c.in_ok-scope.ensures) before.invariant.outputs;
    }

pub returns-clause-scopes : goal.returns-clause-scopes
returns-clause-scopes c = c.in_ok-scopes.ensures ∙ all_parted scope_in (each scope_in c.args.contents) c.loop-content.left c.loop-content.scopes c.in_default.ensures.0 c.loop-content.invariant.scopes

pub returns-clause-outputs : goal.returns-clause-outputs
returns-clause-outputs c = all_parted gives_in (each gives_in c.args.contents) c.loop-content.left c.loop-content.outputs c.in_default.ensures.0 c.loop-content.invariant.outputs
