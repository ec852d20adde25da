-- A machine with nothing more to do.
use Rattle.std.proofs.Common.{◌≡◌, List, [], ◌∷◌, not, false, reverse, refl, ap, sym, ◌∙◌}
use Rattle.ytt_base.specs.declared.fault.Fault.{Fault}
use Rattle.ytt_base.specs.declared.fault.FaultKind.TheVariants as kind
use Rattle.ytt_base.specs.Outcomes.{fault_of}
use Rattle.value_spec.specs.Members.{is_empty}
use Rattle.value_spec.specs.Outcomes.{bad}
use Rattle.star_eval.specs.declared.frame.Control.{Control}
use Rattle.star_eval.specs.declared.frame.Control.TheVariants as control
use Rattle.star_eval.specs.declared.frame.Frame.{Frame}
use Rattle.star_eval.specs.declared.frame.Machine.{Machine}
use Rattle.star_eval.specs.Frames.{flow_ending_of, given_by, inside, is_active, left_by, means, value_ending_of}
use Rattle.star_eval.specs.Meets.{state_of}
use Rattle.star_eval.specs.View.{arena_in, env_of, frames_of, nodes_in}
use Rattle.star_eval.specs.Waiting.{end_env, flow_ends, value_ends}

no_frames : (fs : List Frame) → not (is_empty fs) ≡ false → fs ≡ []
no_frames [] h = refl
no_frames (f ∷ fs) h = cc

module _ (m : Machine) where
  alone : (x : Control) → not (is_empty m.frames) ≡ false → inside m [] x ≡ means m x
  alone x h = ap (λ fs. inside m (frames_of (arena_in m) m.code (reverse fs)) x) (sym (no_frames m.frames h))

  pub block_ended : (form : Fault) (x : Control) → form ≡ fault_of kind.CodeForm → is_active m x ≡ false → flow_ending_of (arena_in m) (left_by form x) (nodes_in m) (state_of m.session) ≡ flow_ends (means m x)
  block_ended form (control.Eval e) is h = cc
  block_ended form (control.Gave v) is h = (λ i. bad (is i) (state_of m.session)) ∙ ap flow_ends (alone (control.Gave v) h)
  block_ended form (control.Failed f) is h = ap flow_ends (alone (control.Failed f) h)
  block_ended form (control.Run os) is h = cc
  block_ended form (control.Went w) is h = ap flow_ends (alone (control.Went w) h)
  block_ended form (control.Left f) is h = ap flow_ends (alone (control.Left f) h)
  block_ended form (control.Assign p x v) is h = cc
  block_ended form (control.Clauses p cs b) is h = cc
  block_ended form (control.Bagged b) is h = (λ i. bad (is i) (state_of m.session)) ∙ ap flow_ends (alone (control.Bagged b) h)
  block_ended form (control.Lost f) is h = ap flow_ends (alone (control.Lost f) h)
  block_ended form (control.Ask k q) is h = cc

  pub call_ended : (form : Fault) (x : Control) → form ≡ fault_of kind.CodeForm → is_active m x ≡ false → value_ending_of (arena_in m) (given_by form x) (state_of m.session) ≡ value_ends (means m x)
  call_ended form (control.Eval e) is h = cc
  call_ended form (control.Gave v) is h = ap value_ends (alone (control.Gave v) h)
  call_ended form (control.Failed f) is h = ap value_ends (alone (control.Failed f) h)
  call_ended form (control.Run os) is h = cc
  call_ended form (control.Went w) is h = (λ i. bad (is i) (state_of m.session)) ∙ ap value_ends (alone (control.Went w) h)
  call_ended form (control.Left f) is h = ap value_ends (alone (control.Left f) h)
  call_ended form (control.Assign p x v) is h = cc
  call_ended form (control.Clauses p cs b) is h = cc
  call_ended form (control.Bagged b) is h = (λ i. bad (is i) (state_of m.session)) ∙ ap value_ends (alone (control.Bagged b) h)
  call_ended form (control.Lost f) is h = ap value_ends (alone (control.Lost f) h)
  call_ended form (control.Ask k q) is h = cc

  pub scope_at_end : (x : Control) → is_active m x ≡ false → env_of m ≡ end_env (means m x)
  scope_at_end (control.Eval e) h = cc
  scope_at_end (control.Gave v) h = ap end_env (alone (control.Gave v) h)
  scope_at_end (control.Failed f) h = ap end_env (alone (control.Failed f) h)
  scope_at_end (control.Run os) h = cc
  scope_at_end (control.Went w) h = ap end_env (alone (control.Went w) h)
  scope_at_end (control.Left f) h = ap end_env (alone (control.Left f) h)
  scope_at_end (control.Assign p x v) h = cc
  scope_at_end (control.Clauses p cs b) h = cc
  scope_at_end (control.Bagged b) h = ap end_env (alone (control.Bagged b) h)
  scope_at_end (control.Lost f) h = ap end_env (alone (control.Lost f) h)
  scope_at_end (control.Ask k q) h = cc
