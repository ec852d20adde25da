-- A machine among the answers of a host.
use Rattle.std.specs.Prelude.{◌≡◌, Result}
use Rattle.ytt_base.specs.declared.fault.Fault.{Fault}
use Rattle.star_spec.specs.Flow.{Flow}
use Rattle.star_spec.specs.Hosts.{Answers, hosted}
use Rattle.star_values.specs.Owns.{Grows}
use Rattle.star_values.specs.View.{View}
use Rattle.value_spec.specs.Outcomes.{State}
use Rattle.value_spec.specs.Values.{Env, Value}
use Rattle.star_eval.specs.declared.frame.Control.{Control}
use Rattle.star_eval.specs.declared.frame.Machine.{Machine}
use Rattle.star_eval.specs.Doing.{Nodes}
use Rattle.star_eval.specs.Frames.{means}
use Rattle.star_eval.specs.View.{OwnsControl, Sound, arena_in}
use Rattle.star_eval.specs.Waiting.{Final, end_env, flow_ends, value_ends}

-- how a block or a call ends where a host answers, and the scope at its end
pub record HostedEnd (H : Type 0) : Type 0 where
  pub env : Env
  pub flow : Result (Flow Nodes) Fault × State H
  pub value : Result Value Fault × State H

-- from this state of the host
abbrev pub hosted_at : {H : Type 0} → Answers H → Final → H → HostedEnd H
hosted_at answers e h = record { env = end_env e; flow = hosted answers (flow_ends e) h; value = hosted answers (value_ends e) h }

-- What a call leaves, with the host, goes on to what there was before; all that it holds is owned, and the arena has grown from this one.
pub record Comes {H : Type 0} (answers : Answers H) (a : View) (m : Machine) (c : Control) (host : H) (before : HostedEnd H) : Type 0 where
  pub same : hosted_at answers (means m c) host ≡ before
  pub sound : Sound m
  pub owned : OwnsControl (arena_in m) c
  pub grows : Grows a (arena_in m)
