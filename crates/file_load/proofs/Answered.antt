-- What a run comes to that asks the host of modules.
use Rattle.std.proofs.Common.{◌≡◌, ◌∙◌, ap, sym, Result}
use Rattle.ytt_base.specs.declared.fault.Fault.{Fault}
use Rattle.module_spec.proofs.Hosting.{keeps_nothing}
use Rattle.module_spec.specs.Answering.{modules_answer, own_answers}
use Rattle.star_spec.specs.Hosts.{hosted, with_host, without_host}
use Rattle.value_spec.specs.Outcomes.{Ending, State}

-- an end beside no host
abbrev unhosted : {H A : Type 0} → Result A Fault × State H → Result A Fault × State (Unit {0})
unhosted r = (r.0, without_host r.1)

-- a run ends alike beside any host's state
alike : {H A : Type 0} (e : Ending (Unit {0}) A) (h : H) → hosted modules_answer e (tt {0}) ≡ unhosted (hosted modules_answer e h)
alike {H} {A} e h = keeps_nothing own_answers e tt ∙ sym (ap (λ (ended : Result A Fault × State H). unhosted ended) (keeps_nothing own_answers e h))

pub ended_alike : {H A : Type 0} (e : Ending (Unit {0}) A) (now then : H) (s : State (Unit {0})) (r : Result A Fault) → hosted modules_answer e then ≡ (r, with_host now s) → hosted modules_answer e (tt {0}) ≡ (r, s)
ended_alike {H} {A} e now then s r h = alike e then ∙ ap (λ (ended : Result A Fault × State H). unhosted ended) h
