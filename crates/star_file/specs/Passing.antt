-- What passes over a program of a file of code tell: they are those over the items of its blocks.
use Rattle.std.specs.Prelude.{◌≡◌, List, Result, Some}
use Rattle.ytt_base.specs.declared.fault.Stop.{Stop}
use Rattle.ytt_base.specs.Outcomes.{Gives, Outcome}
use Rattle.code_spec.specs.Blocks.{Ops, blocks}
use Rattle.code_spec.specs.Program.{Instruction}
use Rattle.passes_spec.specs.Passes.{bound}
use Rattle.template_spec.specs.Template.{Items}
use Rattle.world_spec.specs.StarFiles.{AreCode, ops_items}
use Rattle.world_spec.specs.Units.{passed}

-- a call's result is what the pass tells of the items, whatever else it holds
abbrev pub PassesBy : {A : Type 0} → (Items → Outcome Items) → List Instruction → Result A Stop → Type 0
PassesBy pass is result = (os : Ops) → AreCode os → blocks is ≡ Some os → Gives (λ r. ops_items os) result (pass (ops_items os))

-- by the pass over names
abbrev pub Bound : {A : Type 0} → List Instruction → Result A Stop → Type 0
Bound is result = PassesBy bound is result

-- and by that over what isn't built yet
abbrev pub Passed : {A : Type 0} → List Instruction → Result A Stop → Type 0
Passed is result = PassesBy passed is result
