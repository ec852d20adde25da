-- What calls come to in the loop.
use Rattle.std.specs.Borrow.{Bor}
use Rattle.std.specs.Prelude.{◌≡◌, List, Result, Ok, Err}
use Rattle.ytt_base.specs.declared.fault.Stop.{Stop}
use Rattle.ytt_base.specs.declared.fault.Stop.TheVariants as stop
use Rattle.ytt_base.specs.declared.text.Memory.{Memory}
use Rattle.star_blocks.specs.declared.block.Op.{Op}
use Rattle.star_values.specs.declared.value.Value.{Value}
use Rattle.star_values.specs.declared.value.Value.TheVariants as value
use Rattle.star_eval.specs.declared.frame.Control.{Control}
use Rattle.star_eval.specs.declared.frame.Control.TheVariants as control
use Rattle.star_eval.specs.declared.frame.Flow.TheVariants as flow
use Rattle.star_eval.specs.Meets.{Here}

-- a value that is given, or a fault; want of memory ends all
abbrev pub Settles : Result Value Stop → Result Control Memory → Type 0
Settles (Ok v) (Ok c) = c ≡ control.Gave v
Settles (Err (stop.Fault f)) (Ok c) = c ≡ control.Failed f
Settles (Err stop.Memory) (Ok c) = ⊥
Settles r (Err e) = Unit {0}

abbrev pub SettlesNone : Result Here Stop → Result Control Memory → Type 0
SettlesNone (Ok u) (Ok c) = c ≡ control.Gave value.None
SettlesNone (Err (stop.Fault f)) (Ok c) = c ≡ control.Failed f
SettlesNone (Err stop.Memory) (Ok c) = ⊥
SettlesNone r (Err e) = Unit {0}

abbrev pub SettlesFlow : Result Here Stop → Result Control Memory → Type 0
SettlesFlow (Ok u) (Ok c) = c ≡ control.Went flow.On
SettlesFlow (Err (stop.Fault f)) (Ok c) = c ≡ control.Left f
SettlesFlow (Err stop.Memory) (Ok c) = ⊥
SettlesFlow r (Err e) = Unit {0}

-- the same, with a block that runs then
abbrev pub SettlesRun : Bor (List Op) → Result Here Stop → Result Control Memory → Type 0
SettlesRun body (Ok u) (Ok c) = c ≡ control.Run body
SettlesRun body (Err (stop.Fault f)) (Ok c) = c ≡ control.Left f
SettlesRun body (Err stop.Memory) (Ok c) = ⊥
SettlesRun body r (Err e) = Unit {0}
