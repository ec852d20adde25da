-- Where a block waits for its item.
use Rattle.std.proofs.Common.{◌≡◌, ℕ, Bool, true, false, List, [], ◌∷◌, Option, Some, None, refl}
use Rattle.std.specs.Prelude.{◌&&◌, not, if◌then◌else◌}
use Rattle.ytt_base.specs.declared.fault.Fault.{Fault}
use Rattle.ytt_base.specs.declared.fault.FaultKind.TheVariants as kind
use Rattle.template_spec.specs.Comments.{Said}
use Rattle.template_spec.specs.Misplaced.{fault_on, may_wait}
use Rattle.template_pass.specs.Levels.{Open, is_waiting, said_fault, waiting_or_said}
use Rattle.template_checks.specs.Walk.{waiting_line, waiting_or}

by_cases : (file l : ℕ) (w may : Bool) (f : Option Fault) → (if w && not may then Some (fault_on file kind.BlockOpen l) else f) ≡ waiting_or file (if w then Some l else None) may f
by_cases file l true true f = refl
by_cases file l true false f = refl
by_cases file l false may f = refl

pub waiting_split : (file : ℕ) (bs : List Open) (next : Option ℕ) (l : ℕ) (s : Said) → waiting_or_said file bs next l s ≡ waiting_or file (waiting_line bs) (may_wait s) (said_fault file bs next l s)
waiting_split file [] next l s = refl
waiting_split file (b ∷ bs) next l s = by_cases file b.line (is_waiting b) (may_wait s) (said_fault file (b ∷ bs) next l s)
