-- What the machine is before a text, and what one token makes of it.
use Rattle.std.specs.Prelude.{◌≡◌, ◌⊎◌, ◌≤◌, ◌<◌, ℕ, [], Some, None, Result, Ok, Err}
use Rattle.ytt_base.specs.declared.fault.Stop.{Stop}
use Rattle.ytt_base.specs.declared.fault.Stop.TheVariants as stop
use Rattle.star_grammar.specs.declared.start.Stand.{Stand}
use Rattle.star_grammar.specs.declared.start.Start.{Start}
use Rattle.star_grammar.specs.declared.token.Token.{Token}
use Rattle.star_grammar.specs.Language.{kind_of_token}
use Rattle.star_grammar.specs.Reading.{max_height, too_deep}
use Rattle.star_grammar.specs.Standing as standing
use Rattle.star_machine.specs.declared.machine.Machine.{Machine}
use Rattle.star_machine.specs.Turns.{next, state_of, value_of, weigh}
use Rattle.star_read.specs.Answers.{refusal_at, told}

-- a machine that has read nothing, and wants nothing
abbrev pub IsEmpty : Machine → Type 0
IsEmpty m = (m.pending ≡ []) × (m.parts ≡ []) × (m.shapes ≡ []) × (m.blocks ≡ [])

-- where the token behind this one stands
abbrev pub stand_behind : Start → Stand → Token → Stand
stand_behind s st k = standing.stand_after s st (kind_of_token k.kind) k.line

-- no text goes on with the token
abbrev pub IsRefused : ℕ → Stand → Token → Machine → Stop → Type 0
IsRefused file st k m x = (x ≡ told file (refusal_at st k)) × (next k m.pending (value_of m) ≡ None)

-- the token was taken, and no text goes on so that is no higher than an expression may be
abbrev pub IsTooHigh : Start → ℕ → Stand → Token → (before after : Machine) → Stop → Type 0
IsTooHigh s file st k m n x = (x ≡ told file (too_deep (stand_behind s st k).line)) × (next k m.pending (value_of m) ≡ Some (state_of n)) × (max_height < weigh n.pending n.shapes)

-- the token was taken, or it is refused; or there was no room
abbrev pub Passes : Start → ℕ → Stand → Token → (before after : Machine) → Result Stand Stop → Type 0
Passes s file st k m n (Ok after) = (after ≡ stand_behind s st k) × (next k m.pending (value_of m) ≡ Some (state_of n)) × (weigh n.pending n.shapes ≤ max_height)
Passes s file st k m n (Err x) = IsRefused file st k m x ⊎ (IsTooHigh s file st k m n x ⊎ (x ≡ stop.Memory))
