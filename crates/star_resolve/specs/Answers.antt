-- What is answered to the names in events.
use Rattle.std.specs.Prelude.{ℕ, ◌+◌, List, [], ◌∷◌, ◌++◌, Option, Some, None, bytes_eq, position, map as each}
use Rattle.std.specs.Option.{option_map}
use Rattle.ytt_base.specs.declared.fault.Fault.{Fault}
use Rattle.ytt_base.specs.declared.fault.Place.{Place}
use Rattle.code_spec.specs.Code.{Name}
use Rattle.code_spec.specs.Options.{or_else}
use Rattle.code_spec.specs.Program.{Instruction}
use Rattle.star_resolve.specs.declared.event.Event.{Event}
use Rattle.star_resolve.specs.declared.event.Event.TheVariants as event
use Rattle.star_resolve.specs.declared.levels.Variable.{Variable}
use Rattle.star_resolve.specs.declared.levels.Variable.TheVariants as variable
use Rattle.star_resolve.specs.Events.{program_events}
use Rattle.star_resolve.specs.Gathered.{all_names, behind, front}
use Rattle.star_resolve.specs.Variables.{each_once, unknown_name}

-- what is open, the innermost first: a scope by its names, each once, or a block that has none
abbrev pub Open : Type 0
Open = List (Option (List Name))

abbrev pub left : Open → Open
left [] = []
left (l ∷ ls) = ls

abbrev pub after_event : Event → Open → Open
after_event (event.Name p x) ls = ls
after_event (event.Function n) ls = ls
after_event (event.Enter names) ls = Some (each_once names) ∷ ls
after_event event.Block ls = None ∷ ls
after_event event.Leave ls = left ls

abbrev pub local_if : ℕ → Option ℕ → Option Variable → Option Variable
local_if n (Some k) later = Some (variable.Local n k)
local_if n None later = later

abbrev pub local_in : ℕ → Name → Open → Option Variable
local_in n x [] = None
local_in n x (None ∷ ls) = local_in n x ls
local_in n x (Some names ∷ ls) = local_if n (position (bytes_eq x) names) (local_in (n + 1) x ls)

abbrev pub found : (globals builtins : List Name) → Open → Name → Option Variable
found globals builtins ls x =
    or_else (local_in 0 x ls) (or_else (option_map variable.Global (position (bytes_eq x) globals)) (option_map variable.Builtin (position (bytes_eq x) builtins)))

pub record Answer : Type 0 where
  pub place : Place
  pub name : Name
  pub found : Option Variable

abbrev pub answer_here : (globals builtins : List Name) → Open → Event → List Answer
answer_here globals builtins ls (event.Name p x) = record { place = p; name = x; found = found globals builtins ls x } ∷ []
answer_here globals builtins ls (event.Function n) = []
answer_here globals builtins ls (event.Enter names) = []
answer_here globals builtins ls event.Block = []
answer_here globals builtins ls event.Leave = []

abbrev pub answers : (globals builtins : List Name) → Open → List Event → List Answer
answers globals builtins ls [] = []
answers globals builtins ls (e ∷ es) = answer_here globals builtins ls e ++ answers globals builtins (after_event e ls) es

abbrev pub found_in : List Answer → List (Option Variable)
found_in given = each (λ (a : Answer). a.found) given

abbrev pub refused_if : Option Variable → Fault → Option Fault → Option Fault
refused_if (Some v) f later = later
refused_if None f later = Some f

-- the fault of the first name that has no variable
abbrev pub refused : List Answer → Option Fault
refused [] = None
refused (a ∷ more) = refused_if a.found (unknown_name a.place a.name) (refused more)

-- what is answered to the names of a program
abbrev pub program_answers : (builtins : List Name) → List Instruction → List Answer
program_answers builtins is = answers (each_once (front (all_names is))) (each_once builtins) [] (program_events (behind (all_names is)) is)
