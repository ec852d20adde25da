-- A pass over lines as the program makes it.
use Rattle.std.specs.Prelude.{◌≡◌, ℕ, false, List, Result, Ok, Err}
use Rattle.ytt_base.specs.declared.fault.Stop.{Stop}
use Rattle.ytt_base.specs.declared.fault.Stop.TheVariants as stop
use Rattle.ytt_base.specs.Outcomes.{Outcome, ◌>>=◌}
use Rattle.yaml_pass.specs.Machine.{Frame, Hole, Passed, pass, step}
use Rattle.yaml_noted.specs.View.{comments_of}
use Rattle.ytt_base.specs.Trees.{max_depth}
use Rattle.yaml_spec.specs.Lines.{Line}
use Rattle.yaml_spec.specs.Rows.{Row, taken}
use Rattle.yaml_entries.specs.View.{frames_of, hole_of}
use Rattle.yaml_read.specs.declared.state.State.{State}

-- what the pass gives for these lines from this state on
abbrev pub pass_from : ℕ → List Line → State → Outcome Passed
pass_from stop ls s = pass stop s.is_owned s.skip s.least (comments_of s.comments) (frames_of s.frames) (hole_of s.hole) ls

-- what the pass gives for these lines behind a row, where these blocks are open before it
abbrev pub pass_behind : ℕ → List Line → Row → List Frame → Hole → Outcome Passed
pass_behind stop ls r fs h = step max_depth fs h r >>= (λ s. taken r >>= (λ e. pass stop false e.0 r.least e.1 s.0 s.1 ls))

-- The whole is what comes of the state that a call returned, or the refusal that it returned; want of memory says nothing.
abbrev pub Leads : {S A : Type 0} → (S → Outcome A) → Result S Stop → Outcome A → Type 0
Leads next (Ok s) whole = whole ≡ next s
Leads next (Err (stop.Fault f)) whole = whole ≡ Err f
Leads next (Err stop.Memory) whole = Unit {0}
