-- One row, where blocks are open.
use Rattle.std.specs.Prelude.{ℕ, Bool, not, ◌&&◌, ◌||◌, ◌==◌, List, [], ◌∷◌, ◌++◌, Ok, if◌then◌else◌}
use Rattle.ytt_base.specs.declared.fault.FaultKind.{FaultKind}
use Rattle.ytt_base.specs.declared.fault.FaultKind.TheVariants as kind
use Rattle.ytt_base.specs.Outcomes.{Outcome, ◌>>=◌}
use Rattle.yaml_pass.specs.Machine.{Frame, Hole, begin_at, finish, opens, step}
use Rattle.yaml_spec.specs.Entries.{begins_entry, is_dash_mark, stray}
use Rattle.yaml_spec.specs.Noted.{Content, Note}
use Rattle.yaml_spec.specs.Rows.{Head, Row}
use Rattle.yaml_entries.specs.declared.frames.Frame as held

-- the row begins an entry of the block
abbrev pub begins : Row → held.Frame → Bool
begins r f = begins_entry f.is_list f.indent r

-- why a row without a head begins no entry of a block of this indent
abbrev pub misfit : ℕ → Row → FaultKind
misfit n r = if r.indent == n then stray r else kind.YamlForm

-- an entry of a block of this indent begins at the head of a row of the other indent
abbrev pub fits_at : Bool → ℕ → ℕ → Head → Bool
fits_at is_list n m h = not h.has_tab && m == n && ((is_list && is_dash_mark h.mark) || (not is_list && not (is_dash_mark h.mark)))

-- the block, where its open entry has this content and another begins
abbrev pub with_next : Frame → Content → Note → Frame
with_next f c note = record f { done = f.done ++ (f.note, c) ∷ []; note = note }

-- how many collections may nest in the innermost block
abbrev pub last_left : ℕ → List Frame → ℕ
last_left left [] = left
last_left left (f ∷ fs) = last_left f.left fs

-- the row begins an entry of a block, which is inside these and around the others
abbrev pub entry_in : List Frame → Frame → List Frame → Hole → Row → Outcome (List Frame × Hole)
entry_in outer f inner h r =
    begin_at f.left (opens f.left) f.is_list f.indent r >>= (λ b. Ok (outer ++ with_next f (finish inner h).0 b.0 ∷ b.1, b.2))

-- the row belongs to the open entry of the last of these blocks
abbrev pub root_in : List Frame → ℕ → Hole → Row → Outcome (List Frame × Hole)
root_in outer left h r = step left [] h r >>= (λ s. Ok (outer ++ s.0, s.1))
