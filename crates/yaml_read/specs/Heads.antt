-- The heads of a row, and what begins at each of them.
use Rattle.std.specs.Prelude.{ℕ, Bool, true, false, List, [], ◌∷◌, ◌++◌, Ok}
use Rattle.ytt_base.specs.Outcomes.{Outcome, ◌>>=◌}
use Rattle.yaml_pass.specs.Machine.{Frame, Hole, Opened, opens}
use Rattle.yaml_spec.specs.Entries.{is_dash_mark}
use Rattle.yaml_spec.specs.Noted.{Comment, Note}
use Rattle.yaml_spec.specs.Rows as plain
use Rattle.yaml_spec.specs.Rows.{Head, Mark, dash_mark}
use Rattle.yaml_rows.specs.View.{heads_of, row_of}
use Rattle.yaml_rows.specs.declared.row.Head as held
use Rattle.yaml_rows.specs.declared.row.Row as held_row

-- a tab stands before the first head
abbrev pub first_tab : List Head → Bool
first_tab hs = elim hs [ [] ↦ false | h ∷ hs ↦ h.has_tab ]

-- the first head is a dash
abbrev pub first_dash : List Head → Bool
first_dash hs = elim hs [ [] ↦ false | h ∷ hs ↦ is_dash_mark h.mark ]

-- the row from a head on, at this indent and behind these comments
abbrev pub row_from : List Comment → ℕ → List held.Head → held_row.Row → plain.Row
row_from before n hs r = record (row_of before r) { indent = n; heads = heads_of hs }

-- a block begins behind this head
abbrev pub goes_on : Mark → List Head → Bool
goes_on dash_mark (h ∷ hs) = true
goes_on _ _ = false

-- a block that begins at this indent, with what its first entry has so far
abbrev pub new_frame : ℕ → ℕ → Bool → Note → Frame
new_frame left n is_list note = record { left = left; indent = n; is_list = is_list; done = []; note = note }

-- the blocks that begin with a row, inside those around them
abbrev pub onto : List Frame → Opened → Outcome (List Frame × Hole)
onto outer o = Ok (outer ++ o.0 ∷ o.1, o.2)

abbrev pub opens_in : List Frame → ℕ → ℕ → plain.Row → Outcome (List Frame × Hole)
opens_in outer left n r = opens left n r >>= onto outer
