-- The entry that begins at the last head of a row.
use Rattle.std.specs.Prelude.{ℕ, ◌+◌, ◌<◌, ◌≤◌, ◌^◌, [], length, Option, Some, None, Ok}
use Rattle.ytt_base.specs.declared.fault.Place.{Place}
use Rattle.ytt_base.specs.Outcomes.{Outcome, ◌>>=◌}
use Rattle.ytt_base.specs.Trees.{Scalar}
use Rattle.yaml_pass.specs.Machine.{Begun, begin_content}
use Rattle.yaml_spec.specs.Entries.{note_of}
use Rattle.yaml_spec.specs.Plain.{typed}
use Rattle.yaml_spec.specs.Rows as plain
use Rattle.yaml_spec.specs.Rows.{Mark, dash_mark, key_mark}
use Rattle.yaml_rows.specs.declared.row.Row as held_row

-- the row's numbers are those that a program can hold
abbrev pub FitsRow : held_row.Row → Type 0
FitsRow r = (r.least ≤ 2 ^ 63) × (r.place.line + length r.below.now < 2 ^ 32)

-- the key of an entry, if it has one
abbrev pub key_in : Place → Mark → Outcome (Option Scalar)
key_in p dash_mark = Ok None
key_in p (key_mark k) = typed p k >>= (λ s. Ok (Some s))

-- an entry at the last head of a row
abbrev pub begin_last : ℕ → plain.Row → Mark → Outcome Begun
begin_last left r m = key_in r.place m >>= (λ k. begin_content left r >>= (λ b. Ok (note_of r k b.0, [], b.1)))
