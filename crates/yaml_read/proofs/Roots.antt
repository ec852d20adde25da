-- How far a row without a head reaches.
use Rattle.std.proofs.Common.{◌≡◌, ℕ, ◌-◌, ◌≤◌, true, List, [], ◌∷◌, length, Ok, refl, sym, arith}
use Rattle.yaml_spec.specs.Noted.{Comment}
use Rattle.yaml_spec.specs.Rows.{has_value, passing, row_value, taken}
use Rattle.yaml_spec.specs.Values.{Value}
use Rattle.yaml_pass.proofs.Contents.{taken-some}
use Rattle.yaml_rows.specs.declared.row.Head as held
use Rattle.yaml_rows.specs.declared.row.Row as held_row
use Rattle.yaml_rows.specs.View.{row_of}

-- the value of a row without a head
pub taken-root : (left : ℕ) (row : held_row.Row) (hs : List held.Head) (bs : List Comment) (v : Value) → hs ≡ row.heads → length hs ≡ 0 → left ≤ 100 →
    (row.heads ≡ [] → has_value (row_of [] row) ≡ true) → ((before : List Comment) → passing (row_of before row) ≡ bs → row_value left (row_of before row) ≡ Ok v) →
    taken (row_of bs row) ≡ Ok (v.last - row.place.line, v.loose)
taken-root left row [] bs v e n le t h = taken-some left (row_of bs row) v le (t (sym e)) (h bs (rw (← e) refl))
taken-root left row (x ∷ hs) bs v e n le t h = absurd (omega arith)
