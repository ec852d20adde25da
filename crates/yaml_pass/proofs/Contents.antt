-- What stands behind the last head of a row.
use Rattle.std.proofs.Common.{◌≡◌, ℕ, ◌+◌, ◌-◌, ◌≤◌, true, false, List, [], Option, Result, Ok, Err, sym, ◌∙◌, ap, arith}
use Rattle.ytt_base.specs.declared.fault.Stop.{Stop}
use Rattle.ytt_base.specs.Outcomes.{Gives, Outcome, ◌>>=◌}
use Rattle.ytt_base.specs.Trees.{max_depth}
use Rattle.yaml_spec.specs.Entries.{row_comment}
use Rattle.yaml_spec.specs.Noted.{Comment}
use Rattle.yaml_spec.specs.Rows.{Row, has_value, row_value, taken}
use Rattle.yaml_spec.specs.Values.{Value}
use Rattle.ytt_laws.proofs.Chains.{gives_first, gives_same, when_false, when_true}
use Rattle.yaml_pass.specs.Machine.{Hole, wanting, filled, begin_content}
use Rattle.yaml_pass.proofs.Depth.{grows_row}

abbrev filled_by : Value → Outcome (Option Comment × Hole)
filled_by v = Ok (v.trailing, filled (v.content, v.trailing))

pub content-none : (left : ℕ) (r : Row) → has_value r ≡ false → begin_content left r ≡ Ok (row_comment r, wanting)
content-none left r e = when_false (has_value r) (row_value left r >>= filled_by) _ e

pub content-some : (left : ℕ) (r : Row) (v : Value) → has_value r ≡ true → row_value left r ≡ Ok v → begin_content left r ≡ Ok (v.trailing, filled (v.content, v.trailing))
content-some left r v e h = when_true (has_value r) (row_value left r >>= filled_by) _ e ∙ ap (λ (o : Outcome Value). o >>= filled_by) h

pub content-stop : {X Z : Type 0} (v : X → Value) (w : Z → Option Comment × Hole) (left : ℕ) (r : Row) (q : Result Z Stop) (s : Stop) → q ≡ Err s → has_value r ≡ true →
    Gives v (Err s) (row_value left r) → Gives w q (begin_content left r)
content-stop v w left r q s e t h =
    gives_same w q _ _ (when_true (has_value r) (row_value left r >>= filled_by) _ t) (gives_first v w q s (row_value left r) filled_by e h)

abbrev extent_by : ℕ → Value → Outcome (ℕ × List Comment)
extent_by line v = Ok (v.last - line, v.loose)

pub taken-none : (r : Row) → has_value r ≡ false → taken r ≡ Ok (0, [])
unfolding taken
taken-none r e = when_false (has_value r) (row_value max_depth r >>= extent_by r.place.line) _ e

-- a value that is read where fewer collections may nest has the extent of its row
pub taken-some : (left : ℕ) (r : Row) (v : Value) → left ≤ 100 → has_value r ≡ true → row_value left r ≡ Ok v → taken r ≡ Ok (v.last - r.place.line, v.loose)
unfolding taken
taken-some left r v le e h =
    let n : (100 - left) + left ≡ max_depth = omega arith in
    let full : row_value max_depth r ≡ Ok v = rw n at (grows_row (100 - left) left r v h) in
    when_true (has_value r) (row_value max_depth r >>= extent_by r.place.line) _ e ∙ ap (λ (o : Outcome Value). o >>= extent_by r.place.line) full
