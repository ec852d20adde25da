-- The pass over rows, as they are held.
use Rattle.std.proofs.Common.{◌≡◌, ℕ, suc, ◌+◌, ◌<◌, ◌≤◌, Bool, List, [], ◌∷◌, ◌++◌, length, drop, get_or, reverse, Option, Some, None, refl, ap, sym, subst, ◌∙◌, add-one}
use Rattle.std.specs.Prelude.{◌||◌, ◌==◌, nat_lt, if◌then◌else◌, true, false}
use Rattle.std.specs.List.{list_any}
use Rattle.std.proofs.lemmas.List.{drop_all}
use Rattle.ytt_base.specs.declared.fault.Fault.{Fault}
use Rattle.template_spec.specs.Misplaced.{Returned, earliest, line_of}
use Rattle.template_spec.specs.OpenBlocks.{first_of}
use Rattle.template_pass.specs.Levels.{Open, behind, holder_at, left_open, next_level, returned_at, fault_by_levels, note_faults, row_fault}
use Rattle.template_pass.specs.Rows as plain
use Rattle.template_events.specs.declared.event.Row.{Row}
use Rattle.template_events.specs.View.{row_of, rows_of}
use Rattle.template_checks.specs.Walk.{IsWalked, bare_row, earlier, flag, flagged_faults, mark_level, mark_levels, nexts_of}
use Rattle.template_checks.proofs.Steps.{row_at}
use Rattle.template_checks.proofs.Walking.{IsWalking, begins_walk, fault_found, walk_ends, walk_stops, walks_on}

-- what comes next behind the row at a place, and behind those behind it
pub nexts_at : (file : ℕ) (rows : List Row) (at : ℕ) (r : Row) (left : List (Option ℕ)) → at < length rows → r ≡ get_or rows at r
    → reverse left ≡ nexts_of (rows_of file (drop at rows)) → reverse left ≡ next_level (rows_of file (drop (at + 1) rows)) ∷ nexts_of (rows_of file (drop (at + 1) rows))
nexts_at file rows at r left within e h = h ∙ ap nexts_of (row_at file rows at r within e)

pub starts : (file : ℕ) (all : List plain.Row) (bs : List Open) (flags : List Bool) (returned : List Returned) (levels : List ℕ) → bs ≡ [] → flags ≡ [] → returned ≡ [] → levels ≡ []
    → IsWalking file all all 0 bs flags returned levels
starts file all bs flags returned levels a b c d = rw (a, b, c, d) (begins_walk file all)

module _ (file : ℕ) (rows : List Row) (at : ℕ) (r : Row) (bs : List Open) (flags : List Bool) (returned returned2 : List Returned) (levels : List ℕ) (next : Option ℕ)
    (within : at < length rows) (is : r ≡ get_or rows at r)
    (walking : IsWalking file (rows_of file rows) (rows_of file (drop at rows)) at bs flags returned levels)
    (comes : next ≡ next_level (rows_of file (drop (at + 1) rows)))
    (returns : returned2 ≡ returned ++ returned_at bs (row_of file r)) where
  abbrev rest : List plain.Row
  rest = rows_of file (drop (at + 1) rows)

  abbrev all : List plain.Row
  all = rows_of file rows

  here : IsWalking file all (row_of file r ∷ rest) at bs flags returned levels
  here = subst (λ (rs : List plain.Row). IsWalking file all rs at bs flags returned levels) (row_at file rows at r within is) walking

  pub walks_row : (bs2 : List Open) (flags2 : List Bool) (levels2 : List ℕ) (d : ℕ) → None ≡ row_fault file bs next (row_of file r)
      → bs2 ≡ behind bs next at (bare_row (row_of file r)) → ((k : ℕ) → flag flags2 k ≡ (list_any (λ h. h == k) (holder_at bs (row_of file r)) || flag flags k))
      → levels2 ≡ levels ++ d ∷ [] → d ≡ mark_level bs next (row_of file r)
      → IsWalking file all rest (at + 1) bs2 flags2 returned2 levels2
  walks_row bs2 flags2 levels2 d ok stepped held pushed marked =
      let further : IsWalking file all rest (suc at) bs2 flags2 returned2 levels2 =
      walks_on file all rest (row_of file r) at bs bs2 flags flags2 returned returned2 levels levels2 here
      (ap (λ (m : Option ℕ). row_fault file bs m (row_of file r)) (sym comes) ∙ sym ok)
      (stepped ∙ ap (λ (m : Option ℕ). behind bs m at (bare_row (row_of file r))) comes)
      returns held
      (pushed ∙ ap (λ n. levels ++ n ∷ []) (marked ∙ ap (λ (m : Option ℕ). mark_level bs m (row_of file r)) comes)) in
      subst (λ n. IsWalking file all rest n bs2 flags2 returned2 levels2) (sym (add-one at)) further

  pub stops_row : (f : Fault) → Some f ≡ row_fault file bs next (row_of file r) → IsWalked file all flags returned2 (Some f) levels None
  stops_row f fault =
      walk_stops file all rest (row_of file r) at bs flags returned returned2 levels f here (ap (λ (m : Option ℕ). row_fault file bs m (row_of file r)) (sym comes) ∙ sym fault) returns

pub ends : (file : ℕ) (rows : List Row) (at : ℕ) (bs : List Open) (flags : List Bool) (returned : List Returned) (levels : List ℕ) (left : Option Fault) → length rows ≤ at
    → IsWalking file (rows_of file rows) (rows_of file (drop at rows)) at bs flags returned levels → left ≡ left_open file bs → IsWalked file (rows_of file rows) flags returned None levels left
ends file rows at bs flags returned levels left past w e =
    rw e (walk_ends file (rows_of file rows) at bs flags returned levels (subst (λ (rs : List Row). IsWalking file (rows_of file rows) (rows_of file rs) at bs flags returned levels) (drop_all at rows past) w))

-- ---- the first fault

pub fault_is : (file : ℕ) (rs : List plain.Row) (flags : List Bool) (returned : List Returned) (stop : Option Fault) (levels : List ℕ) (left notes returning others most first : Option Fault)
    → IsWalked file rs flags returned stop levels left → notes ≡ earliest (note_faults file rs) → returning ≡ earliest (flagged_faults flags returned)
    → others ≡ earlier returning notes → most ≡ earlier stop others → first ≡ first_of most left → first ≡ fault_by_levels file rs
fault_is file rs flags returned stop levels left notes returning others most first w noted back a b c =
    c ∙ ap (λ (o : Option Fault). first_of o left) (b ∙ ap (earlier stop) (a ∙ ap (λ (o : Option Fault). earlier o notes) back)) ∙ sym (fault_found file rs flags returned stop levels left notes w noted)

some_none : (f : Fault) → Some f ≡ None → ⊥
some_none f e = cc

some_chosen : (t : Bool) (f g : Fault) (left : Option Fault) → first_of (if t then Some g else Some f) left ≡ None → ⊥
some_chosen true f g left e = some_none g e
some_chosen false f g left e = some_none f e

no_stop : (stop others left : Option Fault) → first_of (earlier stop others) left ≡ None → stop ≡ None
no_stop None others left e = refl
no_stop (Some f) None left e = absurd (some_none f e)
no_stop (Some f) (Some g) left e = absurd (some_chosen (nat_lt (line_of g) (line_of f)) f g left e)

pub levels_are : (file : ℕ) (rs : List plain.Row) (flags : List Bool) (returned : List Returned) (stop : Option Fault) (levels : List ℕ) (left others most first : Option Fault)
    → IsWalked file rs flags returned stop levels left → most ≡ earlier stop others → first ≡ first_of most left → first ≡ None → levels ≡ mark_levels [] 0 rs
levels_are file rs flags returned stop levels left others most first w b c e =
    w.marked (no_stop stop others left (ap (λ (o : Option Fault). first_of o left) (sym b) ∙ sym c ∙ e))
