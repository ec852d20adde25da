-- The numbers of the lines of a text fit where its bytes do.
use Rattle.std.proofs.Common.{◌≡◌, ℕ, suc, ◌+◌, ◌<◌, ◌≤◌, ◌^◌, Bool, true, false, ◌==◌, ◌&&◌, List, [], ◌∷◌, length, refl, arith, length-drop, drop, if◌then◌else◌, slice_index, Option, Some, None, Ok, Err, ap, subst}
use Rattle.std.specs.Str.{is_utf8}
use Rattle.ytt_base.specs.declared.fault.FaultKind.TheVariants as kind
use Rattle.ytt_base.specs.declared.fault.Place.{Place}
use Rattle.ytt_base.specs.Outcomes.{Outcome, place_at}
use Rattle.yaml_spec.specs.Bytes.{carriage_return, first, line_feed}
use Rattle.yaml_spec.specs.Lines.{Line, Lines, checked, cut, first_failing, has_good_chars, lines_of, numbered, skip_mark, start_line}
use Rattle.yaml_spec.specs.Refusals.{place_below, refused}
use Rattle.yaml_read.specs.Lines.{FitLines}

start_length : (b : ℕ) (ls : List (List ℕ)) → length (start_line b ls) ≤ suc (length ls)
start_length b [] = omega arith
start_length b (l ∷ ls) = omega arith

cut_length : (bs : List ℕ) → length (cut bs) ≤ length bs
unfolding cut
cut_length [] = omega arith
cut_length (b ∷ bs) = by (b == line_feed) (b == carriage_return && first bs == line_feed) (cut_length bs) where
  by : (v w : Bool) → length (cut bs) ≤ length bs → length (elim v as (λ _. List (List ℕ)) [
    | true ↦ [] ∷ cut bs
    | false ↦ elim w as (λ _. List (List ℕ)) [ true ↦ cut bs | false ↦ start_line b (cut bs) ]
  ]) ≤ length (b ∷ bs)
  by true w h = omega (arith, h)
  by false true h = omega (arith, h)
  by false false h = omega (arith, h, start_length b (cut bs))

numbered_length : (p : Place) (ls : List (List ℕ)) → length (numbered p ls) ≡ length ls
numbered_length p [] = refl
numbered_length p (l ∷ ls) = omega (arith, numbered_length (place_below p 1) ls)

fit_numbered : (p : Place) (ls : List (List ℕ)) → p.line + length ls ≤ 2 ^ 32 → FitLines (numbered p ls)
fit_numbered p [] h = tt
fit_numbered p (l ∷ ls) h = (omega (arith, h, numbered_length (place_below p 1) ls), fit_numbered (place_below p 1) ls (omega (arith, h)))

mark_length : (bs : List ℕ) → length (skip_mark bs) ≤ length bs
mark_length bs = by ((slice_index bs 0 == 0xEF && slice_index bs 1 == 0xBB) && slice_index bs 2 == 0xBF) where
  by : (v : Bool) → length (if v then drop 3 bs else bs) ≤ length bs
  by true = omega (arith, length-drop {A = ℕ})
  by false = omega arith

pub fit_lines : (file : ℕ) (bs : List ℕ) → length bs < 2 ^ 32 → FitLines (lines_of file bs)
unfolding lines_of
fit_lines file bs h = fit_numbered (place_at file 1) (cut (skip_mark bs)) (omega (arith, h, cut_length (skip_mark bs), mark_length bs))

abbrev lines_in : Outcome (List Line) → List Line
lines_in (Ok ls) = ls
lines_in (Err f) = []

checked_same : (ls ms : List Line) → checked ls ≡ Ok ms → FitLines ls → FitLines ms
unfolding checked
checked_same ls ms e h = by (first_failing is_utf8 ls) (first_failing has_good_chars ls) e where
  by : (o q : Option Place) → elim o as (λ _. Outcome (List Line)) [
    | Some p ↦ refused kind.NotUtf8 p
    | None ↦ elim q as (λ _. Outcome (List Line)) [ Some p ↦ refused kind.BadChar p | None ↦ Ok ls ]
  ] ≡ Ok ms → FitLines ms
  by (Some p) q e = cc
  by None (Some p) e = cc
  by None None e = subst FitLines (ap lines_in e) h

-- what is read of such a text fits
pub read_lines_fit : (file : ℕ) (bs : List ℕ) (ls : List Line) → length bs < 2 ^ 32 → Lines file bs ≡ Ok ls → FitLines ls
unfolding Lines
read_lines_fit file bs ls h e = checked_same (lines_of file bs) ls e (fit_lines file bs h)
