-- Lines cut at the first marker.
use Rattle.std.proofs.Common.{◌≡◌, ℕ, zero, suc, ◌+◌, ◌<◌, ◌≤◌, Bool, true, false, ◌||◌, List, [], ◌∷◌, length, take, drop, get_or, refl, sym, ap, ◌∙◌, arith}
use Rattle.std.proofs.Math.ListN.{drop_of_length-le}
use Rattle.std.proofs.lemmas.List.{drop_more}
use Rattle.ytt_base.specs.declared.line.Line as held
use Rattle.yaml_spec.specs.Held.{plain_line, plain_lines}
use Rattle.yaml_spec.specs.Lines.{Line}
use Rattle.yaml_spec.specs.Read.{Segment, first_marker, is_start, is_stop, segments}
use Rattle.yaml_read.specs.Lines.{FitLines}
use Rattle.yaml_read.specs.Segments.{BeginsWithMarker}

abbrev Cut : Type 0
Cut = List Line × List Segment

abbrev marker : Line → Bool
marker l = is_start l || is_stop l

-- a marker begins a segment
abbrev segment_at : Line → Cut → Segment
segment_at l more = record { marker = l; lines = more.0; stop = first_marker more.1 }

pub cut_here : (l : Line) (ls : List Line) → marker l ≡ true → segments (l ∷ ls) ≡ ([], segment_at l (segments ls) ∷ (segments ls).1)
unfolding segments
cut_here l ls e = rw (e, segments) refl

pub goes_on : (l : Line) (ls : List Line) → marker l ≡ false → segments (l ∷ ls) ≡ (l ∷ (segments ls).0, (segments ls).1)
unfolding segments
goes_on l ls e = rw (e, segments) refl

-- ---- the lines before the first marker

pub front_is : (ls : List held.Line) → plain_lines (take (length (segments (plain_lines ls)).0) ls) ≡ (segments (plain_lines ls)).0
unfolding segments
front_is [] = refl
front_is (l ∷ ls) = by (marker (plain_line l)) refl (front_is ls) where
  by : (b : Bool) → marker (plain_line l) ≡ b → plain_lines (take (length (segments (plain_lines ls)).0) ls) ≡ (segments (plain_lines ls)).0
      → plain_lines (take (length (segments (plain_lines (l ∷ ls))).0) (l ∷ ls)) ≡ (segments (plain_lines (l ∷ ls))).0
  by true e more = rw (cut_here (plain_line l) (plain_lines ls) e) refl
  by false e more = rw (goes_on (plain_line l) (plain_lines ls) e) (ap (λ ks. plain_line l ∷ ks) more)

-- the segments stay, and no line stands before them
pub next_is : (ls : List held.Line) → segments (plain_lines (drop (length (segments (plain_lines ls)).0) ls)) ≡ ([], (segments (plain_lines ls)).1)
unfolding segments
next_is [] = refl
next_is (l ∷ ls) = by (marker (plain_line l)) refl (next_is ls) where
  by : (b : Bool) → marker (plain_line l) ≡ b → segments (plain_lines (drop (length (segments (plain_lines ls)).0) ls)) ≡ ([], (segments (plain_lines ls)).1)
      → segments (plain_lines (drop (length (segments (plain_lines (l ∷ ls))).0) (l ∷ ls))) ≡ ([], (segments (plain_lines (l ∷ ls))).1)
  by true e more = rw (cut_here (plain_line l) (plain_lines ls) e) (cut_here (plain_line l) (plain_lines ls) e)
  by false e more = rw (goes_on (plain_line l) (plain_lines ls) e) more

pub front_within : (ls : List held.Line) → length (segments (plain_lines ls)).0 ≤ length ls
unfolding segments
front_within [] = omega arith
front_within (l ∷ ls) = by (marker (plain_line l)) refl (front_within ls) where
  by : (b : Bool) → marker (plain_line l) ≡ b → length (segments (plain_lines ls)).0 ≤ length ls → length (segments (plain_lines (l ∷ ls))).0 ≤ length (l ∷ ls)
  by true e more = rw (cut_here (plain_line l) (plain_lines ls) e) (omega arith)
  by false e more = rw (goes_on (plain_line l) (plain_lines ls) e) (omega arith)

-- lines that begin with a marker
pub marked : (l : held.Line) (ls : List held.Line) → BeginsWithMarker (l ∷ ls) → segments (plain_lines (l ∷ ls)) ≡ ([], segment_at (plain_line l) (segments (plain_lines ls)) ∷ (segments (plain_lines ls)).1)
marked l ls h = by (marker (plain_line l)) refl where
  by : (b : Bool) → marker (plain_line l) ≡ b → segments (plain_lines (l ∷ ls)) ≡ ([], segment_at (plain_line l) (segments (plain_lines ls)) ∷ (segments (plain_lines ls)).1)
  by true e = cut_here (plain_line l) (plain_lines ls) e
  by false e = let wrong = rw (goes_on (plain_line l) (plain_lines ls) e) at h in cc

pub first_is : (l : held.Line) (ls : List held.Line) → BeginsWithMarker (l ∷ ls) → first_marker (segments (plain_lines (l ∷ ls))).1 ≡ l.place.line
first_is l ls h = ap (λ (c : Cut). first_marker c.1) (marked l ls h)

pub none_is : (ls : List held.Line) → length ls ≡ 0 → segments (plain_lines ls) ≡ ([], [])
unfolding segments
none_is [] e = refl
none_is (l ∷ ls) e = cc

-- ---- a loop over lines

pub front_stops : (ls : List held.Line) (at : ℕ) (l : held.Line) → at < length ls → l ≡ get_or ls at l → marker (plain_line l) ≡ true → length (segments (plain_lines (drop at ls))).0 ≡ 0
front_stops ls at l lt is e =
    ap (λ (ks : List held.Line). length (segments (plain_lines ks)).0) (drop_more ls at l lt ∙ ap (λ k. k ∷ drop (at + 1) ls) (sym is))
    ∙ ap (λ (c : Cut). length c.0) (cut_here (plain_line l) (plain_lines (drop (at + 1) ls)) e)

pub front_more : (ls : List held.Line) (at : ℕ) (l : held.Line) → at < length ls → l ≡ get_or ls at l → marker (plain_line l) ≡ false
    → length (segments (plain_lines (drop at ls))).0 ≡ suc (length (segments (plain_lines (drop (at + 1) ls))).0)
front_more ls at l lt is e =
    ap (λ (ks : List held.Line). length (segments (plain_lines ks)).0) (drop_more ls at l lt ∙ ap (λ k. k ∷ drop (at + 1) ls) (sym is))
    ∙ ap (λ (c : Cut). length c.0) (goes_on (plain_line l) (plain_lines (drop (at + 1) ls)) e)

pub front_none : (ls : List held.Line) (at : ℕ) → length ls ≤ at → length (segments (plain_lines (drop at ls))).0 ≡ 0
unfolding segments
front_none ls at past = ap (λ (ks : List held.Line). length (segments (plain_lines ks)).0) (drop_of_length-le ls past)

-- ---- numbers that fit

pub fit_front : (n : ℕ) (ls : List held.Line) → FitLines (plain_lines ls) → FitLines (plain_lines (take n ls))
fit_front zero ls h = tt
fit_front (suc n) [] h = tt
fit_front (suc n) (l ∷ ls) h = (omega (arith, h.0, front_length n ls), fit_front n ls h.1) where
  front_length : (n : ℕ) (ls : List held.Line) → length (plain_lines (take n ls)) ≤ length (plain_lines ls)
  front_length zero ls = omega arith
  front_length (suc n) [] = omega arith
  front_length (suc n) (l ∷ ls) = omega (arith, front_length n ls)

pub fit_next : (n : ℕ) (ls : List held.Line) → FitLines (plain_lines ls) → FitLines (plain_lines (drop n ls))
fit_next zero ls h = h
fit_next (suc n) [] h = tt
fit_next (suc n) (l ∷ ls) h = fit_next n ls h.1

-- the first of lines that begin with a marker is one
pub first_marked : (l : held.Line) (ls : List held.Line) → BeginsWithMarker (l ∷ ls) → marker (plain_line l) ≡ true
first_marked l ls h = by (marker (plain_line l)) refl where
  by : (b : Bool) → marker (plain_line l) ≡ b → marker (plain_line l) ≡ true
  by true e = e
  by false e = let wrong = rw (goes_on (plain_line l) (plain_lines ls) e) at h in cc
