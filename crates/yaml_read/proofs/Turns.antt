-- One row, where blocks are open.
use Rattle.std.proofs.Common.{◌≡◌, ℕ, zero, suc, ◌+◌, ◌-◌, ◌≤◌, ◌<◌, Bool, true, false, not, List, [], ◌∷◌, ◌++◌, length, take, drop, get_or, Some, Ok, Err, refl, ◌∙◌, ap, append_assoc, arith, cond}
use Rattle.std.specs.List.{prefix_len, slice_get}
use Rattle.std.proofs.lemmas.List.{map-append, take-map, take_more}
use Rattle.std.proofs.lemmas.Option.{get_or_from_slice_get}
use Rattle.ytt_base.specs.Outcomes.{Outcome, ◌>>=◌}
use Rattle.yaml_pass.specs.Machine.{Begun, Frame, Hole, begin_at, finish, opens, step}
use Rattle.yaml_spec.specs.Entries.{Found}
use Rattle.yaml_spec.specs.Noted.{Comment}
use Rattle.yaml_spec.specs.Refusals.{refused}
use Rattle.yaml_spec.specs.Rows.{Row}
use Rattle.yaml_rows.specs.declared.row.Head as held_head
use Rattle.yaml_rows.specs.declared.row.Row as held_row
use Rattle.yaml_rows.specs.View.{row_of}
use Rattle.yaml_read.specs.Steps.{begins, entry_in, last_left, misfit, root_in, with_next}
use Rattle.yaml_entries.specs.View.{frame_of, frames_of}
use Rattle.yaml_entries.specs.declared.frames.Frame as held

-- ---- the innermost block

pub last_left-at : (left : ℕ) (fs : List held.Frame) (f : held.Frame) → 0 < length fs → f ≡ get_or fs (length fs - 1) f → f.left ≡ last_left left (frames_of fs)
last_left-at left [] f h e = absurd (omega arith)
last_left-at left (x ∷ []) f h e = ap (λ (g : held.Frame). g.left) e
last_left-at left (x ∷ y ∷ ys) f h e =
    let n : length (x ∷ y ∷ ys) - 1 ≡ suc (length (y ∷ ys) - 1) = omega arith in
    last_left-at x.left (y ∷ ys) f (omega arith) (rw n at e)

-- ---- an entry of an open block

pub misfit-none : (left : ℕ) (is_list : Bool) (n : ℕ) (bs : List Comment) (row : held_row.Row) (hs : List held_head.Head) → hs ≡ row.heads → length hs ≡ 0 →
    begin_at left (opens left) is_list n (row_of bs row) ≡ refused (misfit n (row_of bs row)) row.place
misfit-none left is_list n bs row [] e h = rw (← e) refl
misfit-none left is_list n bs row (x ∷ hs) e h = absurd (omega arith)

abbrev next_by : List Frame → Frame → Found → Begun → Outcome (List Frame × Hole)
next_by outer f found b = Ok (outer ++ with_next f found.0 b.0 ∷ b.1, b.2)

-- ---- the first block of which the row begins an entry

module _ (h : Hole) (r : Row) where
  abbrev around : List held.Frame → ℕ
  around fs = prefix_len (λ f. not (begins r f)) fs

  inside : (x : Frame) (outer : List Frame) (f : Frame) (inner : List Frame) (o : Outcome Begun) →
      (o >>= next_by outer f (finish inner h)) >>= (λ s. Ok (x ∷ s.0, s.1)) ≡ o >>= next_by (x ∷ outer) f (finish inner h)
  inside x outer f inner (Ok b) = refl
  inside x outer f inner (Err e) = refl

  pub step-begins : (fs : List held.Frame) (p left : ℕ) (f : held.Frame) → p ≡ around fs → slice_get fs p ≡ Some f →
      step left (frames_of fs) h r ≡ entry_in (take p (frames_of fs)) (frame_of f) (drop (p + 1) (frames_of fs)) h r
  step-begins [] p left f e g = cc
  step-begins (x ∷ xs) p left f e g = by (λ q d i. step-begins xs q x.left f d i) p (begins r x) e g
    where
      by : ((q : ℕ) → q ≡ around xs → slice_get xs q ≡ Some f → step x.left (frames_of xs) h r ≡ entry_in (take q (frames_of xs)) (frame_of f) (drop (q + 1) (frames_of xs)) h r) →
          (p : ℕ) (b : Bool) → p ≡ cond (not b) (1 + around xs) 0 → slice_get (x ∷ xs) p ≡ Some f →
          elim b as (λ _. Outcome (List Frame × Hole)) [
            | true ↦ begin_at x.left (opens x.left) x.is_list x.indent r >>= next_by [] (frame_of x) (finish (frames_of xs) h)
            | false ↦ step x.left (frames_of xs) h r >>= (λ s. Ok (frame_of x ∷ s.0, s.1))
          ] ≡ entry_in (take p (frame_of x ∷ frames_of xs)) (frame_of f) (drop (p + 1) (frame_of x ∷ frames_of xs)) h r
      by next zero true e g = let k : x ≡ f = cc in rw (← k) refl
      by next zero false e g = absurd (omega arith)
      by next (suc q) true e g = absurd (omega arith)
      by next (suc q) false e g =
          let n : suc q + 1 ≡ suc (q + 1) = omega arith in
          rw n (ap (λ (o : Outcome (List Frame × Hole)). o >>= (λ s. Ok (frame_of x ∷ s.0, s.1))) (next q (omega arith) g)
          ∙ inside (frame_of x) (take q (frames_of xs)) (frame_of f) (drop (q + 1) (frames_of xs)) (begin_at f.left (opens f.left) f.is_list f.indent r))

  abbrev behind : List Frame → List Frame × Hole → Outcome (List Frame × Hole)
  behind outer s = Ok (outer ++ s.0, s.1)

  joined : (x : Frame) (outer : List Frame) (o : Outcome (List Frame × Hole)) → (o >>= behind outer) >>= (λ s. Ok (x ∷ s.0, s.1)) ≡ o >>= behind (x ∷ outer)
  joined x outer (Ok s) = refl
  joined x outer (Err e) = refl

  none_around : (o : Outcome (List Frame × Hole)) → o ≡ o >>= behind []
  none_around (Ok s) = refl
  none_around (Err e) = refl

  pub step-root : (fs : List held.Frame) (left : ℕ) → length fs ≤ around fs → step left (frames_of fs) h r ≡ root_in (frames_of fs) (last_left left (frames_of fs)) h r
  step-root [] left e = none_around (step left [] h r)
  step-root (x ∷ xs) left e = by (λ d. step-root xs x.left d) (begins r x) e
    where
      by : (length xs ≤ around xs → step x.left (frames_of xs) h r ≡ root_in (frames_of xs) (last_left x.left (frames_of xs)) h r) →
          (b : Bool) → length (x ∷ xs) ≤ cond (not b) (1 + around xs) 0 →
          elim b as (λ _. Outcome (List Frame × Hole)) [
            | true ↦ begin_at x.left (opens x.left) x.is_list x.indent r >>= next_by [] (frame_of x) (finish (frames_of xs) h)
            | false ↦ step x.left (frames_of xs) h r >>= (λ s. Ok (frame_of x ∷ s.0, s.1))
          ] ≡ root_in (frame_of x ∷ frames_of xs) (last_left x.left (frames_of xs)) h r
      by next true e = absurd (omega arith)
      by next false e =
          ap (λ (o : Outcome (List Frame × Hole)). o >>= (λ s. Ok (frame_of x ∷ s.0, s.1))) (next (omega arith))
          ∙ joined (frame_of x) (frames_of xs) (step (last_left x.left (frames_of xs)) [] h r)

-- ---- the entry that begins

pub entry_in-begun : (at : ℕ) (fs : List held.Frame) (f g : held.Frame) (h : Hole) (r : Row) (b : Begun) (found : Found) (out : List Frame) →
    slice_get fs at ≡ Some f → g ≡ get_or fs at g → begin_at g.left (opens g.left) g.is_list g.indent r ≡ Ok b → found ≡ finish (drop (at + 1) (frames_of fs)) h →
    out ≡ take at (frames_of fs) ++ with_next (frame_of f) found.0 b.0 ∷ b.1 →
    entry_in (take at (frames_of fs)) (frame_of f) (drop (at + 1) (frames_of fs)) h r ≡ Ok (out, b.2)
entry_in-begun at fs f g h r b found out e ge be fe oe =
    let k : g ≡ f = ge ∙ get_or_from_slice_get fs at f g e in
    let be2 : begin_at f.left (opens f.left) f.is_list f.indent r ≡ Ok b = rw k at be in
    rw (oe, fe) (ap (λ (o : Outcome Begun). o >>= next_by (take at (frames_of fs)) (frame_of f) (finish (drop (at + 1) (frames_of fs)) h)) be2)

pub take-next : (fs : List held.Frame) (at : ℕ) (f : held.Frame) → at < length fs → slice_get fs at ≡ Some f → take (at + 1) fs ≡ take at fs ++ f ∷ []
take-next fs at f h e = take_more fs at f h ∙ ap (λ (g : held.Frame). take at fs ++ g ∷ []) (get_or_from_slice_get fs at f f e)

pub some-at : (fs : List held.Frame) (at : ℕ) → at < length fs → (f : held.Frame) × (slice_get fs at ≡ Some f)
some-at [] at h = absurd (omega arith)
some-at (x ∷ xs) zero h = (x, refl)
some-at (x ∷ xs) (suc n) h = some-at xs n (omega arith)

pub joined-frames : (fs still inner both : List held.Frame) (at : ℕ) (x : Frame) → both ≡ still ++ inner → frames_of still ≡ frames_of (take at fs) ++ x ∷ [] →
    frames_of both ≡ take at (frames_of fs) ++ x ∷ frames_of inner
joined-frames fs still inner both at x e n =
    rw (e, map-append frame_of still inner, n, take-map frame_of at fs) (append_assoc (frames_of (take at fs)) (x ∷ []) (frames_of inner))
