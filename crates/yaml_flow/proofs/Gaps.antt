-- From one token to the next, line by line.
use Rattle.std.proofs.Common.{◌≡◌, ◌≤◌, Bool, true, List, [], ◌∷◌, ◌++◌, length, Ok, Err, refl, arith, append_assoc, append-nil}
use Rattle.std.proofs.lemmas.List.{map-append}
use Rattle.std.proofs.lemmas.List.Sums.{sum_by-cons}
use Rattle.ytt_base.specs.declared.fault.Fault.{Fault}
use Rattle.ytt_base.specs.declared.fault.FaultKind.TheVariants as kind
use Rattle.ytt_base.specs.declared.fault.Place.{Place}
use Rattle.ytt_base.specs.Outcomes.{Outcome, and_then}
use Rattle.yaml_noted.specs.declared.noted.RawComment.{RawComment}
use Rattle.yaml_noted.specs.View.{comment_of, comments_of}
use Rattle.yaml_spec.specs.Flow.{gap, look, Look, line_over, comment, note_comment, token, size}
use Rattle.yaml_spec.specs.Lines.{Line}
use Rattle.yaml_spec.specs.Noted.{Comment}
use Rattle.yaml_spec.specs.Quotes.{Cursor}
use Rattle.yaml_spec.specs.Refusals.{refused}
use Rattle.yaml_text.proofs.Whites.{skip_white-length}
use Rattle.yaml_flow.specs.Members.{line_below, trimmed, token_from}

abbrev line_start : Line → List Line → Cursor
line_start l ls = record { place = l.place; text = l.text; below = ls }

abbrev start_of : Line → List Line → Outcome Cursor
start_of l ls = Ok (line_start l ls)

abbrev behind_comments : List Comment → List Comment × Cursor → Outcome (List Comment × Cursor)
behind_comments cs g = Ok (cs ++ g.0, g.1)

-- a token stands here
pub from-token : (p : Place) (fresh : Bool) (cs : List Comment) (c : Cursor) → look fresh c.place c.text ≡ token → token_from p fresh cs c ≡ Ok (cs, trimmed c)
unfolding gap
from-token p fresh cs c e = by c.below refl where
  by : (ls : List Line) → c.below ≡ ls → token_from p fresh cs c ≡ Ok (cs, trimmed c)
  by [] b = rw (b, gap, e) (rw append-nil refl)
  by (l ∷ ls) b = rw (b, gap, e) (rw append-nil refl)

-- a comment of the template stands here
pub from-note : (p : Place) (fresh : Bool) (cs : List Comment) (c : Cursor) → look fresh c.place c.text ≡ note_comment → token_from p fresh cs c ≡ refused kind.YamlOut c.place
unfolding gap
from-note p fresh cs c e = by c.below refl where
  by : (ls : List Line) → c.below ≡ ls → token_from p fresh cs c ≡ refused kind.YamlOut c.place
  by [] b = rw (b, gap, e) refl
  by (l ∷ ls) b = rw (b, gap, e) refl

-- what stands here where the next token is on a line below, and the comments without it and with it
pub data Passes : Look → List Comment → List Comment → Type 0 where
  passes_end : (cs : List Comment) → Passes line_over cs cs
  passes_comment : (cs : List Comment) (x : Comment) → Passes (comment x) cs (cs ++ x ∷ [])

pub passed-end : (v : Look) (old new : List RawComment) → v ≡ line_over → new ≡ old → Passes v (comments_of old) (comments_of new)
passed-end v old new e n = rw (e, n) (passes_end (comments_of old))

pub passed-comment : (v : Look) (x : RawComment) (old new : List RawComment) → v ≡ comment (comment_of x) → new ≡ old ++ x ∷ [] → Passes v (comments_of old) (comments_of new)
passed-comment v x old new e n =
    let more : comments_of (old ++ x ∷ []) ≡ comments_of old ++ comment_of x ∷ [] = map-append comment_of old (x ∷ []) in
    rw (e, n, more) (passes_comment (comments_of old) (comment_of x))

-- no line is below
pub from-last : (p : Place) (fresh : Bool) (cs more : List Comment) (c : Cursor) (f : Fault) → Passes (look fresh c.place c.text) cs more → line_below p c ≡ Err f → token_from p fresh cs c ≡ Err f
unfolding gap
from-last p fresh cs more c f h none = by c.below refl _ cs more refl h where
  by : (ls : List Line) → c.below ≡ ls → (v : Look) (cs more : List Comment) → look fresh c.place c.text ≡ v → Passes v cs more → token_from p fresh cs c ≡ Err f
  by [] b v cs more e (passes_end _) = let same : refused {A = Cursor} kind.YamlForm p ≡ Err f = rw b at none in rw (b, gap, e) (cc)
  by [] b v cs more e (passes_comment _ x) = let same : refused {A = Cursor} kind.YamlForm p ≡ Err f = rw b at none in rw (b, gap, e) (cc)
  by (l ∷ ls) b v cs more e h = let no : start_of l ls ≡ Err f = rw b at none in cc

with_comments : (cs : List Comment) (x : Comment) (o : Outcome (List Comment × Cursor)) → and_then (behind_comments cs) (and_then (behind_comments (x ∷ [])) o) ≡ and_then (behind_comments (cs ++ x ∷ [])) o
with_comments cs x (Ok g) = rw append_assoc refl
with_comments cs x (Err f) = refl

-- on the line below it goes on
pub from-below : (p : Place) (fresh : Bool) (cs more : List Comment) (c d : Cursor) → Passes (look fresh c.place c.text) cs more → line_below p c ≡ Ok d → token_from p fresh cs c ≡ token_from p true more d
unfolding gap
from-below p fresh cs more c d h next = by c.below refl _ cs more refl h where
  by : (ls : List Line) → c.below ≡ ls → (v : Look) (cs more : List Comment) → look fresh c.place c.text ≡ v → Passes v cs more → token_from p fresh cs c ≡ token_from p true more d
  by [] b v cs more e h = let no : refused {A = Cursor} kind.YamlForm p ≡ Ok d = rw b at next in cc
  by (l ∷ ls) b v cs more e (passes_end _) =
      let same : start_of l ls ≡ Ok d = rw b at next in
      let there : line_start l ls ≡ d = cc in
      rw (b, gap, e, ← there) refl
  by (l ∷ ls) b v cs more e (passes_comment _ x) =
      let same : start_of l ls ≡ Ok d = rw b at next in
      let there : line_start l ls ≡ d = cc in
      rw (b, gap, e, ← there) (with_comments cs x _)

pub size-below : (p : Place) (c d : Cursor) → line_below p c ≡ Ok d → size d ≤ size c
size-below p c d next = by c.below refl where
  by : (ls : List Line) → c.below ≡ ls → size d ≤ size c
  by [] b = let no : refused {A = Cursor} kind.YamlForm p ≡ Ok d = rw b at next in absurd (cc)
  by (l ∷ ls) b =
      let same : start_of l ls ≡ Ok d = rw b at next in
      let there : line_start l ls ≡ d = cc in
      let sum = sum_by-cons (λ (k : Line). length k.text) l ls in
      rw (← there, b) (omega arith)

-- where a token stands
pub size-trimmed : (c d : Cursor) → d ≡ trimmed c → size d ≤ size c
size-trimmed c d e = rw e (omega (arith, skip_white-length c.text))
