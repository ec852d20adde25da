-- The items of the rows are those of the documents.
use Rattle.std.proofs.Common.{◌≡◌, ℕ, List, [], ◌∷◌, ◌++◌, Bool, true, false, Option, Some, None, Ok, Err, refl, ap, ◌∙◌, if◌then◌else◌}
use Rattle.std.specs.Result.{IfOk}
use Rattle.ytt_base.specs.Outcomes.{Outcome, ◌>>=◌, place_at}
use Rattle.code_spec.specs.CodeReading.{CodeReader}
use Rattle.template_spec.specs.Comments.{Said, ignored, comment_said}
use Rattle.yaml_spec.specs.Noted.{code_in}
use Rattle.template_pass.specs.Flat.{Flat, starts, trailing_of, alone}
use Rattle.template_pass.specs.Rows.{Row, Start, begins, beside, says, started, flat_started, level_of}
use Rattle.template_events.specs.Levels.{Owner}
use Rattle.template_events.specs.Hearing.{Held, and_rows, behind, goes_on, grown, held_from, let_go, rows_from, spoken}
use Rattle.template_events.proofs.Alike.{owner_at}
use Rattle.template_events.proofs.ByLevel.{all_by_level}

started-append : (rs more : List Row) → started (rs ++ more) ≡ started rs ++ started more
started-append [] more = refl
started-append (begins d k l key w ∷ rs) more = ap (λ ss. record { level = d; kind = k; line = l; key = key; written = w } ∷ ss) (started-append rs more)
started-append (beside d k b l s ∷ rs) more = started-append rs more
started-append (says l s ∷ rs) more = started-append rs more

-- the items of rows are these
abbrev pub Starts : Outcome (List Row) → List Start → Type 0
Starts o ss = IfOk o (λ rs. started rs ≡ ss)

starts_behind : (rs : List Row) (o : Outcome (List Row)) (ss : List Start) → Starts o ss → Starts (behind rs o) (started rs ++ ss)
starts_behind rs (Ok more) ss e = started-append rs more ∙ ap (λ l. started rs ++ l) e
starts_behind rs (Err f) ss e = tt

starts_both : (o p : Outcome (List Row)) (ss : List Start) → Starts o [] → Starts p ss → Starts (and_rows o p) ss
starts_both (Ok rs) (Ok more) ss e f = started-append rs more ∙ ap (λ l. l ++ started more) e ∙ f
starts_both (Ok rs) (Err g) ss e f = tt
starts_both (Err g) p ss e f = tt

no_starts : (o : Option Owner) (l : ℕ) (s : Said) → started (spoken o l s) ≡ []
no_starts o l ignored = refl
no_starts None l s = refl
no_starts (Some o) l s = refl

heard_starts : (o : Option Owner) (l : ℕ) (said : Outcome Said) → Starts (said >>= (λ s. Ok (spoken o l s))) []
heard_starts o l (Ok s) = no_starts o l s
heard_starts o l (Err f) = tt

by_test : (b : Bool) (o p : Outcome (List Row)) (ss : List Start) → Starts o ss → Starts p ss → Starts (if b then o else p) ss
by_test true o p ss e f = e
by_test false o p ss e f = f

module _ (r : CodeReader) (ignore : Bool) (file : ℕ) where
  let_go_starts : (h : Option Held) → Starts (let_go r ignore file h) []
  let_go_starts None = refl
  let_go_starts (Some h) = heard_starts h.owner h.comment.line (comment_said r ignore (place_at file h.comment.line) h.comment)

  pub rows_start : (h : Option Held) (fs : List Flat) → Starts (rows_from r ignore file h (all_by_level fs)) (flat_started fs)
  rows_start h [] = let_go_starts h
  rows_start h (starts p k l key w ∷ fs) =
      starts_both (let_go r ignore file h) (behind (begins (level_of p) k l key w ∷ []) (rows_from r ignore file None (all_by_level fs))) _ (let_go_starts h)
      (starts_behind (begins (level_of p) k l key w ∷ []) (rows_from r ignore file None (all_by_level fs)) (flat_started fs) (rows_start None fs))
  rows_start h (trailing_of p k b c ∷ fs) =
      by_test (goes_on r file h (Some (owner_at p k b)) c) (rows_from r ignore file (grown h (code_in c.text) c.line) (all_by_level fs)) _ (flat_started fs) (rows_start (grown h (code_in c.text) c.line) fs)
      (starts_both (let_go r ignore file h) (rows_from r ignore file (Some (held_from (Some (owner_at p k b)) c)) (all_by_level fs)) (flat_started fs) (let_go_starts h) (rows_start (Some (held_from (Some (owner_at p k b)) c)) fs))
  rows_start h (alone c ∷ fs) =
      by_test (goes_on r file h None c) (rows_from r ignore file (grown h (code_in c.text) c.line) (all_by_level fs)) _ (flat_started fs) (rows_start (grown h (code_in c.text) c.line) fs)
      (starts_both (let_go r ignore file h) (rows_from r ignore file (Some (held_from None c)) (all_by_level fs)) (flat_started fs) (let_go_starts h) (rows_start (Some (held_from None c)) fs))
