-- What follows `...`.
use Rattle.std.proofs.Common.{◌≡◌, ℕ, true, false, ◌==◌, List, [], ◌∷◌, ◌++◌, drop, Option, Some, None, Ok, refl, sym, ap, append_assoc}
use Rattle.ytt_base.specs.declared.fault.FaultKind.TheVariants as kind
use Rattle.ytt_base.specs.Outcomes.{Outcome, ◌>>=◌}
use Rattle.yaml_spec.specs.Bytes.{hash, first, is_empty, skip_white}
use Rattle.yaml_spec.specs.Lines.{Line}
use Rattle.yaml_spec.specs.Noted.{Comment, is_note}
use Rattle.yaml_spec.specs.Read.{Segment, comments_of, ended, first_content, outside}
use Rattle.yaml_spec.specs.Refusals.{refused}
use Rattle.yaml_read.specs.Between.{ended_behind, only_comments}

abbrev pub text_behind : Segment → List ℕ
text_behind s = skip_white (drop 3 s.marker.text)

-- the comments of the marker's line and of the lines below, where these have no content
rest : (o : Option Line) (before ks cs : List Comment) → (elim o as (λ _. Outcome (List Comment)) [ Some l ↦ outside l | None ↦ Ok (ks ++ cs) ] >>= (λ ds. Ok (before ++ ds)))
    ≡ elim o as (λ _. Outcome (List Comment)) [ Some l ↦ outside l | None ↦ Ok ((before ++ ks) ++ cs) ]
rest (Some l) before ks cs = refl
rest None before ks cs = ap Ok (sym (append_assoc before ks cs))

pub ended_blank : (before : List Comment) (s : Segment) → is_empty (text_behind s) ≡ true → ended_behind before s ≡ only_comments before s.lines
unfolding ended
ended_blank before s e = rw (e, ended) (by (first_content s.lines)) where
  by : (o : Option Line) → (elim o as (λ _. Outcome (List Comment)) [ Some l ↦ outside l | None ↦ Ok (comments_of s.lines) ] >>= (λ ds. Ok (before ++ ds)))
      ≡ elim o as (λ _. Outcome (List Comment)) [ Some l ↦ outside l | None ↦ Ok (before ++ comments_of s.lines) ]
  by (Some l) = refl
  by None = refl

pub ended_form : (before : List Comment) (s : Segment) → is_empty (text_behind s) ≡ false → (first (text_behind s) == hash) ≡ false → ended_behind before s ≡ refused kind.YamlForm s.marker.place
unfolding ended
ended_form before s e f = rw (e, ended, f) refl

pub ended_note : (before : List Comment) (s : Segment) → is_empty (text_behind s) ≡ false → (first (text_behind s) == hash) ≡ true → is_note (text_behind s) ≡ true → ended_behind before s ≡ refused kind.YamlOut s.marker.place
unfolding ended
ended_note before s e f g = rw (e, ended, f, g) refl

pub ended_comment : (before : List Comment) (s : Segment) → is_empty (text_behind s) ≡ false → (first (text_behind s) == hash) ≡ true → is_note (text_behind s) ≡ false
    → ended_behind before s ≡ only_comments (before ++ record { line = s.marker.place.line; own_line = false; text = text_behind s } ∷ []) s.lines
unfolding ended
ended_comment before s e f g = rw (e, ended, f, g) (rest (first_content s.lines) before (record { line = s.marker.place.line; own_line = false; text = text_behind s } ∷ []) (comments_of s.lines))
