-- Documents with a marker.
use Rattle.std.proofs.Common.{◌≡◌, ℕ, ◌-◌, true, false, List, [], ◌∷◌, Some, None, Ok, Err, refl, sym, ap, ◌∙◌}
use Rattle.ytt_base.specs.Outcomes.{Outcome, ◌>>=◌}
use Rattle.ytt_base.specs.Trees.{max_depth}
use Rattle.yaml_spec.specs.Noted.{Comment, Note}
use Rattle.yaml_spec.specs.Values.{Value}
use Rattle.yaml_spec.specs.Rows.{Head, Row, has_value, row_value, rows, taken}
use Rattle.yaml_spec.specs.Entries.{Doc, Found, content_of, over, row_comment}
use Rattle.yaml_spec.specs.Read.{Segment, document_content, document_note, explicit, marker_row, rows_behind}
use Rattle.yaml_pass.specs.Machine.{Passed, filled, pass, run, wanting}
use Rattle.yaml_pass.proofs.Pass.{pass-content_of, pass-from, with_comments}
use Rattle.yaml_read.specs.Documents.{Part, explicit_part, passed_behind}

-- what is left of a document behind its value
abbrev pub pass_on : Segment → Row → Value → Outcome Passed
pass_on s r v = pass s.stop false (v.last - r.place.line) 0 v.loose [] (filled (v.content, v.trailing)) s.lines

none_follow : (f : Found) (rs : List Row) → over f rs ≡ run max_depth [] (filled f) rs
none_follow f [] = refl
none_follow f (r ∷ rs) = refl

abbrev extent : Row → Value → Outcome (ℕ × List Comment)
extent r v = Ok (v.last - r.place.line, v.loose)

taken_by : (r : Row) → has_value r ≡ true → taken r ≡ (row_value max_depth r >>= extent r)
unfolding taken
taken_by r h = rw (h, taken) refl

abbrev follow : Segment → Row → Outcome (ℕ × List Comment) → List Row × List Comment
follow s r t = elim t as (λ _. List Row × List Comment) [
  | Ok e ↦ (r ∷ (rows s.stop false e.0 0 e.1 s.lines).0, (rows s.stop false e.0 0 e.1 s.lines).1)
  | Err e ↦ (r ∷ [], [])
]

first_row : (r : Row) (rs : List Row) → r.heads ≡ [] → document_content (r ∷ rs) ≡ (row_value max_depth r >>= (λ v. over (v.content, v.trailing) rs))
unfolding content_of
first_row r rs h = by r.heads h where
  by : (heads : List Head) → heads ≡ [] → elim heads as (λ _. Outcome Found) [
    | [] ↦ row_value max_depth r >>= (λ v. over (v.content, v.trailing) rs)
    | h ∷ hs ↦ Doc max_depth r.indent r rs >>= (λ c. Ok (c, None))
  ] ≡ (row_value max_depth r >>= (λ v. over (v.content, v.trailing) rs))
  by [] e = refl
  by (x ∷ xs) e = cc

abbrev passed_rows : List Row × List Comment → Outcome Passed
passed_rows rs = document_content rs.0 >>= (λ f. Ok (f, rs.1))

-- a document that begins behind its marker goes on as the pass does
pub behind_passes : (s : Segment) (r : Row) → r.heads ≡ [] → has_value r ≡ true → passed_behind s r ≡ (row_value max_depth r >>= pass_on s r)
behind_passes s r none h = ap (λ t. passed_rows (follow s r t)) (taken_by r h) ∙ by (row_value max_depth r) refl where
  by : (o : Outcome Value) → row_value max_depth r ≡ o → passed_rows (follow s r (o >>= extent r)) ≡ (o >>= pass_on s r)
  by (Err e) q = ap (λ c. c >>= (λ f. Ok (f, []))) (first_row r [] none) ∙ ap (λ (c : Outcome Value). c >>= (λ v. over (v.content, v.trailing) []) >>= (λ f. Ok (f, []))) q
  by (Ok v) q =
      let more = rows s.stop false (v.last - r.place.line) 0 v.loose s.lines in
      ap (λ c. c >>= (λ f. Ok (f, more.1))) (first_row r more.0 none)
      ∙ ap (λ (c : Outcome Value). c >>= (λ v. over (v.content, v.trailing) more.0) >>= (λ f. Ok (f, more.1))) q
      ∙ ap (λ c. c >>= with_comments more.1) (none_follow (v.content, v.trailing) more.0)
      ∙ sym (pass-from s.stop false (v.last - r.place.line) 0 v.loose (filled (v.content, v.trailing)) s.lines)

-- ---- the document

abbrev pub with_value : List Comment → Segment → Passed → Outcome Part
with_value before s p = let r = marker_row s in Ok (Some (document_note r.place before p.0.1, p.0.0), p.1)

abbrev pub without_value : List Comment → Segment → Passed → Outcome Part
without_value before s p = let r = marker_row s in Ok (Some (document_note r.place before (row_comment r), p.0.0), p.1)

abbrev Explicit : Type 0
Explicit = Note × Found × List Comment

abbrev to_part : Explicit → Outcome Part
to_part d = Ok (Some (d.0, d.1.0), d.2)

abbrev tag_with : List Comment → Segment → List Comment → Found → Outcome Explicit
tag_with before s cs f = Ok (document_note (marker_row s).place before f.1, f, cs)

abbrev tag_without : List Comment → Segment → List Comment → Found → Outcome Explicit
tag_without before s cs f = Ok (document_note (marker_row s).place before (row_comment (marker_row s)), f, cs)

pub explicit_with : (before : List Comment) (s : Segment) → has_value (marker_row s) ≡ true → explicit_part before s ≡ (passed_behind s (marker_row s) >>= with_value before s)
unfolding explicit_part explicit
explicit_with before s h =
    let rs = rows_behind s (marker_row s) in
    rw (h, explicit_part, explicit) (by rs.1 (document_content rs.0)) where
      by : (cs : List Comment) (o : Outcome Found) → (o >>= tag_with before s cs >>= to_part) ≡ (o >>= with_comments cs >>= with_value before s)
      by cs (Ok f) = refl
      by cs (Err e) = refl

pub explicit_without : (before : List Comment) (s : Segment) → has_value (marker_row s) ≡ false → explicit_part before s ≡ (pass s.stop false 0 0 [] [] wanting s.lines >>= without_value before s)
unfolding explicit_part explicit
explicit_without before s h =
    let rs = rows s.stop false 0 0 [] s.lines in
    rw (h, explicit_part, explicit) (by rs.1 (document_content rs.0) ∙ ap (λ o. o >>= without_value before s) (sym (pass-content_of s.stop false [] s.lines))) where
      by : (cs : List Comment) (o : Outcome Found) → (o >>= tag_without before s cs >>= to_part) ≡ (o >>= with_comments cs >>= without_value before s)
      by cs (Ok f) = refl
      by cs (Err e) = refl
