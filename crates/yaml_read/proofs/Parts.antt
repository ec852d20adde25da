-- A part of a text by what stands there.
use Rattle.std.proofs.Common.{◌≡◌, ℕ, Bool, true, false, ◌==◌, List, [], ◌++◌, Some, None, Ok, Err, refl, sym, ap, ◌∙◌}
use Rattle.ytt_base.specs.declared.fault.FaultKind.TheVariants as kind
use Rattle.ytt_base.specs.Outcomes.{Outcome, ◌>>=◌}
use Rattle.yaml_spec.specs.Bytes.{first, percent}
use Rattle.yaml_spec.specs.Lines.{Line}
use Rattle.yaml_spec.specs.Noted.{Comment}
use Rattle.yaml_spec.specs.Entries.{Found}
use Rattle.yaml_spec.specs.Read.{Segment, comments_of, document_content, document_note, ended, first_content, is_start}
use Rattle.yaml_spec.specs.Refusals.{refused}
use Rattle.yaml_spec.specs.Rows.{rows}
use Rattle.yaml_pass.specs.Machine.{Passed, pass, wanting}
use Rattle.yaml_pass.proofs.Pass.{pass-content_of, with_comments}
use Rattle.yaml_read.specs.Between.{ended_behind}
use Rattle.yaml_read.specs.Documents.{Part, explicit_part, front_part, segment_part}

-- ---- a marker and the lines below it

pub part_start : (is_closed : Bool) (before : List Comment) (s : Segment) → is_start s.marker ≡ true → segment_part is_closed before s ≡ explicit_part before s
unfolding segment_part
part_start is_closed before s e = rw (e, segment_part) refl

pub part_closed : (before : List Comment) (s : Segment) → is_start s.marker ≡ false → segment_part true before s ≡ refused kind.YamlForm s.marker.place
unfolding segment_part
part_closed before s e = rw (e, segment_part) refl

abbrev pub no_document : List Comment → Outcome Part
no_document cs = Ok (None, cs)

pub part_ended : (before : List Comment) (s : Segment) → is_start s.marker ≡ false → segment_part false before s ≡ (ended_behind before s >>= no_document)
unfolding segment_part
part_ended before s e = rw (e, segment_part) (by (ended s)) where
  by : (o : Outcome (List Comment)) → (o >>= (λ cs. no_document (before ++ cs))) ≡ (o >>= (λ cs. Ok (before ++ cs)) >>= no_document)
  by (Ok cs) = refl
  by (Err f) = refl

-- ---- the lines before the first marker

pub front_none : (front : List Line) (stop : ℕ) → first_content front ≡ None → front_part front stop ≡ Ok (None, comments_of front)
unfolding front_part
front_none front stop e = rw (e, front_part) refl

pub front_out : (front : List Line) (stop : ℕ) (l : Line) → first_content front ≡ Some l → (first l.text == percent) ≡ true → front_part front stop ≡ refused kind.YamlOut l.place
unfolding front_part
front_out front stop l e f = rw (e, front_part, f) refl

abbrev pub front_document : Line → Passed → Outcome Part
front_document l p = Ok (Some (document_note l.place [] p.0.1, p.0.0), p.1)

pub front_content : (front : List Line) (stop : ℕ) (l : Line) → first_content front ≡ Some l → (first l.text == percent) ≡ false
    → front_part front stop ≡ (pass stop true 0 0 [] [] wanting front >>= front_document l)
unfolding front_part
front_content front stop l e f =
    let rs = rows stop true 0 0 [] front in
    rw (e, front_part, f) (by rs.1 (document_content rs.0) ∙ ap (λ o. o >>= front_document l) (sym (pass-content_of stop true [] front))) where
      by : (cs : List Comment) (o : Outcome Found) → (o >>= (λ f. front_document l (f, cs))) ≡ (o >>= with_comments cs >>= front_document l)
      by cs (Ok f) = refl
      by cs (Err e) = refl
