-- The rows that are heard of the parts of documents are their events.
use Rattle.std.proofs.Common.{◌≡◌, ℕ, List, Bool, None, Result, Ok, Err, refl, sym, ap, ◌∙◌, subst, map as each}
use Rattle.ytt_laws.proofs.Yielded.{ok_same}
use Rattle.ytt_base.specs.declared.fault.Fault.{Fault}
use Rattle.ytt_base.specs.declared.fault.Stop.{Stop}
use Rattle.ytt_base.specs.declared.fault.Stop.TheVariants as stop
use Rattle.ytt_base.specs.Outcomes.{Gives, Outcome}
use Rattle.yaml_spec.specs.Noted.{Documents}
use Rattle.code_spec.specs.CodeReading.{CodeReader}
use Rattle.template_spec.specs.Events.{Event, events, heard, gathered, nothing, raw_text, none_waits, by_line}
use Rattle.template_pass.specs.Flat.{flat_text}
use Rattle.template_pass.specs.Rows.{Bare, bare_event, bare_row, Row, flat_started}
use Rattle.template_events.specs.declared.event.Row as code_row
use Rattle.template_events.specs.Heard.{Goes, HasRows, kept}
use Rattle.template_events.specs.Hearing.{rows_from}
use Rattle.template_events.specs.Levels as level
use Rattle.template_events.specs.Levels.{parts_in}
use Rattle.template_events.specs.View.{rows_of}
use Rattle.template_events.proofs.Alike.{bare_events, bare_rows, rows_alike}
use Rattle.template_events.proofs.ByLevel.{all_by_level, parts_by_level}
use Rattle.template_events.proofs.ByLine.{flat_by_line, parts_by_line, raws_by_line, started_by_line}
use Rattle.template_events.proofs.Raws.{raws_are}
use Rattle.template_events.proofs.Started.{Starts, rows_start}

err_same : (f g : Fault) → ◌≡◌ {A = Outcome (List Bare)} (Err f) (Err g) → ◌≡◌ {A = Outcome (List Event)} (Err f) (Err g)
err_same f g e = cc

module _ {A : Type 0} (rows : A → List code_row.Row) (file : ℕ) (ds : Documents) where
  has_rows : (res : Result A Stop) (es : Outcome (List Event)) (rs : Outcome (List Row)) → bare_events es ≡ bare_rows rs → Starts rs (flat_started (flat_text ds))
      → Gives (λ x. rows_of file (rows x)) res rs → HasRows rows file ds res es
  has_rows (Ok out) (Ok es) rs e s g = (
    es,
    refl,
    record {
      bare = sym (ok_same Fault (each bare_event es) (each bare_row (rows_of file (rows out))) (e ∙ ap bare_rows g));
      items = subst (λ o. Starts o (flat_started (flat_text ds))) g s;
    },
  )
  has_rows (Ok out) (Err f) rs e s g = let h : ◌≡◌ {A = Outcome (List Bare)} (Err f) (Ok (each bare_row (rows_of file (rows out)))) = e ∙ ap bare_rows g in cc
  has_rows (Err (stop.Fault f)) (Ok es) rs e s g = let h : ◌≡◌ {A = Outcome (List Bare)} (Ok (each bare_event es)) (Err f) = e ∙ ap bare_rows g in cc
  has_rows (Err (stop.Fault f)) (Err h) rs e s g = err_same h f (e ∙ ap bare_rows g)
  has_rows (Err stop.Memory) es rs e s g = tt

  pub kept_gives : (res : Result (Unit {0}) Stop) (x : A) (o : Outcome (List Row)) → Goes o res (Ok (rows_of file (rows x))) → Gives (λ y. rows_of file (rows y)) (kept res x) o
  kept_gives (Ok u) x o e = e
  kept_gives (Err (stop.Fault f)) x o e = e
  kept_gives (Err stop.Memory) x o e = tt

  pub rows_are_heard : (r : CodeReader) (ignore : Bool) (res : Result A Stop) → Gives (λ x. rows_of file (rows x)) res (rows_from r ignore file None (level.by_line None (parts_in ds)))
      → HasRows rows file ds res (events r ignore file ds)
  unfolding events
  rows_are_heard r ignore res g =
      let fs = flat_by_line none_waits (flat_text ds) in
      let parts : all_by_level fs ≡ level.by_line None (parts_in ds) = parts_by_line none_waits (flat_text ds) ∙ ap (level.by_line None) (parts_by_level ds) in
      has_rows res (heard r ignore file (gathered r file nothing (by_line none_waits (raw_text ds)))) (rows_from r ignore file None (level.by_line None (parts_in ds)))
      (ap (λ l. bare_events (heard r ignore file (gathered r file nothing l))) (sym (raws_by_line none_waits (flat_text ds) ∙ ap (by_line none_waits) (raws_are ds))) ∙ rows_alike r ignore file nothing fs
      ∙ ap (λ l. bare_rows (rows_from r ignore file None l)) parts)
      (subst (λ ss. Starts (rows_from r ignore file None (level.by_line None (parts_in ds))) ss) (started_by_line none_waits (flat_text ds))
      (subst (λ l. Starts (rows_from r ignore file None l) (flat_started fs)) parts (rows_start r ignore file None fs)))
      g
