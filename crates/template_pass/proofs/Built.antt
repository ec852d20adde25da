-- The template that is built by levels is the one that placing says, where nothing is wrong.
use Rattle.std.proofs.Common.{◌≡◌, ℕ, suc, Bool, List, [], ◌∷◌, ◌++◌, length, drop, Option, Some, None, Ok, refl, sym, ◌∙◌, ap, subst}
use Rattle.ytt_base.specs.declared.fault.Fault.{Fault}
use Rattle.yaml_spec.specs.Noted.{Documents}
use Rattle.code_spec.specs.CodeReading.{CodeReader}
use Rattle.code_spec.specs.Program.{document_item}
use Rattle.template_spec.specs.Comments.{Said, ignored, a_note, a_value, statements, opens, elif, otherwise, closes}
use Rattle.template_spec.specs.Events.{Path, Event, begins, beside, says, events}
use Rattle.template_spec.specs.Misplaced.{event_fault, holder_at, returned_at, and_sound, Sound, sound_from, return_faults, note_faults, earliest, left_open, placing_fault, reversed}
use Rattle.template_spec.specs.Nesting.{Part, marks, nest, whole, parts, template_of}
use Rattle.template_spec.specs.OpenBlocks.{next_item, open_blocks, first_of}
use Rattle.template_spec.specs.Template.{Item}
use Rattle.template_pass.specs.Building.{Put, Slot, slot_at, puts, built, template_by_levels}
use Rattle.template_pass.specs.Flat.{flat_text}
use Rattle.template_pass.specs.Laws.{TemplateIsByLevels}
use Rattle.template_pass.specs.Levels.{Open, behind, next_level}
use Rattle.template_pass.specs.Orderly.{Orderly}
use Rattle.template_pass.specs.Rows as row
use Rattle.template_pass.specs.Rows.{AreRows, Row, Start, started, flat_started, level_of}
use Rattle.template_pass.specs.Standing.{Standing, level_at, row_of}
use Rattle.template_pass.proofs.ByPath.{PathPut, slot_of}
use Rattle.template_pass.proofs.Counted.{latest_none}
use Rattle.template_pass.proofs.EventPuts.{place_of, level_place, path_puts, puts_by_path, puts_ordered, rows_of, rows_same, Stands, MarksStand}
use Rattle.template_pass.proofs.OrderlyEvents.{events_orderly}
use Rattle.template_pass.proofs.Paths.{in_itself, lain}
use Rattle.template_pass.proofs.Settled.{begun_in, nodes_in, settled}
use Rattle.template_pass.proofs.SlotsByPath.{slots_by_path}
use Rattle.template_pass.proofs.Standing.{belongs_in, belongs_level, innermost_in, innermost_level, standing_first, standing_step}
use Rattle.template_pass.proofs.TextItems.{text_items, events_beside}
use Rattle.template_pass.proofs.Trees.{slot_parts}
use Rattle.template_pass.proofs.Woven.{weave, woven}

-- ---- nothing is wrong

-- no event is wrong where it stands
abbrev pub NoneWrong : (file : ℕ) → (past : List Event) → List Event → Type 0
NoneWrong file past [] = Unit {0}
NoneWrong file past (e ∷ es) = (event_fault file past e es ≡ None) × NoneWrong file (e ∷ past) es

pub none_wrong : (file : ℕ) (past es : List Event) → (sound_from file past es).stop ≡ [] → NoneWrong file past es
none_wrong file past [] h = tt
none_wrong file past (e ∷ es) h = by (event_fault file past e es) refl h (none_wrong file (e ∷ past) es)
  where
    by : (o : Option Fault) → event_fault file past e es ≡ o →
        (elim o as (λ _. Sound) [
          | Some f ↦ record { holders = []; returned = returned_at past e es; stop = f ∷ [] }
          | None ↦ and_sound (holder_at past e) (returned_at past e es) (sound_from file (e ∷ past) es)
        ]).stop ≡ [] →
        ((sound_from file (e ∷ past) es).stop ≡ [] → NoneWrong file (e ∷ past) es) → (event_fault file past e es ≡ None) × NoneWrong file (e ∷ past) es
    by None g h up = (g, up h)
    by (Some f) g h up = absurd (let x : f ∷ [] ≡ [] = h in cc x)

pub front_none : (fs gs : List Fault) (o : Option Fault) → first_of (earliest (fs ++ gs)) o ≡ None → fs ≡ []
front_none [] gs o h = refl
front_none (f ∷ fs) gs o h = cc h

pub nothing_stops : (file : ℕ) (es : List Event) → placing_fault file es ≡ None → NoneWrong file [] es
unfolding placing_fault
nothing_stops file es h =
    none_wrong file [] es
    (front_none (sound_from file [] es).stop (return_faults (sound_from file [] es).holders (sound_from file [] es).returned ++ note_faults file es)
    (left_open file (open_blocks (reversed es []) None)) h)

-- ---- each mark stands at its level

next_by_level : (es : List Event) (ss : List Start) → next_level (rows_of es ss) ≡ level_at (next_item es)
next_by_level [] ss = refl
next_by_level (begins p k l ∷ es) ss = refl
next_by_level (beside p k b l s ∷ es) ss = next_by_level es ss
next_by_level (says l s ∷ es) ss = next_by_level es ss

said_stands : (q : Path) (past es : List Event) (bs : List Open) (s : Said) → Standing q past (next_item es) bs → Stands q (place_of past es s) (level_place bs (level_at (next_item es)) s)
said_stands q past es bs ignored h = tt
said_stands q past es bs (a_note x vs) h = tt
said_stands q past es bs (a_value e) h = tt
said_stands q past es bs (statements is) h = (lain q _ (belongs_in q past (next_item es) bs h), sym (belongs_level q past (next_item es) bs h))
said_stands q past es bs (opens x z) h = (lain q _ (belongs_in q past (next_item es) bs h), sym (belongs_level q past (next_item es) bs h))
said_stands q past es bs (elif e) h = (lain q _ (innermost_in q past (next_item es) bs h), sym (innermost_level q past (next_item es) bs h))
said_stands q past es bs otherwise h = (lain q _ (innermost_in q past (next_item es) bs h), sym (innermost_level q past (next_item es) bs h))
said_stands q past es bs closes h = (lain q _ (innermost_in q past (next_item es) bs h), sym (innermost_level q past (next_item es) bs h))

pub marks_stand : (file : ℕ) (q : Path) (past es : List Event) (ss : List Start) (bs : List Open) → Standing q past (next_item es) bs → NoneWrong file past es → Orderly q past es →
    MarksStand q past bs (length past) es (rows_of es ss)
marks_stand file q past [] ss bs s w o = tt
marks_stand file q past (begins p k l ∷ es) ss bs s w o =
    subst (λ (n : Option ℕ). MarksStand p (begins p k l ∷ past) (behind bs n (length past) (row_of (begins p k l))) (suc (length past)) es (rows_of es (drop 1 ss))) (sym (next_by_level es (drop 1 ss)))
    (marks_stand file p (begins p k l ∷ past) es (drop 1 ss) (behind bs (level_at (next_item es)) (length past) (row_of (begins p k l))) (standing_step file q past (begins p k l) es bs s w.0 o) w.1 o.2)
marks_stand file q past (beside p k b l t ∷ es) ss bs s w o =
    marks_stand file q (beside p k b l t ∷ past) es ss bs (standing_step file q past (beside p k b l t) es bs s w.0 o) w.1 o
marks_stand file q past (says l t ∷ es) ss bs s w o =
    subst (λ (n : Option ℕ). Stands q (place_of past es t) (level_place bs n t) × MarksStand q (says l t ∷ past) (behind bs n (length past) (row.says l t)) (suc (length past)) es (rows_of es ss))
    (sym (next_by_level es ss)) (
      said_stands q past es bs t s,
      marks_stand file q (says l t ∷ past) es ss (behind bs (level_at (next_item es)) (length past) (row.says l t)) (standing_step file q past (says l t) es bs s w.0 o) w.1 o,
    )

-- ---- the template

module _ (r : CodeReader) (ignore : Bool) (file : ℕ) (ds : Documents) (es : List Event) (ss : List Start)
    (h : events r ignore file ds ≡ Ok es) (items : started (rows_of es ss) ≡ flat_started (flat_text ds)) (sound : placing_fault file es ≡ None) where
  all : List PathPut
  all = path_puts [] [] es ss

  orderly : Orderly [] [] es
  orderly = events_orderly r ignore file ds es h

  stand : MarksStand [] [] [] 0 es (rows_of es ss)
  stand = marks_stand file [] [] es ss [] (standing_first es orderly) (nothing_stops file es sound) orderly

  wove : (c : Path) → (slot_of file c all).parts ≡ weave c 0 (marks [] es) (nodes_in file es all c (begun_in es ss))
  unfolding all
  wove c =
      woven file c [] [] es ss
      ∙ ap (λ (xs : List Item). weave c 0 (marks [] es) xs)
      (settled file c [] [] es [] 0 [] es ss es ss latest_none stand (events_beside r ignore file ds es h) orderly (λ p g. refl) (λ p g. refl) (λ more. refl))

  parts_built : (slot_at 0 (built file (puts [] 0 [] (rows_of es ss)))).parts ≡ parts file es document_item [] 0 ds.items
  unfolding all
  parts_built =
      ap (λ (x : List Put). (slot_at 0 (built file x)).parts) (puts_by_path [] [] [] 0 [] es ss stand)
      ∙ ap (λ (s : Slot). s.parts)
      (slots_by_path file [] [] all (puts_ordered [] [] [] [] 0 [] es ss (λ c. refl) stand (events_beside r ignore file ds es h) orderly) latest_none [] (in_itself []))
      ∙ slot_parts file es all (begun_in es ss) wove document_item [] ds.items (text_items r ignore file ds es ss h items)

  -- what is put into the list of documents is what stands in it
  pub parts_by_path : (slot_of file [] (path_puts [] [] es ss)).parts ≡ parts file es document_item [] 0 ds.items
  unfolding all
  parts_by_path = slot_parts file es all (begun_in es ss) wove document_item [] ds.items (text_items r ignore file ds es ss h items)

  template_built : template_by_levels file (rows_of es ss) ≡ template_of file es ds.items
  unfolding template_by_levels
  template_built = ap (λ (ps : List Part). whole (nest file document_item ps)) parts_built

pub template-by_levels : TemplateIsByLevels
template-by_levels r ignore file ds es rs h a f =
    let same : rs ≡ rows_of es (started rs) = rows_same es rs a.bare in
    ap (λ (x : List Row). template_by_levels file x) same ∙ template_built r ignore file ds es (started rs) h (ap started (sym same) ∙ a.items) f
