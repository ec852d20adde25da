-- Slots, as plain data.
use Rattle.std.specs.Prelude.{ℕ, List, map as each, option_map}
use Rattle.star_tree.specs.Whole.{expr_of}
use Rattle.template_pass.specs.Building as build
use Rattle.template_spec.specs.Template.{Notes}
use Rattle.template_tree.specs.declared.slots.Slot.{Slot}
use Rattle.template_tree.specs.Nests.{parts_of}
use Rattle.template_tree.specs.View.{notes_of}

abbrev pub slot_of : (file : ℕ) → Slot → build.Slot
slot_of file s = record { parts = parts_of file s.parts.items; value = option_map (expr_of file) s.value; notes = notes_of file s.notes }

abbrev pub slots_of : (file : ℕ) → List Slot → List build.Slot
slots_of file ss = each (slot_of file) ss

abbrev pub with_notes : Notes → build.Slot → build.Slot
with_notes ns s = record s { notes = ns }

abbrev pub same_slot : build.Slot → build.Slot
same_slot s = s
