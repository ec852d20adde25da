-- Open blocks, and what a row begins, seen as plain data.
use Rattle.std.specs.Prelude.{ℕ, List, map as each, Option, Some, None, option_map, false}
use Rattle.ytt_base.specs.View.{key_of}
use Rattle.yaml_pass.specs.Machine as machine
use Rattle.yaml_pass.specs.Machine.{Hole, wanting, filled}
use Rattle.yaml_noted.specs.View.{content_of, comment_of, comments_of, noted_of, Noted}
use Rattle.yaml_noted.specs.declared.noted.NotedItem.{NotedItem}
use Rattle.yaml_spec.specs.Entries as plain
use Rattle.yaml_spec.specs.Noted as noted
use Rattle.yaml_spec.specs.Noted.{Comment}
use Rattle.yaml_entries.specs.declared.frames.Begun.{Begun}
use Rattle.yaml_entries.specs.declared.frames.Extent.{Extent}
use Rattle.yaml_entries.specs.declared.frames.Found.{Found}
use Rattle.yaml_entries.specs.declared.frames.Frame.{Frame}
use Rattle.yaml_entries.specs.declared.frames.Note.{Note}
use Rattle.yaml_entries.specs.declared.frames.Opened.{Opened}
use Rattle.yaml_entries.specs.declared.frames.Started.{Started}

abbrev pub found_of : Found → plain.Found
found_of f = (content_of f.content, option_map comment_of f.trailing)

abbrev pub hole_of : Option Found → Hole
hole_of None = wanting
hole_of (Some f) = filled (found_of f)

abbrev pub note_of : Note → noted.Note
note_of n = record { place = n.place; key = option_map key_of n.key; before = comments_of n.before; trailing = option_map comment_of n.trailing; flow = false }

abbrev pub done_of : List NotedItem → List Noted
done_of is = each noted_of is

abbrev pub frame_of : Frame → machine.Frame
frame_of f = record { left = f.left; indent = f.indent; is_list = f.is_list; done = done_of f.done; note = note_of f.note }

abbrev pub frames_of : List Frame → List machine.Frame
frames_of fs = each frame_of fs

-- the further lines that a row takes, and the comments that it leaves
abbrev pub extent_of : Extent → ℕ × List Comment
extent_of e = (e.skip, comments_of e.loose)

abbrev pub started_of : Started → Option Comment × Hole
started_of s = (option_map comment_of s.trailing, hole_of s.hole)

abbrev pub opened_of : Opened → List machine.Frame × Hole
opened_of o = (frames_of o.frames, hole_of o.hole)

abbrev pub begun_of : Begun → machine.Begun
begun_of b = (note_of b.note, frames_of b.inner.frames, hole_of b.inner.hole)
