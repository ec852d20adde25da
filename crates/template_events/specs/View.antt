-- Items, comments and rows as plain data.
use Rattle.std.specs.Prelude.{ℕ, List, [], ◌∷◌, map as each, Option, Some, None, option_map, string_bytes}
use Rattle.ytt_base.specs.View.{key_of, tree_of}
use Rattle.yaml_spec.specs.Noted.{Comment}
use Rattle.yaml_noted.specs.View.{comment_of}
use Rattle.star_tree.specs.View.{item_kind_of}
use Rattle.notes_read.specs.View.{said_of}
use Rattle.template_events.specs.declared.event.Owner.{Owner}
use Rattle.template_events.specs.declared.event.Row.{Row}
use Rattle.template_events.specs.declared.event.Row.TheVariants as row
use Rattle.template_events.specs.declared.event.Start.{Start}
use Rattle.template_events.specs.declared.event.Written.{Written}
use Rattle.template_events.specs.declared.event.Written.TheVariants as written
use Rattle.template_events.specs.declared.gather.Held.{Held}
use Rattle.template_events.specs.declared.hear.Waiting.{Waiting}
use Rattle.template_events.specs.declared.kept.Kept.{Kept}
use Rattle.template_events.specs.declared.kept.Kept.TheVariants as kept
use Rattle.template_events.specs.declared.longer.Longer.{Longer}
use Rattle.template_pass.specs.Flat.{Shape, a_scalar, a_map, a_list}
use Rattle.template_pass.specs.Rows as plain
use Rattle.template_events.specs.Levels as level
use Rattle.template_events.specs.Hearing as hearing

abbrev pub shape_of : Written → Shape
shape_of (written.Scalar t) = a_scalar (tree_of t)
shape_of written.Map = a_map
shape_of written.List = a_list

abbrev pub owner_of : Owner → level.Owner
owner_of o = record { level = o.level; kind = item_kind_of o.kind; is_collection = o.is_collection }

abbrev pub start_of : Start → level.Part
start_of s = level.starts s.level (item_kind_of s.kind) s.line (option_map key_of s.key) (shape_of s.written)

abbrev pub longer_of : Longer → Comment
longer_of l = record { line = l.line; own_line = l.own_line; text = string_bytes l.text }

abbrev pub kept_of : Kept → Comment
kept_of (kept.Read c) = comment_of c.now
kept_of (kept.Longer l) = longer_of l

abbrev pub held_by : Held → hearing.Held
held_by h = record { owner = option_map owner_of h.owner; comment = kept_of h.comment; last = h.last }

abbrev pub held_of : Option Held → Option hearing.Held
held_of h = option_map held_by h

abbrev pub waiting_of : Option Waiting → Option level.Waiting
waiting_of w = option_map (λ w. record { owner = owner_of w.owner; comment = comment_of w.comment.now }) w

abbrev pub row_of : (file : ℕ) → Row → plain.Row
row_of file (row.Begins s) = plain.begins s.level (item_kind_of s.kind) s.line (option_map key_of s.key) (shape_of s.written)
row_of file (row.Beside d k b l c) = plain.beside d (item_kind_of k) b l (said_of file c)
row_of file (row.Says l c) = plain.says l (said_of file c)

abbrev pub rows_of : (file : ℕ) → List Row → List plain.Row
rows_of file rs = each (row_of file) rs

-- one row, or none
abbrev pub rows_in : (file : ℕ) → Option Row → List plain.Row
rows_in file None = []
rows_in file (Some r) = row_of file r ∷ []
