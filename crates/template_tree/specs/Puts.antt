-- What rows put, as plain data.
use Rattle.std.specs.Prelude.{◌≡◌, ℕ, List, ◌∷◌, ◌++◌, reverse, map as each, option_map}
use Rattle.ytt_base.specs.View.{key_of}
use Rattle.star_tree.specs.View.{item_kind_of}
use Rattle.star_tree.specs.Whole.{exprs_of}
use Rattle.notes_read.specs.View.{said_of}
use Rattle.template_events.specs.View.{rows_of, shape_of}
use Rattle.template_events.specs.declared.event.Row.{Row}
use Rattle.template_pass.specs.Building as build
use Rattle.template_tree.specs.Marked.{puts_at}
use Rattle.template_tree.specs.declared.put.Put.{Put}
use Rattle.template_tree.specs.declared.put.Put.TheVariants as put
use Rattle.template_tree.specs.declared.tree.TNote.{TNote}

abbrev pub before_of : (file : ℕ) → TNote → build.Before
before_of file n = record { line = n.line; name = n.name; arguments = exprs_of file n.args }

abbrev pub befores_of : (file : ℕ) → List TNote → List build.Before
befores_of file ns = each (before_of file) ns

abbrev pub put_of : (file : ℕ) → Put → build.Put
put_of file (put.Item s ns) = build.an_item s.level (item_kind_of s.kind) s.line (option_map key_of s.key) (shape_of s.written) (befores_of file ns)
put_of file (put.Beside d l c) = build.put_beside d l (said_of file c)
put_of file (put.Mark d l c) = build.put_mark d l (said_of file c)

abbrev pub puts_of : (file : ℕ) → List Put → List build.Put
puts_of file ps = each (put_of file) ps

-- the next row's puts and what those that are left put, the first row last, are what they put together
abbrev pub PutNext : (level : ℕ) → (left left2 : List Row) → (waiting waiting2 : List TNote) → (puts puts2 : List Put) → Type 0
PutNext d left left2 ns ns2 ps ps2 =
    (file : ℕ) (ds : List ℕ) → puts_of file ps2 ++ puts_at ds (befores_of file ns2) (rows_of file (reverse left2)) ≡ puts_of file ps ++ puts_at (d ∷ ds) (befores_of file ns) (rows_of file (reverse left))
