-- Logical lines and values as the program holds them, seen as plain data.
use Rattle.std.specs.Prelude.{List, map as each, Ok, Err, option_map}
use Rattle.ytt_base.specs.View.{key_of}
use Rattle.yaml_spec.specs.Held.{plain_lines}
use Rattle.yaml_spec.specs.Noted.{Comment}
use Rattle.yaml_spec.specs.Rows as plain
use Rattle.yaml_spec.specs.Rows.{dash_mark, key_mark}
use Rattle.yaml_spec.specs.Values as read
use Rattle.yaml_noted.specs.View.{content_of, comment_of, comments_of}
use Rattle.yaml_rows.specs.declared.row.Head.{Head}
use Rattle.yaml_rows.specs.declared.row.Mark.{Mark}
use Rattle.yaml_rows.specs.declared.row.Mark.TheVariants as mark
use Rattle.yaml_rows.specs.declared.row.Row.{Row}
use Rattle.yaml_rows.specs.declared.values.Value.{Value}

abbrev pub mark_of : Mark → plain.Mark
mark_of mark.Dash = dash_mark
mark_of (mark.Key k) = key_mark (Ok (key_of k))
mark_of (mark.NoKey f) = key_mark (Err f)

abbrev pub head_of : Head → plain.Head
head_of h = record { column = h.column; has_tab = h.has_tab; mark = mark_of h.mark }

abbrev pub heads_of : List Head → List plain.Head
heads_of hs = each head_of hs

-- the row, where these comments stand before it
abbrev pub row_of : List Comment → Row → plain.Row
row_of before r = record {
  place = r.place;
  indent = r.indent;
  heads = heads_of r.heads;
  before = before;
  is_owned = r.is_owned;
  least = r.least;
  open_place = r.open_place;
  text = r.text.now;
  below = plain_lines r.below.now;
}

abbrev pub value_of : Value → read.Value
value_of v = record { content = content_of v.content; loose = comments_of v.loose; trailing = option_map comment_of v.trailing; last = v.last }
