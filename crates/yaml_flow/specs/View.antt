-- Nodes in brackets as the program holds them, seen as plain data.
use Rattle.std.specs.Prelude.{Bool, List, [], ◌∷◌, ◌++◌, Option, Some, None, option_map}
use Rattle.ytt_base.specs.declared.tree.Key.{Key}
use Rattle.ytt_base.specs.Trees.{Scalar}
use Rattle.ytt_base.specs.View.{key_of}
use Rattle.yaml_flow.specs.declared.member.Start as member
use Rattle.yaml_flow.specs.declared.flow.Turn as flow
use Rattle.yaml_flow.specs.declared.looks.Look as held
use Rattle.yaml_flow.specs.declared.looks.Look.TheVariants as look
use Rattle.yaml_flow.specs.Members.{Member, Start, Turn}
use Rattle.yaml_noted.specs.declared.noted.Content.{Content}
use Rattle.yaml_noted.specs.declared.noted.RawComment.{RawComment}
use Rattle.yaml_noted.specs.declared.noted.NotedItem.{NotedItem}
use Rattle.yaml_noted.specs.View.{content_of, comment_of, comments_of, items_of, noted_of}
use Rattle.yaml_spec.specs.Flow.{Look, line_over, comment, note_comment, token, Members, Node}
use Rattle.yaml_spec.specs.Noted.{Comment}
use Rattle.yaml_spec.specs.Quotes as plain
use Rattle.yaml_text.specs.declared.cursor.Cursor.{Cursor}
use Rattle.yaml_text.specs.View.{cursor_of}

-- the content, the comments that no item of it has, and the place behind it
abbrev pub node_of : Content × List RawComment × Cursor → Node
node_of n = (content_of n.0, comments_of n.1, cursor_of n.2)

-- what stands at a place between tokens
abbrev pub look_of : held.Look → Look
look_of look.LineOver = line_over
look_of (look.Comment c) = comment (comment_of c)
look_of look.NoteComment = note_comment
look_of look.Token = token

-- comments, and the place behind them
abbrev pub comments_and_place : List RawComment × Cursor → List Comment × plain.Cursor
comments_and_place g = (comments_of g.0, cursor_of g.1)

-- a key, whether it is in quotes, and the place behind it
abbrev pub key_and_place : Key × Bool × Cursor → Scalar × Bool × plain.Cursor
key_and_place k = (key_of k.0, k.1, cursor_of k.2)

-- whether a value is there, the comments before it, and its place
abbrev pub value_start : Bool × List RawComment × Cursor → Bool × List Comment × plain.Cursor
value_start v = (v.0, comments_of v.1, cursor_of v.2)

-- whether a member was the last, the comments behind it, and the place behind its mark
abbrev pub end_of : Bool × List RawComment × Cursor → Bool × List Comment × plain.Cursor
end_of e = (e.0, comments_of e.1, cursor_of e.2)

-- where the node of a member begins
abbrev pub start_of : member.Start → Start
start_of s = record { key = option_map key_of s.key; has_node = s.has_node; comments = comments_of s.comments; here = cursor_of s.cursor }

-- an item, the comments in it that no item has, and the place behind it
abbrev pub member_of : NotedItem × List RawComment × Cursor → Member
member_of m = (noted_of m.0, comments_of m.1, cursor_of m.2)

-- items, the comments behind them, and the place behind their closing bracket
abbrev pub members_of : List NotedItem × List RawComment × Cursor → Members
members_of m = (items_of m.0, comments_of m.1, cursor_of m.2)

-- what stands before the next mark
abbrev pub turn_of : flow.Turn → Turn
turn_of t = record { found = option_map noted_of t.item; is_over = t.is_over; comments = comments_of t.comments; here = cursor_of t.cursor }

-- the items with one behind them, if there is one
abbrev pub with_some : List NotedItem → Option NotedItem → List NotedItem
with_some is None = is
with_some is (Some i) = is ++ i ∷ []
