-- Lists and maps in brackets, read member by member.
use Rattle.std.specs.Prelude.{ℕ, zero, suc, Bool, true, false, not, ◌&&◌, ◌||◌, ◌==◌, if◌then◌else◌, List, [], ◌∷◌, ◌++◌, Option, Some, None, Ok}
use Rattle.ytt_base.specs.declared.fault.FaultKind.TheVariants as kind
use Rattle.ytt_base.specs.declared.fault.Place.{Place}
use Rattle.ytt_base.specs.Trees.{Scalar, null, string, scalar}
use Rattle.ytt_base.specs.Outcomes.{Outcome, and_then, ◌>>=◌}
use Rattle.yaml_plain.specs.Trees.{as_tree}
use Rattle.yaml_spec.specs.Bytes.{comma, right_brace, right_bracket, first, skip_white}
use Rattle.yaml_spec.specs.Flow.{gap, next_token, flow_key, is_key_end, is_single_pair, Members, Node}
use Rattle.yaml_spec.specs.Plain.{behind, plain_key, plain_lines, typed}
use Rattle.yaml_spec.specs.Lines.{Line}
use Rattle.yaml_spec.specs.Noted.{Comment, Content, Items, Note, item, no_items, noted_list, noted_map, noted_scalar}
use Rattle.yaml_spec.specs.Quotes.{Cursor, after, Quote, quote_on_line}
use Rattle.yaml_spec.specs.Refusals.{refused}

-- the start of the line below
abbrev pub line_below : Place → Cursor → Outcome Cursor
line_below open_place c = first_of c.below where
  first_of : List Line → Outcome Cursor
  first_of [] = refused kind.YamlForm open_place
  first_of (l ∷ ls) = Ok (record { place = l.place; text = l.text; below = ls })

-- the place without the white space at its start
abbrev pub trimmed : Cursor → Cursor
trimmed c = record c { text = skip_white c.text }

-- the next token where `fresh` says that a line starts here, with the comments before it behind those that stood there already
abbrev pub token_from : Place → Bool → List Comment → Cursor → Outcome (List Comment × Cursor)
token_from open_place fresh comments c = gap open_place fresh c.place c.text c.below >>= (λ g. Ok (comments ++ g.0, g.1))

-- the next token, with the comments before it behind those that stood there already
abbrev pub token_behind : Place → List Comment → Cursor → Outcome (List Comment × Cursor)
token_behind open_place comments c = next_token open_place c >>= (λ g. Ok (comments ++ g.0, g.1))

-- a key, whether it is in quotes, and the place behind it
abbrev pub Key_and_place : Type 0
Key_and_place = Scalar × Bool × Cursor

-- the key in quotes that begins here
abbrev pub quoted_key_at : Cursor → Outcome Key_and_place
quoted_key_at c = elim (quote_on_line c.text) [ Some q ↦ Ok (string q.0, true, record c { text = q.1 }) | None ↦ refused kind.YamlForm c.place ]

-- the plain key that begins here
abbrev pub plain_key_at : Cursor → Outcome Key_and_place
plain_key_at c = typed c.place (plain_key true c.text) >>= (λ s. Ok (s, false, record c { text = behind true c.text }))

-- the key that begins here
abbrev pub key_at : Cursor → Outcome Key_and_place
key_at c = flow_key c >>= (λ k. Ok (k.0, k.2, record c { text = k.1 }))

-- the scalar in quotes that begins here
abbrev pub quoted_scalar : Place → List Comment → Cursor → Outcome Node
quoted_scalar open_place comments c = Quote open_place c >>= (λ q. Ok (noted_scalar (scalar (string q.0)), comments, q.1))

-- the plain scalar that begins here
abbrev pub plain_scalar : List Comment → Cursor → Outcome Node
plain_scalar comments c = and_then as_tree (plain_lines true 0 c) >>= (λ t. Ok (noted_scalar t.0, comments, t.1))

-- ---- members

-- the mark that closes a map or a list
abbrev pub closing : Bool → ℕ
closing is_map = if is_map then right_brace else right_bracket

-- where the node of a member begins, with its key and the comments behind the key; a key alone has no node
pub record Start : Type 0 where
  pub key : Option Scalar
  pub has_node : Bool
  pub comments : List Comment
  pub here : Cursor

-- no value stands before this text
abbrev pub ends_pair : List ℕ → Bool
ends_pair t = first t == comma || first t == right_brace

-- whether a key has a value, the comments before it, and its place
unfoldable pub value_place : Place → Bool → Cursor → Outcome (Bool × List Comment × Cursor)
value_place open_place is_closed c =
    token_behind open_place [] c >>= (λ g.
    elim (is_key_end is_closed g.1.text) [
      | true ↦ token_behind open_place g.0 (after 1 g.1) >>= (λ v. Ok (not (ends_pair v.1.text), v.0, v.1))
      | false ↦ Ok (false, g.0, g.1)
    ])

-- where the value of a pair begins, with its key
unfoldable pub pair_start : Place → Cursor → Outcome Start
pair_start open_place c =
    key_at c >>= (λ k. value_place open_place k.1 k.2 >>= (λ v.
    Ok (record { key = Some k.0; has_node = v.0; comments = v.1; here = v.2 })))

-- where the node of a member begins
unfoldable pub member_start : Place → Bool → Cursor → Outcome Start
member_start open_place is_map c =
    elim is_map [ true ↦ pair_start open_place c | false ↦ Ok (record { key = None; has_node = true; comments = []; here = c }) ]

-- what follows a member: whether it was the last, the comments behind it, and the place behind the mark
unfoldable pub ending : Place → Bool → List Comment → Cursor → Outcome (Bool × List Comment × Cursor)
ending open_place is_map comments c =
    token_behind open_place comments c >>= (λ e.
    elim (first e.1.text == comma) [
      | true ↦ Ok (false, e.0, after 1 e.1)
      | false ↦ elim (first e.1.text == closing is_map) [ true ↦ Ok (true, e.0, after 1 e.1) | false ↦ refused kind.YamlForm e.1.place ]
    ])

-- the note of a member that begins here, with its key if it has one
abbrev pub member_note : Place → Option Scalar → List Comment → Note
member_note p key comments = record { place = p; key = key; before = comments; trailing = None; flow = true }

-- an item: its note, and its content
abbrev pub Noted_item : Type 0
Noted_item = Note × Content

-- an item, the comments in it that no item has, and the place behind it
abbrev pub Member : Type 0
Member = Noted_item × List Comment × Cursor

-- what stands before the next mark of a collection: an item or none, whether that mark closes it, the comments before it, and the place behind it
pub record Turn : Type 0 where
  pub found : Option Noted_item
  pub is_over : Bool
  pub comments : List Comment
  pub here : Cursor

-- how many collections may stand in each other inside one that stands here
abbrev pub levels_inside : ℕ → Place → Outcome ℕ
levels_inside zero p = refused kind.YamlDepth p
levels_inside (suc left) p = Ok left

-- a map or a list of these items
abbrev pub collection : Bool → Items → Content
collection is_map is = elim is_map [ true ↦ noted_map is | false ↦ noted_list is ]

-- the items with one before them, if there is one
abbrev pub some_item : Option Noted_item → Items → Items
some_item None is = is
some_item (Some i) is = item i.0 i.1 is

-- the node that `read` reads here, or null where there is none
abbrev pub node_at : (List Comment → Cursor → Outcome Node) → Bool → List Comment → Cursor → Outcome Node
node_at read has_node comments c = elim has_node [ true ↦ read comments c | false ↦ Ok (noted_scalar (scalar null), comments, c) ]

-- `read` reads a node at its first character, where these comments stand before it
module _ (open_place : Place) (read : List Comment → Cursor → Outcome Node) where
  -- the member that begins here, which these comments stand before
  unfoldable pub member : Bool → List Comment → Cursor → Outcome Member
  member is_map before c =
      member_start open_place is_map c >>= (λ s. node_at read s.has_node s.comments s.here >>= (λ m.
      elim (not is_map && is_single_pair c m.2) [
        | true ↦ refused kind.YamlOut m.2.place
        | false ↦ Ok ((member_note c.place s.key before, m.0), m.1, m.2)
      ]))

  -- what stands up to the next mark
  unfoldable pub turn : Bool → List Comment → Cursor → Outcome Turn
  turn is_map comments c =
      token_behind open_place comments c >>= (λ g.
      elim (first g.1.text == closing is_map) [
        | true ↦ Ok (record { found = None; is_over = true; comments = g.0; here = after 1 g.1 })
        | false ↦ member is_map g.0 g.1 >>= (λ m. ending open_place is_map m.1 m.2 >>= (λ e.
            Ok (record { found = Some m.0; is_over = e.0; comments = e.1; here = e.2 })))
      ])

  -- the members behind the opening bracket or a comma, of which at most n are left
  unfoldable pub members : Bool → ℕ → List Comment → Cursor → Outcome Members
  members is_map zero comments c = refused kind.YamlForm c.place
  members is_map (suc n) comments c =
      turn is_map comments c >>= (λ t.
      elim t.is_over [
        | true ↦ Ok (some_item t.found no_items, t.comments, t.here)
        | false ↦ members is_map n t.comments t.here >>= (λ more. Ok (some_item t.found more.0, more.1, more.2))
      ])
