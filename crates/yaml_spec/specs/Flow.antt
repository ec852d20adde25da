-- Flow collections (YAML 1.2.2, 7.4), whose lines may have any indent.
use Rattle.std.specs.Prelude.{ℕ, zero, suc, ◌+◌, Bool, true, false, ◌&&◌, ◌||◌, ◌==◌, nat_lt, if◌then◌else◌, List, [], ◌∷◌, ◌++◌, length, drop, sum_by, Some, None, Ok}
use Rattle.yaml_spec.specs.Bytes.{hash, comma, colon, left_bracket, right_bracket, left_brace, right_brace, is_flow_indicator, first, is_empty, is_gap, skip_white}
use Rattle.ytt_base.specs.declared.fault.FaultKind.TheVariants as kind
use Rattle.ytt_base.specs.declared.fault.Place.{Place}
use Rattle.ytt_base.specs.Outcomes.{Outcome, ◌>>=◌}
use Rattle.yaml_spec.specs.Refusals.{refused}
use Rattle.yaml_spec.specs.Lines.{Line}
use Rattle.ytt_base.specs.Trees.{Scalar, null, string, scalar}
use Rattle.yaml_spec.specs.Quotes.{Cursor, after, Quote, quote_on_line, starts_quote}
use Rattle.yaml_spec.specs.Plain.{start_fault, behind, plain_lines, plain_key, typed}
use Rattle.yaml_spec.specs.Noted.{Comment, Note, Content, noted_scalar, noted_list, noted_map, Items, no_items, item, is_note}

-- what stands at a place between tokens: the line's end, a comment, a comment that may not stand here, or a token
pub data Look : Type 0 where
  line_over : Look
  comment : Comment → Look
  note_comment : Look
  token : Look

-- `fresh` at a line's start; a comment begins there or after white space (6.6)
abbrev pub look : Bool → Place → List ℕ → Look
look fresh p text =
    let t = skip_white text in
    if is_empty t then line_over
    else if first t == hash && (fresh || nat_lt (length t) (length text))
    then (if is_note t then note_comment else comment (record { line = p.line; own_line = fresh; text = t }))
    else token

-- the comments before the next token, and its place; `open_place` is that of the fault where there is none
unfoldable pub gap : Place → Bool → Place → List ℕ → List Line → Outcome (List Comment × Cursor)
gap open_place fresh p text [] =
    elim (look fresh p text) [
      | line_over ↦ refused kind.YamlForm open_place
      | comment c ↦ refused kind.YamlForm open_place
      | note_comment ↦ refused kind.YamlOut p
      | token ↦ Ok ([], record { place = p; text = skip_white text; below = [] })
    ]
gap open_place fresh p text (l ∷ ls) =
    elim (look fresh p text) [
      | line_over ↦ gap open_place true l.place l.text ls
      | comment c ↦ gap open_place true l.place l.text ls >>= (λ r. Ok (c ∷ r.0, r.1))
      | note_comment ↦ refused kind.YamlOut p
      | token ↦ Ok ([], record { place = p; text = skip_white text; below = l ∷ ls })
    ]

-- the comments before the next token behind a place, and its place
abbrev pub next_token : Place → Cursor → Outcome (List Comment × Cursor)
next_token open_place c = gap open_place false c.place c.text c.below

-- a node, the comments inside it that no item of it has, and the place behind it
abbrev pub Node : Type 0
Node = Content × List Comment × Cursor

-- the items up to the closing bracket, the comments after the last, and the place behind the bracket
abbrev pub Members : Type 0
Members = Items × List Comment × Cursor

-- `[` or `{` begins the text
abbrev pub starts_collection : List ℕ → Bool
starts_collection t = first t == left_bracket || first t == left_brace

-- a colon that ends a key: behind quotes or brackets any, else one before a gap or an indicator (7.4.2)
abbrev pub is_key_end : Bool → List ℕ → Bool
is_key_end is_closed t = first t == colon && (is_closed || is_gap (drop 1 t) || is_flow_indicator (first (drop 1 t)))

-- a member that began here and ends there is the key of a single pair
abbrev pub is_single_pair : Cursor → Cursor → Bool
is_single_pair here there =
    here.place.line == there.place.line && is_key_end (starts_quote here.text || starts_collection here.text) (skip_white there.text)

-- the note of an element that begins here
abbrev pub element_note : Place → List Comment → Note
element_note p comments = record { place = p; key = None; before = comments; trailing = None; flow = true }

-- the note of a pair whose key begins here
abbrev pub pair_note : Place → Scalar → List Comment → Note
pair_note p k comments = record { place = p; key = Some k; before = comments; trailing = None; flow = true }

-- the members with one before them
abbrev pub with_item : Note → Content → Members → Members
with_item n c m = (item n c m.0, m.1, m.2)

-- no item, where the closing bracket stands here
abbrev pub no_more : List Comment → Cursor → Members
no_more comments c = (no_items, comments, after 1 c)

-- a key on its line, the text behind it, and whether it is in quotes
abbrev pub Flow_key : Type 0
Flow_key = Scalar × List ℕ × Bool

-- the key of a pair: plain or in quotes, on one line
unfoldable pub flow_key : Cursor → Outcome Flow_key
flow_key c =
    elim (starts_quote c.text) [
      | true ↦ elim (quote_on_line c.text) [ Some q ↦ Ok (string q.0, q.1, true) | None ↦ refused kind.YamlForm c.place ]
      | false ↦ elim (starts_collection c.text) [
        | true ↦ refused kind.YamlOut c.place
        | false ↦ elim (start_fault true c.text) [
          | Some k ↦ refused k c.place
          | None ↦ typed c.place (plain_key true c.text) >>= (λ s. Ok (s, behind true c.text, false))
        ]
      ]
    ]

-- `read` reads a node at its first character, where these comments stand before it
module _ (open_place : Place) (read : List Comment → Cursor → Outcome Node) where
  -- the elements of a list behind `[` or a comma, of which at most n are left (7.4.1)
  unfoldable pub elements : ℕ → List Comment → Cursor → Outcome Members
  elements zero comments c = refused kind.YamlForm c.place
  elements (suc n) comments c =
      next_token open_place c >>= (λ g.
      let before = comments ++ g.0 in
      let here = g.1 in
      elim (first here.text == right_bracket) [
        | true ↦ Ok (no_more before here)
        | false ↦ read [] here >>= (λ m.
            elim (is_single_pair here m.2) [
              | true ↦ refused kind.YamlOut m.2.place
              | false ↦ next_token open_place m.2 >>= (λ e.
                  let add = with_item (element_note here.place before) m.0 in
                  elim (first e.1.text == comma) [
                    | true ↦ elements n (m.1 ++ e.0) (after 1 e.1) >>= (λ more. Ok (add more))
                    | false ↦ elim (first e.1.text == right_bracket) [
                      | true ↦ Ok (add (no_more (m.1 ++ e.0) e.1))
                      | false ↦ refused kind.YamlForm e.1.place
                    ]
                  ])
            ])
      ])

  -- the value behind a key's colon, where these comments stand before it: a node, or null
  unfoldable pub pair_value : List Comment → Cursor → Outcome Node
  pair_value comments c =
      next_token open_place c >>= (λ g.
      elim (first g.1.text == comma || first g.1.text == right_brace) [
        | true ↦ Ok (noted_scalar (scalar null), comments ++ g.0, g.1)
        | false ↦ read (comments ++ g.0) g.1
      ])

  -- the value of a key: behind its colon, which may stand on a later line, or null for a key alone
  abbrev pub value_behind : Flow_key → Cursor → Outcome Node
  value_behind k here =
      next_token open_place (record here { text = k.1 }) >>= (λ g.
      elim (is_key_end k.2 g.1.text) [
        | true ↦ pair_value g.0 (after 1 g.1)
        | false ↦ Ok (noted_scalar (scalar null), g.0, g.1)
      ])

  -- the pairs of a map behind `{` or a comma, of which at most n are left (7.4.2)
  unfoldable pub pairs : ℕ → List Comment → Cursor → Outcome Members
  pairs zero comments c = refused kind.YamlForm c.place
  pairs (suc n) comments c =
      next_token open_place c >>= (λ g.
      let before = comments ++ g.0 in
      let here = g.1 in
      elim (first here.text == right_brace) [
        | true ↦ Ok (no_more before here)
        | false ↦ flow_key here >>= (λ k. value_behind k here >>= (λ m. next_token open_place m.2 >>= (λ e.
            let add = with_item (pair_note here.place k.0 before) m.0 in
            elim (first e.1.text == comma) [
              | true ↦ pairs n (m.1 ++ e.0) (after 1 e.1) >>= (λ more. Ok (add more))
              | false ↦ elim (first e.1.text == right_brace) [
                | true ↦ Ok (add (no_more (m.1 ++ e.0) e.1))
                | false ↦ refused kind.YamlForm e.1.place
              ]
            ])))
      ])

-- more than the members that can be left
abbrev pub size : Cursor → ℕ
size c = suc (length c.text + sum_by (λ l. length l.text) c.below)

-- a scalar in brackets
unfoldable pub flow_scalar : Place → List Comment → Cursor → Outcome Node
flow_scalar open_place comments c =
    elim (starts_quote c.text) [
      | true ↦ Quote open_place c >>= (λ q. Ok (noted_scalar (scalar (string q.0)), comments, q.1))
      | false ↦ plain_lines true 0 c >>= (λ s. Ok (noted_scalar (scalar s.0), comments, s.1))
    ]

-- a node in brackets, or a collection's brackets, with at most this many collections inside each other
unfoldable pub flow : ℕ → Place → List Comment → Cursor → Outcome Node
flow zero open_place comments c =
    elim (starts_collection c.text) [ true ↦ refused kind.YamlDepth c.place | false ↦ flow_scalar open_place comments c ]
flow (suc left) open_place comments c =
    elim (first c.text == left_bracket) [
      | true ↦ elements open_place (flow left open_place) (size c) comments (after 1 c) >>= (λ m. Ok (noted_list m.0, m.1, m.2))
      | false ↦ elim (first c.text == left_brace) [
        | true ↦ pairs open_place (flow left open_place) (size c) comments (after 1 c) >>= (λ m. Ok (noted_map m.0, m.1, m.2))
        | false ↦ flow_scalar open_place comments c
      ]
    ]
