-- A value that begins on a line of a block: a flow collection or a scalar of any style (YAML 1.2.2, 7.5 and 8.1).
-- An anchor or an alias would be read in `value` and in `flow`, before the node.
use Rattle.std.specs.Prelude.{ℕ, Bool, true, false, not, ◌&&◌, ◌||◌, ◌==◌, nat_lt, if◌then◌else◌, List, [], ◌∷◌, ◌++◌, length, Option, Some, None, Ok}
use Rattle.yaml_spec.specs.Bytes.{hash, bar, greater, first, is_empty, skip_white}
use Rattle.ytt_base.specs.declared.fault.FaultKind.TheVariants as kind
use Rattle.ytt_base.specs.declared.fault.Place.{Place}
use Rattle.ytt_base.specs.Outcomes.{Outcome, ◌>>=◌}
use Rattle.yaml_spec.specs.Refusals.{refused}
use Rattle.ytt_base.specs.Trees.{string, scalar}
use Rattle.yaml_spec.specs.Quotes.{Cursor, Quote, starts_quote}
use Rattle.yaml_spec.specs.Blocks.{ends_header, header_rest, Block}
use Rattle.yaml_spec.specs.Plain.{plain_lines}
use Rattle.yaml_spec.specs.Noted.{Comment, Content, noted_scalar, is_note}
use Rattle.yaml_spec.specs.Flow.{flow, starts_collection}

-- the content, the comments that go to the next item, the comment that belongs to the item here, and the last line
pub record Value : Type 0 where
  pub content : Content
  pub loose : List Comment
  pub trailing : Option Comment
  pub last : ℕ

-- the value with a comment behind it, which belongs to an item that starts on its line, if there is one
unfoldable pub noted : Bool → Content → List Comment → Place → ℕ → List ℕ → Outcome Value
noted is_owned c loose p last text =
    let k : Comment = record { line = p.line; own_line = false; text = text } in
    if is_empty text then Ok (record { content = c; loose = loose; trailing = None; last = last })
    else if is_owned then Ok (record { content = c; loose = loose; trailing = Some k; last = last })
    else if is_note text then refused kind.YamlOut p
    else Ok (record { content = c; loose = loose ++ k ∷ []; trailing = None; last = last })

-- behind a value stands nothing more on its line, or white space and a comment; an item starts on the line `owner`
unfoldable pub ended : ℕ → Content → List Comment → Cursor → Outcome Value
ended owner c loose end =
    let t = skip_white end.text in
    if is_empty t || (first t == hash && nat_lt (length t) (length end.text)) then noted (end.place.line == owner) c loose end.place end.place.line t
    else refused kind.YamlForm end.place

-- behind a header stands a comment that no item may have
abbrev pub has_stray_note : Bool → List ℕ → Bool
has_stray_note is_owned t = not is_owned && ends_header t && is_note (skip_white t)

-- the value at its first character. `left` collections may nest in it, its lines have at least the indent `least`,
-- and what it leaves open is refused at `open_place`. The comments stand before it, and `owner` is the line on which an item starts, or 0.
unfoldable pub value : ℕ → Place → ℕ → ℕ → List Comment → Cursor → Outcome Value
value left open_place least owner comments c =
    elim (starts_collection c.text) [
      | true ↦ flow left open_place comments c >>= (λ m. ended owner m.0 m.1 m.2)
      | false ↦ elim (starts_quote c.text) [
        | true ↦ Quote open_place c >>= (λ q. ended owner (noted_scalar (scalar (string q.0))) comments q.1)
        | false ↦ elim (first c.text == bar || first c.text == greater) [
          | true ↦ elim (has_stray_note (c.place.line == owner) (header_rest c.text)) [
            | true ↦ refused kind.YamlOut c.place
            | false ↦ Block least c >>= (λ b. noted (c.place.line == owner) (noted_scalar (scalar (string b.0))) comments c.place b.2.place.line b.1)
          ]
          | false ↦ plain_lines false least c >>= (λ s. ended owner (noted_scalar (scalar s.0)) comments s.1)
        ]
      ]
    ]
