-- Heads one after another (YAML 1.2.2, 8.2).
use Rattle.std.specs.Prelude.{ℕ, Bool, false, List, [], ◌∷◌, ◌++◌, Option, Some, None, Ok, Err, option_map}
use Rattle.ytt_base.specs.declared.fault.FaultKind.TheVariants as kind
use Rattle.ytt_base.specs.Trees.{max_depth}
use Rattle.yaml_spec.specs.Bytes.{skip_white}
use Rattle.yaml_spec.specs.Flow.{flow}
use Rattle.yaml_spec.specs.Plain.{start_fault, behind, plain_key}
use Rattle.yaml_spec.specs.Refusals.{nowhere}
use Rattle.yaml_spec.specs.Rows.{Mark, key_mark, Head, Key_text, behind_colon, key_with, key_at}

-- what begins a pair, and the text behind its colon
abbrev pub Marked : Type 0
Marked = Option (Mark × List ℕ)

-- a key as what begins a pair
abbrev pub marked : Key_text → Marked
marked o = option_map (λ k. (key_mark k.0, k.1)) o

-- this, where a colon stands behind it
abbrev pub marked_by : Mark → List ℕ → Marked
marked_by m t = option_map (λ u. (m, u)) (behind_colon t)

-- a collection where a key may stand
unfoldable pub collection_key : List ℕ → Key_text
collection_key t =
    elim (flow max_depth nowhere [] (record { place = nowhere; text = t; below = [] })) [
      | Ok m ↦ key_with (Err kind.YamlOut) (behind_colon m.2.text)
      | Err e ↦ None
    ]

-- a plain scalar where a key may stand
unfoldable pub bare_key : List ℕ → Key_text
bare_key t = elim (start_fault false t) [ Some k ↦ None | None ↦ key_with (plain_key false t) (behind_colon (behind false t)) ]

-- the heads, where these stand before them
abbrev pub with_heads : List Head → List Head × List ℕ → List Head × List ℕ
with_heads hs r = (hs ++ r.0, r.1)

-- the head of a key at the start of a text, if one stands there, and the text behind it
unfoldable pub key_head : ℕ → Bool → List ℕ → List Head × List ℕ
key_head column has_tab t =
    elim (key_at t) [
      | Some k ↦ (record { column = column; has_tab = has_tab; mark = key_mark k.0 } ∷ [], skip_white k.1)
      | None ↦ ([], t)
    ]
