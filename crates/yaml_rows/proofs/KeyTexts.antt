-- Keys by what begins them.
use Rattle.std.proofs.Common.{◌≡◌, ℕ, true, false, List, [], Option, Some, None, Result, Ok, Err, option_map, is_some, refl}
use Rattle.ytt_base.specs.declared.fault.Fault.{Fault}
use Rattle.ytt_base.specs.declared.fault.FaultKind.{FaultKind}
use Rattle.ytt_base.specs.declared.fault.FaultKind.TheVariants as kind
use Rattle.ytt_base.specs.Trees.{Scalar, max_depth}
use Rattle.yaml_spec.specs.Flow.{Node, flow, starts_collection}
use Rattle.yaml_spec.specs.Plain.{start_fault, behind, plain_key}
use Rattle.yaml_spec.specs.Quotes.{Cursor, quote_on_line, starts_quote}
use Rattle.yaml_spec.specs.Refusals.{nowhere}
use Rattle.yaml_spec.specs.Rows.{key_mark, behind_colon, key_with, quoted_key, key_at}
use Rattle.yaml_rows.specs.Heads.{marked, marked_by, collection_key, bare_key}

pub key_at-quoted : (t : List ℕ) → starts_quote t ≡ true → key_at t ≡ quoted_key (quote_on_line t)
unfolding key_at
key_at-quoted t h = rw (h, key_at) refl

pub key_at-collection : (t : List ℕ) → starts_quote t ≡ false → starts_collection t ≡ true → key_at t ≡ collection_key t
unfolding key_at collection_key
key_at-collection t h k = rw (h, k, key_at) refl

pub key_at-bare : (t : List ℕ) → starts_quote t ≡ false → starts_collection t ≡ false → key_at t ≡ bare_key t
unfolding key_at bare_key
key_at-bare t h k = rw (h, k, key_at) refl

marked-key_with : (k : Result Scalar FaultKind) (o : Option (List ℕ)) → marked (key_with k o) ≡ option_map (λ u. (key_mark k, u)) o
marked-key_with k None = refl
marked-key_with k (Some t) = refl

-- a text on its own line
abbrev alone : List ℕ → Cursor
alone t = record { place = nowhere; text = t; below = [] }

pub collection-ok : (t : List ℕ) (m : Node) → flow max_depth nowhere [] (alone t) ≡ Ok m → marked (collection_key t) ≡ marked_by (key_mark (Err kind.YamlOut)) m.2.text
unfolding collection_key
collection-ok t m h = rw (h, collection_key) (marked-key_with (Err kind.YamlOut) (behind_colon m.2.text))

pub collection-err : (t : List ℕ) (f : Fault) → flow max_depth nowhere [] (alone t) ≡ Err f → marked (collection_key t) ≡ None
unfolding collection_key
collection-err t f h = rw (h, collection_key) refl

pub bare-none : (t : List ℕ) → is_some (start_fault false t) ≡ true → marked (bare_key t) ≡ None
unfolding bare_key
bare-none t h = by (start_fault false t) refl h where
  by : (o : Option FaultKind) → start_fault false t ≡ o → is_some o ≡ true → marked (bare_key t) ≡ None
  by (Some k) e g = rw (e, bare_key) refl
  by None e g = cc

pub bare-some : (t : List ℕ) → is_some (start_fault false t) ≡ false → marked (bare_key t) ≡ marked_by (key_mark (plain_key false t)) (behind false t)
unfolding bare_key
bare-some t h = by (start_fault false t) refl h where
  by : (o : Option FaultKind) → start_fault false t ≡ o → is_some o ≡ false → marked (bare_key t) ≡ marked_by (key_mark (plain_key false t)) (behind false t)
  by (Some k) e g = cc
  by None e g = rw (e, bare_key) (marked-key_with (plain_key false t) (behind_colon (behind false t)))
