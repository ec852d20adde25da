-- Values by what begins them (YAML 1.2.2, 7.5 and 8.1).
use Rattle.std.specs.Prelude.{ℕ, true, false, ◌==◌, List}
use Rattle.ytt_base.specs.declared.fault.FaultKind.TheVariants as kind
use Rattle.ytt_base.specs.declared.fault.Place.{Place}
use Rattle.ytt_base.specs.Outcomes.{Outcome, ◌>>=◌}
use Rattle.ytt_base.specs.Trees.{string, scalar}
use Rattle.yaml_spec.specs.Blocks.{header_rest, Block}
use Rattle.yaml_spec.specs.Flow.{flow}
use Rattle.yaml_spec.specs.Noted.{Comment, noted_scalar}
use Rattle.yaml_spec.specs.Plain.{plain_lines}
use Rattle.yaml_spec.specs.Quotes.{Cursor, Quote}
use Rattle.yaml_spec.specs.Refusals.{refused}
use Rattle.yaml_spec.specs.Values.{Value, noted, ended, has_stray_note}

-- a flow collection
abbrev pub flow_value : ℕ → Place → ℕ → List Comment → Cursor → Outcome Value
flow_value left open_place owner comments c = flow left open_place comments c >>= (λ m. ended owner m.0 m.1 m.2)

-- a string in quotes
abbrev pub quote_value : Place → ℕ → List Comment → Cursor → Outcome Value
quote_value open_place owner comments c = Quote open_place c >>= (λ q. ended owner (noted_scalar (scalar (string q.0))) comments q.1)

-- a block scalar
unfoldable pub block_value : ℕ → ℕ → List Comment → Cursor → Outcome Value
block_value least owner comments c =
    elim (has_stray_note (c.place.line == owner) (header_rest c.text)) [
      | true ↦ refused kind.YamlOut c.place
      | false ↦ Block least c >>= (λ b. noted (c.place.line == owner) (noted_scalar (scalar (string b.0))) comments c.place b.2.place.line b.1)
    ]

-- a plain scalar
abbrev pub plain_value : ℕ → ℕ → List Comment → Cursor → Outcome Value
plain_value least owner comments c = plain_lines false least c >>= (λ s. ended owner (noted_scalar (scalar s.0)) comments s.1)
