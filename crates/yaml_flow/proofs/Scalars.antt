-- Scalars in brackets by their styles.
use Rattle.std.proofs.Common.{◌≡◌, true, false, List, Ok, Err, refl}
use Rattle.yaml_plain.specs.Trees.{as_tree}
use Rattle.ytt_base.specs.declared.fault.Place.{Place}
use Rattle.ytt_base.specs.Outcomes.{Outcome, and_then}
use Rattle.ytt_base.specs.Trees.{Scalar, Tree, scalar}
use Rattle.yaml_spec.specs.Flow.{Node, flow_scalar}
use Rattle.yaml_spec.specs.Noted.{Comment, noted_scalar}
use Rattle.yaml_spec.specs.Plain.{plain_lines}
use Rattle.yaml_spec.specs.Quotes.{Cursor, starts_quote}
use Rattle.yaml_flow.specs.Members.{plain_scalar, quoted_scalar}

pub scalar-quoted : (p : Place) (cs : List Comment) (c : Cursor) → starts_quote c.text ≡ true → flow_scalar p cs c ≡ quoted_scalar p cs c
unfolding flow_scalar
scalar-quoted p cs c e = rw (flow_scalar, e) refl

abbrev by_scalar : List Comment → Scalar × Cursor → Outcome Node
by_scalar cs s = Ok (noted_scalar (scalar s.0), cs, s.1)

abbrev by_tree : List Comment → Tree × Cursor → Outcome Node
by_tree cs t = Ok (noted_scalar t.0, cs, t.1)

as-tree : (cs : List Comment) (o : Outcome (Scalar × Cursor)) → and_then (by_scalar cs) o ≡ and_then (by_tree cs) (and_then as_tree o)
as-tree cs (Ok s) = refl
as-tree cs (Err f) = refl

pub scalar-plain : (p : Place) (cs : List Comment) (c : Cursor) → starts_quote c.text ≡ false → flow_scalar p cs c ≡ plain_scalar cs c
unfolding flow_scalar
scalar-plain p cs c e = rw (flow_scalar, e) (as-tree cs (plain_lines true 0 c))
