-- Nodes in brackets by what begins them.
use Rattle.std.proofs.Common.{Err, Ok, ◌≡◌, ℕ, zero, suc, Bool, true, false, ◌||◌, ◌==◌, List, refl, ap, arith}
use Rattle.std.proofs.lemmas.Bool.Decides.{nat_tests}
use Rattle.ytt_base.specs.declared.fault.Fault.{Fault}
use Rattle.ytt_base.specs.declared.fault.Place.{Place}
use Rattle.ytt_base.specs.Outcomes.{Outcome, and_then}
use Rattle.yaml_spec.specs.Bytes.{first, left_brace, left_bracket}
use Rattle.yaml_spec.specs.Flow.{flow, flow_scalar, Members, Node, size, starts_collection}
use Rattle.yaml_spec.specs.Noted.{Comment}
use Rattle.yaml_spec.specs.Quotes.{Cursor, after}
use Rattle.yaml_flow.specs.Members.{collection, levels_inside, members}
use Rattle.yaml_flow.proofs.Alike.{elements-members, pairs-members}

pub flow-scalar : (left : ℕ) (p : Place) (cs : List Comment) (c : Cursor) → starts_collection c.text ≡ false → flow left p cs c ≡ flow_scalar p cs c
unfolding flow
flow-scalar zero p cs c e = rw (flow, e) refl
flow-scalar (suc left) p cs c e = by (first c.text == left_bracket) (first c.text == left_brace) refl refl e where
  by : (a b : Bool) → (first c.text == left_bracket) ≡ a → (first c.text == left_brace) ≡ b → (a || b) ≡ false → flow (suc left) p cs c ≡ flow_scalar p cs c
  by true b x y z = cc
  by false true x y z = cc
  by false false x y z = rw (flow, x, y) refl

pub flow-deep : (left : ℕ) (p : Place) (cs : List Comment) (c : Cursor) (f : Fault) → starts_collection c.text ≡ true → levels_inside left c.place ≡ Err f → flow left p cs c ≡ Err f
unfolding flow
flow-deep zero p cs c f e h = rw (flow, e) (cc)
flow-deep (suc left) p cs c f e h = cc

-- a collection of this kind, with what is behind it
abbrev pub collected : Bool → Members → Outcome Node
collected is_map m = Ok (collection is_map m.0, m.1, m.2)

pub flow-collection : (left n : ℕ) (is_map : Bool) (p : Place) (cs : List Comment) (c : Cursor) → starts_collection c.text ≡ true → levels_inside left c.place ≡ Ok n → is_map ≡ (first c.text == left_brace)
    → flow left p cs c ≡ and_then (collected is_map) (members p (flow n p) is_map (size c) cs (after 1 c))
unfolding flow
flow-collection zero n is_map p cs c e h i = cc
flow-collection (suc left) n is_map p cs c e h i = by (first c.text == left_bracket) (first c.text == left_brace) refl refl e i where
  same : left ≡ n
  same = cc

  by : (a b : Bool) → (first c.text == left_bracket) ≡ a → (first c.text == left_brace) ≡ b → (a || b) ≡ true → is_map ≡ b
      → flow (suc left) p cs c ≡ and_then (collected is_map) (members p (flow n p) is_map (size c) cs (after 1 c))
  by true true x y z i = absurd (grind (arith, nat_tests))
  by true false x y z i = rw (flow, x, i, ← same) (ap (and_then (collected false)) (elements-members p (flow left p) (size c) cs (after 1 c)))
  by false true x y z i = rw (flow, x, y, i, ← same) (ap (and_then (collected true)) (pairs-members p (flow left p) (size c) cs (after 1 c)))
  by false false x y z i = absurd (cc)
