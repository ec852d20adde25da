-- A value that is read where few collections may nest is read so where more may.
use Rattle.ytt_base.specs.declared.fault.Place.{Place}
use Rattle.std.proofs.Common.{◌≡◌, ℕ, zero, suc, ◌+◌, Bool, true, false, ◌||◌, ◌==◌, List, [], ◌++◌, Ok, Err, refl, ◌∙◌, ap, arith, zero-add}
use Rattle.yaml_spec.specs.Bytes.{comma, left_bracket, right_bracket, left_brace, right_brace, first}
use Rattle.ytt_base.specs.declared.fault.FaultKind.TheVariants as kind
use Rattle.ytt_base.specs.Outcomes.{Outcome, ◌>>=◌}
use Rattle.yaml_spec.specs.Refusals.{refused}
use Rattle.yaml_spec.specs.Quotes.{Cursor, after}
use Rattle.yaml_spec.specs.Noted.{Comment, noted_list, noted_map}
use Rattle.yaml_spec.specs.Flow.{Node, elements, pairs, pair_value, value_behind, Flow_key, flow, flow_scalar, starts_collection, size, flow_key, next_token, is_single_pair, is_key_end}
use Rattle.yaml_spec.specs.Values.{value}
use Rattle.yaml_spec.specs.Rows.{Row, row_value}

-- what the one reads, the other reads
abbrev pub Grows : {A : Type 0} → Outcome A → Outcome A → Type 0
Grows {A} o p = (x : A) → o ≡ Ok x → p ≡ Ok x

grows_same : {A : Type 0} (o : Outcome A) → Grows o o
grows_same o x e = e

grows_bind : {A B : Type 0} (o p : Outcome A) (f g : A → Outcome B) → Grows o p → ((x : A) → Grows (f x) (g x)) → Grows (o >>= f) (p >>= g)
grows_bind (Ok a) p f g h k x e = ap (λ o. o >>= g) (h a refl) ∙ k a x e
grows_bind (Err d) p f g h k x e = cc

grows_if : {A : Type 0} (b : Bool) (o p o' p' : Outcome A) → Grows o o' → Grows p p' →
    Grows (elim b as (λ _. Outcome A) [ true ↦ o | false ↦ p ]) (elim b as (λ _. Outcome A) [ true ↦ o' | false ↦ p' ])
grows_if true o p o' p' h k = h
grows_if false o p o' p' h k = k

module _ (open_place : Place) (read more : List Comment → Cursor → Outcome Node) (h : (cs : List Comment) (c : Cursor) → Grows (read cs c) (more cs c)) where
  grows_elements : (n : ℕ) (cs : List Comment) (c : Cursor) → Grows (elements open_place read n cs c) (elements open_place more n cs c)
  unfolding elements
  grows_elements zero cs c = grows_same _
  grows_elements (suc n) cs c =
      grows_bind (next_token open_place c) _ _ _ (grows_same _) (λ g.
      grows_if (first g.1.text == right_bracket) _ _ _ _ (grows_same _)
      (grows_bind (read [] g.1) _ _ _ (h [] g.1) (λ m.
      grows_if (is_single_pair g.1 m.2) _ _ _ _ (grows_same _)
      (grows_bind (next_token open_place m.2) _ _ _ (grows_same _) (λ e.
      grows_if (first e.1.text == comma) _ _ _ _ (grows_bind (elements open_place read n (m.1 ++ e.0) (after 1 e.1)) _ _ _ (grows_elements n (m.1 ++ e.0) (after 1 e.1)) (λ x. grows_same _))
      (grows_same _))))))

  grows_pair_value : (cs : List Comment) (c : Cursor) → Grows (pair_value open_place read cs c) (pair_value open_place more cs c)
  unfolding pair_value
  grows_pair_value cs c =
      grows_bind (next_token open_place c) _ _ _ (grows_same _) (λ g.
      grows_if (first g.1.text == comma || first g.1.text == right_brace) _ _ _ _ (grows_same _) (h (cs ++ g.0) g.1))

  grows_value_behind : (k : Flow_key) (c : Cursor) → Grows (value_behind open_place read k c) (value_behind open_place more k c)
  grows_value_behind k c =
      grows_bind (next_token open_place (record c { text = k.1 })) _ _ _ (grows_same _) (λ g.
      grows_if (is_key_end k.2 g.1.text) _ _ _ _ (grows_pair_value g.0 (after 1 g.1)) (grows_same _))

  grows_pairs : (n : ℕ) (cs : List Comment) (c : Cursor) → Grows (pairs open_place read n cs c) (pairs open_place more n cs c)
  unfolding pairs
  grows_pairs zero cs c = grows_same _
  grows_pairs (suc n) cs c =
      grows_bind (next_token open_place c) _ _ _ (grows_same _) (λ g.
      grows_if (first g.1.text == right_brace) _ _ _ _ (grows_same _)
      (grows_bind (flow_key g.1) _ _ _ (grows_same _) (λ k.
      grows_bind (value_behind open_place read k g.1) _ _ _ (grows_value_behind k g.1) (λ m.
      grows_bind (next_token open_place m.2) _ _ _ (grows_same _) (λ e.
      grows_if (first e.1.text == comma) _ _ _ _ (grows_bind (pairs open_place read n (m.1 ++ e.0) (after 1 e.1)) _ _ _ (grows_pairs n (m.1 ++ e.0) (after 1 e.1)) (λ x. grows_same _))
      (grows_same _))))))

grows_flow : (left : ℕ) (open_place : Place) (cs : List Comment) (c : Cursor) → Grows (flow left open_place cs c) (flow (suc left) open_place cs c)
unfolding flow
grows_flow zero open_place cs c = at_none (first c.text == left_bracket) (first c.text == left_brace)
  where
    at_none : (a b : Bool) → Grows
        (elim (a || b) as (λ _. Outcome Node) [ true ↦ refused kind.YamlDepth c.place | false ↦ flow_scalar open_place cs c ])
        (elim a as (λ _. Outcome Node) [
          | true ↦ elements open_place (flow zero open_place) (size c) cs (after 1 c) >>= (λ m. Ok (noted_list m.0, m.1, m.2))
          | false ↦ elim b as (λ _. Outcome Node) [
            | true ↦ pairs open_place (flow zero open_place) (size c) cs (after 1 c) >>= (λ m. Ok (noted_map m.0, m.1, m.2))
            | false ↦ flow_scalar open_place cs c
          ]
        ])
    at_none true b x e = cc
    at_none false true x e = cc
    at_none false false x e = e
grows_flow (suc left) open_place cs c =
    grows_if (first c.text == left_bracket) _ _ _ _
    (grows_bind _ _ _ _ (grows_elements open_place (flow left open_place) (flow (suc left) open_place) (grows_flow left open_place) (size c) cs (after 1 c)) (λ m. grows_same _))
    (grows_if (first c.text == left_brace) _ _ _ _
    (grows_bind _ _ _ _ (grows_pairs open_place (flow left open_place) (flow (suc left) open_place) (grows_flow left open_place) (size c) cs (after 1 c)) (λ m. grows_same _))
    (grows_same _))

pub grows_value : (left : ℕ) (open_place : Place) (least owner : ℕ) (cs : List Comment) (c : Cursor) → Grows (value left open_place least owner cs c) (value (suc left) open_place least owner cs c)
unfolding value
grows_value left open_place least owner cs c =
    grows_if (starts_collection c.text) _ _ _ _ (grows_bind _ _ _ _ (grows_flow left open_place cs c) (λ m. grows_same _)) (grows_same _)

-- a row's value, where any number of collections more may nest
pub grows_row : (k left : ℕ) (r : Row) → Grows (row_value left r) (row_value (k + left) r)
grows_row zero left r x e = rw zero-add e
grows_row (suc k) left r x e =
    let n : suc k + left ≡ suc (k + left) = omega arith in
    rw n (grows_value (k + left) _ _ _ _ _ x (grows_row k left r x e))
