-- What is read of lines in UTF-8 holds only scalars that the program holds: in brackets, and as a value on a line.
use Rattle.std.proofs.Common.{◌≡◌, ℕ, zero, suc, ◌<◌, Bool, true, false, ◌&&◌, ◌||◌, ◌==◌, List, [], ◌∷◌, ◌++◌, length, Option, Some, None, Ok, arith}
use Rattle.std.specs.Prelude.{IsUtf8, nat_lt}
use Rattle.std.proofs.lemmas.Bool.{eqb-true, and_parts}
use Rattle.ytt_base.specs.declared.fault.FaultKind.TheVariants as kind
use Rattle.ytt_base.specs.declared.fault.Place.{Place}
use Rattle.ytt_base.specs.Outcomes.{Outcome, ◌>>=◌}
use Rattle.ytt_base.specs.Trees.{string, IsScalar, IsTree}
use Rattle.yaml_spec.specs.Bytes.{hash, bar, greater, comma, left_bracket, right_bracket, left_brace, right_brace, first, is_empty, skip_white}
use Rattle.yaml_spec.specs.Refusals.{refused}
use Rattle.yaml_spec.specs.Lines.{Line}
use Rattle.yaml_spec.specs.Noted.{Comment, Content, noted_scalar, noted_list, noted_map, Items, no_items, item, key_of, is_note}
use Rattle.yaml_spec.specs.Quotes.{Cursor, after, Quote, quote_on_line, starts_quote}
use Rattle.yaml_spec.specs.Blocks.{header_rest, Block}
use Rattle.yaml_spec.specs.Plain.{start_fault, plain_lines, plain_key, typed}
use Rattle.yaml_spec.specs.Flow.{Look, line_over, comment, note_comment, token, look, gap, next_token, Node, Members, starts_collection, is_key_end, is_single_pair, Flow_key, flow_key, elements, pair_value, value_behind, pairs, size, flow_scalar, flow}
use Rattle.yaml_spec.specs.Values.{Value, noted, ended, has_stray_note, value}
use Rattle.std.specs.Result.{IfOk}
use Rattle.ytt_laws.proofs.Yielded.{yielded_either, yielded_if, yielded_option, yielded_test, yielded_then}
use Rattle.yaml_held.proofs.TextParts.{utf8_drop, skip_utf8, part_utf8}
use Rattle.yaml_held.proofs.GoodParts.{AreGoodLines, IsGoodCursor, GoodString, good_quote, IsGoodPair, good_on_line, GoodBlock, good_block}
use Rattle.yaml_held.proofs.GoodScalars.{good_typed, good_key, GoodScalar, good_plain_lines}

-- ---- contents

abbrev mutual
  -- its scalars and keys are such
  pub Held : Content → Type 0
  Held (noted_scalar t) = IsTree t
  Held (noted_list is) = AreHeld is
  Held (noted_map is) = AreHeld is

  pub AreHeld : Items → Type 0
  AreHeld no_items = Unit {0}
  AreHeld (item n c is) = IsScalar (key_of n) × Held c × AreHeld is

-- ---- places

pub is_low : (b x : ℕ) → x < 128 → (b == x) ≡ true → b < 128
is_low b x l e = let q = eqb-true b x e in omega arith

pub good_after : (c : Cursor) → IsGoodCursor c → first c.text < 128 → IsGoodCursor (after 1 c)
good_after c g l = record { text = utf8_drop c.text l g.text; below = g.below }

abbrev GoodGap : List Comment × Cursor → Type 0
GoodGap r = IsGoodCursor r.1

good_gap : (opening : Place) (fresh : Bool) (p : Place) (text : List ℕ) (ls : List Line) → IsUtf8 text → AreGoodLines ls → IfOk (gap opening fresh p text ls) GoodGap
unfolding gap AreGoodLines
good_gap opening fresh p text [] u h = go (look fresh p text)
  where
    go : (k : Look) → IfOk (elim k as (λ _. Outcome (List Comment × Cursor)) [
      | line_over ↦ refused kind.YamlForm opening
      | comment c ↦ refused kind.YamlForm opening
      | note_comment ↦ refused kind.YamlOut p
      | token ↦ Ok ([], record { place = p; text = skip_white text; below = [] })
    ]) GoodGap
    go line_over = tt
    go (comment c) = tt
    go note_comment = tt
    go token = (record { text = skip_utf8 text u; below = tt })
good_gap opening fresh p text (l ∷ ls) u h = go (good_gap opening true l.place l.text ls h.0 h.1) (look fresh p text)
  where
    go : IfOk (gap opening true l.place l.text ls) GoodGap → (k : Look) → IfOk (elim k as (λ _. Outcome (List Comment × Cursor)) [
      | line_over ↦ gap opening true l.place l.text ls
      | comment c ↦ gap opening true l.place l.text ls >>= (λ r. Ok (c ∷ r.0, r.1))
      | note_comment ↦ refused kind.YamlOut p
      | token ↦ Ok ([], record { place = p; text = skip_white text; below = l ∷ ls })
    ]) GoodGap
    go m line_over = m
    go m (comment c) = yielded_then GoodGap _ (gap opening true l.place l.text ls) _ m (λ r q. q)
    go m note_comment = tt
    go m token = (record { text = skip_utf8 text u; below = h })

good_next : (opening : Place) (c : Cursor) → IsGoodCursor c → IfOk (next_token opening c) GoodGap
good_next opening c g = good_gap opening false c.place c.text c.below g.text g.below

-- ---- in brackets

abbrev pub GoodNode : Node → Type 0
GoodNode m = Held m.0 × IsGoodCursor m.2

abbrev GoodMembers : Members → Type 0
GoodMembers m = AreHeld m.0 × IsGoodCursor m.2

abbrev GoodKey : Flow_key → Type 0
GoodKey k = IsScalar k.0 × IsUtf8 k.1

good_flow_key : (c : Cursor) → IsGoodCursor c → IfOk (flow_key c) GoodKey
unfolding flow_key IsGoodPair
good_flow_key c g =
    yielded_test _ (starts_quote c.text) _ _ (λ e. quoted (quote_on_line c.text) (good_on_line c.text g.text e)) (λ e.
    yielded_either _ (starts_collection c.text) _ _ tt
    (yielded_option _ (start_fault true c.text) _ _
    (yielded_then IsScalar _ (typed c.place (plain_key true c.text)) _ (good_typed c.place _ (good_key true c.text g.text)) (λ s p. (p, (part_utf8 true c.text g.text).back)))
    (λ k. tt)))
  where
    quoted : (o : Option (List ℕ × List ℕ)) → IsGoodPair o → IfOk (elim o as (λ _. Outcome Flow_key) [ Some q ↦ Ok (string q.0, q.1, true) | None ↦ refused kind.YamlForm c.place ]) GoodKey
    quoted None h = tt
    quoted (Some q) h = h

key_end_low : (b : Bool) (t : List ℕ) → is_key_end b t ≡ true → first t < 128
key_end_low b t e = is_low (first t) 58 (omega arith) (and_parts _ _ e).0

module _ (opening : Place) (read : List Comment → Cursor → Outcome Node) (h : (cs : List Comment) (c : Cursor) → IsGoodCursor c → IfOk (read cs c) GoodNode) where
  good_elements : (n : ℕ) (cs : List Comment) (c : Cursor) → IsGoodCursor c → IfOk (elements opening read n cs c) GoodMembers
  unfolding elements
  good_elements zero cs c g = tt
  good_elements (suc n) cs c g =
      yielded_then GoodGap _ (next_token opening c) _ (good_next opening c g) (λ a p.
      yielded_test _ (first a.1.text == right_bracket) _ _ (λ i. (tt, good_after a.1 p (is_low (first a.1.text) 93 (omega arith) i))) (λ i.
      yielded_then GoodNode _ (read [] a.1) _ (h [] a.1 p) (λ m q.
      yielded_either _ (is_single_pair a.1 m.2) _ _ tt
      (yielded_then GoodGap _ (next_token opening m.2) _ (good_next opening m.2 q.1) (λ e r.
      yielded_test _ (first e.1.text == comma) _ _
      (λ j. yielded_then GoodMembers _ (elements opening read n (m.1 ++ e.0) (after 1 e.1)) _ (good_elements n (m.1 ++ e.0) (after 1 e.1) (good_after e.1 r (is_low (first e.1.text) 44 (omega arith) j))) (λ x s. ((tt, q.0, s.0), s.1)))
      (λ j. yielded_test _ (first e.1.text == right_bracket) _ _ (λ k. ((tt, q.0, tt), good_after e.1 r (is_low (first e.1.text) 93 (omega arith) k))) (λ k. tt)))))))

  good_pair_value : (cs : List Comment) (c : Cursor) → IsGoodCursor c → IfOk (pair_value opening read cs c) GoodNode
  unfolding pair_value
  good_pair_value cs c g =
      yielded_then GoodGap _ (next_token opening c) _ (good_next opening c g) (λ a p.
      yielded_either _ (first a.1.text == comma || first a.1.text == right_brace) _ _ ((tt, p)) (h (cs ++ a.0) a.1 p))

  good_value_behind : (k : Flow_key) (c : Cursor) → GoodKey k → IsGoodCursor c → IfOk (value_behind opening read k c) GoodNode
  good_value_behind k c q g =
      yielded_then GoodGap _ (next_token opening (record c { text = k.1 })) _ (good_next opening (record c { text = k.1 }) (record { text = q.1; below = g.below })) (λ a p.
      yielded_test _ (is_key_end k.2 a.1.text) _ _ (λ i. good_pair_value a.0 (after 1 a.1) (good_after a.1 p (key_end_low k.2 a.1.text i))) (λ i. (tt, p)))

  good_pairs : (n : ℕ) (cs : List Comment) (c : Cursor) → IsGoodCursor c → IfOk (pairs opening read n cs c) GoodMembers
  unfolding pairs
  good_pairs zero cs c g = tt
  good_pairs (suc n) cs c g =
      yielded_then GoodGap _ (next_token opening c) _ (good_next opening c g) (λ a p.
      yielded_test _ (first a.1.text == right_brace) _ _ (λ i. (tt, good_after a.1 p (is_low (first a.1.text) 125 (omega arith) i))) (λ i.
      yielded_then GoodKey _ (flow_key a.1) _ (good_flow_key a.1 p) (λ k q.
      yielded_then GoodNode _ (value_behind opening read k a.1) _ (good_value_behind k a.1 q p) (λ m r.
      yielded_then GoodGap _ (next_token opening m.2) _ (good_next opening m.2 r.1) (λ e s.
      yielded_test _ (first e.1.text == comma) _ _
      (λ j. yielded_then GoodMembers _ (pairs opening read n (m.1 ++ e.0) (after 1 e.1)) _ (good_pairs n (m.1 ++ e.0) (after 1 e.1) (good_after e.1 s (is_low (first e.1.text) 44 (omega arith) j))) (λ x t. ((q.0, r.0, t.0), t.1)))
      (λ j. yielded_test _ (first e.1.text == right_brace) _ _ (λ l. ((q.0, r.0, tt), good_after e.1 s (is_low (first e.1.text) 125 (omega arith) l))) (λ l. tt)))))))

good_flow_scalar : (opening : Place) (cs : List Comment) (c : Cursor) → IsGoodCursor c → IfOk (flow_scalar opening cs c) GoodNode
unfolding flow_scalar
good_flow_scalar opening cs c g =
    yielded_test _ (starts_quote c.text) _ _ (λ e. yielded_then GoodString _ (Quote opening c) _ (good_quote opening c g e) (λ q p. p))
    (λ e. yielded_then GoodScalar _ (plain_lines true 0 c) _ (good_plain_lines true 0 c g) (λ s p. p))

pub good_flow : (left : ℕ) (opening : Place) (cs : List Comment) (c : Cursor) → IsGoodCursor c → IfOk (flow left opening cs c) GoodNode
unfolding flow
good_flow zero opening cs c g = yielded_either _ (starts_collection c.text) _ _ tt (good_flow_scalar opening cs c g)
good_flow (suc left) opening cs c g =
    yielded_test _ (first c.text == left_bracket) _ _
    (λ e. yielded_then GoodMembers _ _ _ (good_elements opening (flow left opening) (good_flow left opening) (size c) cs (after 1 c) (good_after c g (is_low (first c.text) 91 (omega arith) e))) (λ m p. p))
    (λ e. yielded_test _ (first c.text == left_brace) _ _
    (λ i. yielded_then GoodMembers _ _ _ (good_pairs opening (flow left opening) (good_flow left opening) (size c) cs (after 1 c) (good_after c g (is_low (first c.text) 123 (omega arith) i))) (λ m p. p))
    (λ i. good_flow_scalar opening cs c g))

-- ---- values

abbrev pub GoodValue : Value → Type 0
GoodValue v = Held v.content

good_noted : (is_owned : Bool) (c : Content) (loose : List Comment) (p : Place) (last : ℕ) (text : List ℕ) → Held c → IfOk (noted is_owned c loose p last text) GoodValue
unfolding noted
good_noted is_owned c loose p last text h =
    yielded_if _ (is_empty text) _ _ (λ _. h) (λ _. yielded_if _ is_owned _ _ (λ _. h) (λ _. yielded_if _ (is_note text) _ _ (λ _. tt) (λ _. h)))

good_ended : (owner : ℕ) (c : Content) (loose : List Comment) (end : Cursor) → Held c → IfOk (ended owner c loose end) GoodValue
unfolding ended
good_ended owner c loose end h =
    yielded_if _ (is_empty (skip_white end.text) || (first (skip_white end.text) == hash && nat_lt (length (skip_white end.text)) (length end.text))) _ _
    (λ _. good_noted (end.place.line == owner) c loose end.place end.place.line (skip_white end.text) h) (λ _. tt)

pub good_value : (left : ℕ) (opening : Place) (least owner : ℕ) (cs : List Comment) (c : Cursor) → IsGoodCursor c → IfOk (value left opening least owner cs c) GoodValue
unfolding value
good_value left opening least owner cs c g =
    yielded_either _ (starts_collection c.text) _ _
    (yielded_then GoodNode _ (flow left opening cs c) _ (good_flow left opening cs c g) (λ m p. good_ended owner m.0 m.1 m.2 p.0))
    (yielded_test _ (starts_quote c.text) _ _
    (λ e. yielded_then GoodString _ (Quote opening c) _ (good_quote opening c g e) (λ q p. good_ended owner _ cs q.1 p.0))
    (λ e. yielded_either _ (first c.text == bar || first c.text == greater) _ _
    (yielded_either _ (has_stray_note (c.place.line == owner) (header_rest c.text)) _ _ tt
    (yielded_then GoodBlock _ (Block least c) _ (good_block least c g) (λ b p. good_noted (c.place.line == owner) _ cs c.place b.2.place.line b.1 p.0)))
    (yielded_then GoodScalar _ (plain_lines false least c) _ (good_plain_lines false least c g) (λ s p. good_ended owner _ cs s.1 p.0))))
