-- Lists and maps in brackets are read alike.
use Rattle.std.proofs.Common.{◌≡◌, ℕ, zero, suc, Bool, true, false, not, ◌||◌, ◌==◌, List, [], ◌++◌, Option, Some, None, Ok, Err, refl, ap}
use Rattle.ytt_base.specs.declared.fault.FaultKind.TheVariants as kind
use Rattle.ytt_base.specs.declared.fault.Place.{Place}
use Rattle.ytt_base.specs.Outcomes.{Outcome, and_then}
use Rattle.ytt_base.specs.Trees.{Scalar, null, scalar}
use Rattle.yaml_spec.specs.Bytes.{comma, right_brace, right_bracket, first}
use Rattle.yaml_spec.specs.Flow.{next_token, Node, Members, Flow_key, is_key_end, is_single_pair, element_note, pair_note, with_item, no_more, flow_key, elements, pair_value, value_behind, pairs}
use Rattle.yaml_spec.specs.Noted.{Comment, Note, Content, noted_scalar, no_items}
use Rattle.yaml_spec.specs.Quotes.{Cursor, after}
use Rattle.yaml_spec.specs.Refusals.{refused}
use Rattle.yaml_flow.specs.Members.{closing, ending, ends_pair, Member, member, member_note, member_start, members, node_at, Noted_item, pair_start, some_item, Start, token_behind, Turn, turn, value_place}

abbrev Found : Type 0
Found = List Comment × Cursor

abbrev behind_comments : List Comment → Found → Outcome Found
behind_comments cs g = Ok (cs ++ g.0, g.1)

module _ (p : Place) (read : List Comment → Cursor → Outcome Node) where
  -- ---- behind a member

  abbrev rest : Bool → ℕ → Turn → Outcome Members
  rest is_map n t =
      elim t.is_over [
        | true ↦ Ok (some_item t.found no_items, t.comments, t.here)
        | false ↦ and_then (λ (more : Members). Ok (some_item t.found more.0, more.1, more.2)) (members p read is_map n t.comments t.here)
      ]

  abbrev with_end : Noted_item → Bool × List Comment × Cursor → Outcome Turn
  with_end i e = Ok (record { found = Some i; is_over = e.0; comments = e.1; here = e.2 })

  -- the definition's, where `more` reads the members behind a comma
  abbrev behind_member : Bool → (List Comment → Cursor → Outcome Members) → Note → Content → List Comment → Found → Outcome Members
  behind_member is_map more note content cs e =
      elim (first e.1.text == comma) [
        | true ↦ and_then (λ (ms : Members). Ok (with_item note content ms)) (more (cs ++ e.0) (after 1 e.1))
        | false ↦ elim (first e.1.text == closing is_map) [
          | true ↦ Ok (with_item note content (no_more (cs ++ e.0) e.1))
          | false ↦ refused kind.YamlForm e.1.place
        ]
      ]

  pub end-same : (is_map : Bool) (n : ℕ) (more : List Comment → Cursor → Outcome Members) → ((cs : List Comment) (c : Cursor) → more cs c ≡ members p read is_map n cs c)
      → (note : Note) (content : Content) (cs : List Comment) (c : Cursor)
      → and_then (behind_member is_map more note content cs) (next_token p c) ≡ and_then (rest is_map n) (and_then (with_end (note, content)) (ending p is_map cs c))
  unfolding ending
  end-same is_map n more same note content cs c = go (next_token p c) where
    ends : Found → Outcome (Bool × List Comment × Cursor)
    ends e =
        elim (first e.1.text == comma) [
          | true ↦ Ok (false, e.0, after 1 e.1)
          | false ↦ elim (first e.1.text == closing is_map) [ true ↦ Ok (true, e.0, after 1 e.1) | false ↦ refused kind.YamlForm e.1.place ]
        ]

    go : (o : Outcome Found) → and_then (behind_member is_map more note content cs) o ≡ and_then (rest is_map n) (and_then (with_end (note, content)) (and_then ends (and_then (behind_comments cs) o)))
    go (Err f) = refl
    go (Ok e) = by (first e.1.text == comma) (first e.1.text == closing is_map) where
      by : (a b : Bool)
          → elim a as (λ _. Outcome Members) [
            | true ↦ and_then (λ (ms : Members). Ok (with_item note content ms)) (more (cs ++ e.0) (after 1 e.1))
            | false ↦ elim b as (λ _. Outcome Members) [ true ↦ Ok (with_item note content (no_more (cs ++ e.0) e.1)) | false ↦ refused kind.YamlForm e.1.place ]
          ]
          ≡ and_then (rest is_map n) (and_then (with_end (note, content)) (elim a as (λ _. Outcome (Bool × List Comment × Cursor)) [
            | true ↦ Ok (false, cs ++ e.0, after 1 e.1)
            | false ↦ elim b as (λ _. Outcome (Bool × List Comment × Cursor)) [ true ↦ Ok (true, cs ++ e.0, after 1 e.1) | false ↦ refused kind.YamlForm e.1.place ]
          ]))
      by true b = ap (and_then (λ (ms : Members). Ok (with_item note content ms))) (same (cs ++ e.0) (after 1 e.1))
      by false true = refl
      by false false = refl

  -- ---- a member

  abbrev then_end : Bool → Member → Outcome Turn
  then_end is_map m = and_then (with_end m.0) (ending p is_map m.1 m.2)

  -- an element, as the definition has it
  abbrev element : ℕ → List Comment → Cursor → Node → Outcome Members
  element n before here m =
      elim (is_single_pair here m.2) [
        | true ↦ refused kind.YamlOut m.2.place
        | false ↦ and_then (behind_member false (elements p read n) (element_note here.place before) m.0 m.1) (next_token p m.2)
      ]

  pub element-same : (n : ℕ) → ((cs : List Comment) (c : Cursor) → elements p read n cs c ≡ members p read false n cs c)
      → (before : List Comment) (here : Cursor) → and_then (element n before here) (read [] here) ≡ and_then (rest false n) (and_then (then_end false) (member p read false before here))
  unfolding member member_start
  element-same n same before here = go (read [] here) where
    made : Node → Outcome Member
    made m = elim (is_single_pair here m.2) [ true ↦ refused kind.YamlOut m.2.place | false ↦ Ok ((member_note here.place None before, m.0), m.1, m.2) ]

    go : (o : Outcome Node) → and_then (element n before here) o ≡ and_then (rest false n) (and_then (then_end false) (and_then made o))
    go (Err f) = refl
    go (Ok m) = by (is_single_pair here m.2) where
      by : (a : Bool)
          → elim a as (λ _. Outcome Members) [
            | true ↦ refused kind.YamlOut m.2.place
            | false ↦ and_then (behind_member false (elements p read n) (element_note here.place before) m.0 m.1) (next_token p m.2)
          ]
          ≡ and_then (rest false n) (and_then (then_end false) (elim a as (λ _. Outcome Member) [ true ↦ refused kind.YamlOut m.2.place | false ↦ Ok ((member_note here.place None before, m.0), m.1, m.2) ]))
      by true = refl
      by false = end-same false n (elements p read n) same (element_note here.place before) m.0 m.1 m.2

  abbrev held_key : Cursor → Flow_key → Outcome (Scalar × Bool × Cursor)
  held_key here k = Ok (k.0, k.2, record here { text = k.1 })

  abbrev at_node : Bool × List Comment × Cursor → Outcome Node
  at_node v = node_at read v.0 v.1 v.2

  abbrev value_there : Found → Outcome (Bool × List Comment × Cursor)
  value_there v = Ok (not (ends_pair v.1.text), v.0, v.1)

  value_here : (cs : List Comment) (c : Cursor) → pair_value p read cs c ≡ and_then at_node (and_then value_there (token_behind p cs c))
  unfolding pair_value
  value_here cs c = go (next_token p c) where
    read_here : Found → Outcome Node
    read_here g =
        elim (first g.1.text == comma || first g.1.text == right_brace) [
          | true ↦ Ok (noted_scalar (scalar null), cs ++ g.0, g.1)
          | false ↦ read (cs ++ g.0) g.1
        ]

    go : (o : Outcome Found) → and_then read_here o ≡ and_then at_node (and_then value_there (and_then (behind_comments cs) o))
    go (Err f) = refl
    go (Ok g) = by (ends_pair g.1.text) where
      by : (a : Bool) → elim a as (λ _. Outcome Node) [ true ↦ Ok (noted_scalar (scalar null), cs ++ g.0, g.1) | false ↦ read (cs ++ g.0) g.1 ] ≡ at_node (not a, cs ++ g.0, g.1)
      by true = refl
      by false = refl

  -- where the value of a key is read
  value-same : (k : Flow_key) (here : Cursor) → value_behind p read k here ≡ and_then at_node (value_place p k.2 (record here { text = k.1 }))
  unfolding value_place
  value-same k here = go (next_token p (record here { text = k.1 })) where
    value_from : Found → Outcome Node
    value_from g = elim (is_key_end k.2 g.1.text) [ true ↦ pair_value p read g.0 (after 1 g.1) | false ↦ Ok (noted_scalar (scalar null), g.0, g.1) ]

    place_from : Found → Outcome (Bool × List Comment × Cursor)
    place_from g = elim (is_key_end k.2 g.1.text) [ true ↦ and_then value_there (token_behind p g.0 (after 1 g.1)) | false ↦ Ok (false, g.0, g.1) ]

    go : (o : Outcome Found) → and_then value_from o ≡ and_then at_node (and_then place_from (and_then (behind_comments []) o))
    go (Err f) = refl
    go (Ok g) = by (is_key_end k.2 g.1.text) where
      by : (a : Bool)
          → elim a as (λ _. Outcome Node) [ true ↦ pair_value p read g.0 (after 1 g.1) | false ↦ Ok (noted_scalar (scalar null), g.0, g.1) ]
          ≡ and_then at_node (elim a as (λ _. Outcome (Bool × List Comment × Cursor)) [ true ↦ and_then value_there (token_behind p g.0 (after 1 g.1)) | false ↦ Ok (false, g.0, g.1) ])
      by true = value_here g.0 (after 1 g.1)
      by false = refl

  -- a pair, as the definition has it
  abbrev pair_behind : ℕ → List Comment → Cursor → Flow_key → Node → Outcome Members
  pair_behind n before here k m = and_then (behind_member true (pairs p read n) (pair_note here.place k.0 before) m.0 m.1) (next_token p m.2)

  pub pair-same : (n : ℕ) → ((cs : List Comment) (c : Cursor) → pairs p read n cs c ≡ members p read true n cs c)
      → (before : List Comment) (here : Cursor)
      → and_then (λ (k : Flow_key). and_then (pair_behind n before here k) (value_behind p read k here)) (flow_key here) ≡ and_then (rest true n) (and_then (then_end true) (member p read true before here))
  unfolding member member_start pair_start
  pair-same n same before here = go (flow_key here) where
    made : Option Scalar → Node → Outcome Member
    made k m = Ok ((member_note here.place k before, m.0), m.1, m.2)

    start_from : Scalar → Bool × List Comment × Cursor → Outcome Start
    start_from k v = Ok (record { key = Some k; has_node = v.0; comments = v.1; here = v.2 })

    member_from : Start → Outcome Member
    member_from s = and_then (made s.key) (node_at read s.has_node s.comments s.here)

    by_node : (k : Flow_key) (o : Outcome Node) → and_then (pair_behind n before here k) o ≡ and_then (rest true n) (and_then (then_end true) (and_then (made (Some k.0)) o))
    by_node k (Err f) = refl
    by_node k (Ok m) = end-same true n (pairs p read n) same (pair_note here.place k.0 before) m.0 m.1 m.2

    by_value : (k : Flow_key) (o : Outcome (Bool × List Comment × Cursor))
        → and_then (pair_behind n before here k) (and_then at_node o) ≡ and_then (rest true n) (and_then (then_end true) (and_then member_from (and_then (start_from k.0) o)))
    by_value k (Err f) = refl
    by_value k (Ok v) = by_node k (at_node v)

    starts : Scalar × Bool × Cursor → Outcome Start
    starts k = and_then (start_from k.0) (value_place p k.1 k.2)

    go : (o : Outcome Flow_key)
        → and_then (λ (k : Flow_key). and_then (pair_behind n before here k) (value_behind p read k here)) o
        ≡ and_then (rest true n) (and_then (then_end true) (and_then member_from (and_then starts (and_then (held_key here) o))))
    go (Err f) = refl
    go (Ok k) = rw (value-same k here) (by_value k (value_place p k.2 (record here { text = k.1 })))

  -- ---- all members

  abbrev element_step : ℕ → List Comment → Found → Outcome Members
  element_step n cs g =
      elim (first g.1.text == right_bracket) [
        | true ↦ Ok (no_more (cs ++ g.0) g.1)
        | false ↦ and_then (element n (cs ++ g.0) g.1) (read [] g.1)
      ]

  abbrev turns : Bool → Found → Outcome Turn
  turns is_map g =
      elim (first g.1.text == closing is_map) [
        | true ↦ Ok (record { found = None; is_over = true; comments = g.0; here = after 1 g.1 })
        | false ↦ and_then (then_end is_map) (member p read is_map g.0 g.1)
      ]

  pub elements-members : (n : ℕ) (cs : List Comment) (c : Cursor) → elements p read n cs c ≡ members p read false n cs c
  unfolding elements members turn
  elements-members zero cs c = refl
  elements-members (suc n) cs c = go (elements-members n) (next_token p c) where
    go : ((ds : List Comment) (d : Cursor) → elements p read n ds d ≡ members p read false n ds d) → (o : Outcome Found) → and_then (element_step n cs) o ≡ and_then (rest false n) (and_then (turns false) (and_then (behind_comments cs) o))
    go same (Err f) = refl
    go same (Ok g) = by (first g.1.text == right_bracket) where
      by : (a : Bool)
          → elim a as (λ _. Outcome Members) [ true ↦ Ok (no_more (cs ++ g.0) g.1) | false ↦ and_then (element n (cs ++ g.0) g.1) (read [] g.1) ]
          ≡ and_then (rest false n) (elim a as (λ _. Outcome Turn) [
            | true ↦ Ok (record { found = None; is_over = true; comments = cs ++ g.0; here = after 1 g.1 })
            | false ↦ and_then (then_end false) (member p read false (cs ++ g.0) g.1)
          ])
      by true = refl
      by false = element-same n same (cs ++ g.0) g.1

  abbrev pair_step : ℕ → List Comment → Found → Outcome Members
  pair_step n cs g =
      elim (first g.1.text == right_brace) [
        | true ↦ Ok (no_more (cs ++ g.0) g.1)
        | false ↦ and_then (λ (k : Flow_key). and_then (pair_behind n (cs ++ g.0) g.1 k) (value_behind p read k g.1)) (flow_key g.1)
      ]

  pub pairs-members : (n : ℕ) (cs : List Comment) (c : Cursor) → pairs p read n cs c ≡ members p read true n cs c
  unfolding pairs members turn
  pairs-members zero cs c = refl
  pairs-members (suc n) cs c = go (pairs-members n) (next_token p c) where
    go : ((ds : List Comment) (d : Cursor) → pairs p read n ds d ≡ members p read true n ds d) → (o : Outcome Found) → and_then (pair_step n cs) o ≡ and_then (rest true n) (and_then (turns true) (and_then (behind_comments cs) o))
    go same (Err f) = refl
    go same (Ok g) = by (first g.1.text == right_brace) where
      by : (a : Bool)
          → elim a as (λ _. Outcome Members) [
            | true ↦ Ok (no_more (cs ++ g.0) g.1)
            | false ↦ and_then (λ (k : Flow_key). and_then (pair_behind n (cs ++ g.0) g.1 k) (value_behind p read k g.1)) (flow_key g.1)
          ]
          ≡ and_then (rest true n) (elim a as (λ _. Outcome Turn) [
            | true ↦ Ok (record { found = None; is_over = true; comments = cs ++ g.0; here = after 1 g.1 })
            | false ↦ and_then (then_end true) (member p read true (cs ++ g.0) g.1)
          ])
      by true = refl
      by false = pair-same n same (cs ++ g.0) g.1
