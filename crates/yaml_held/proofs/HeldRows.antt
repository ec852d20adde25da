-- What is read of rows and documents holds only scalars that the program holds.
use Rattle.std.proofs.Common.{◌≡◌, ℕ, zero, suc, ◌+◌, ◌<◌, Bool, true, false, not, ◌&&◌, ◌||◌, ◌==◌, List, [], ◌∷◌, ◌++◌, drop, Option, Some, None, Result, Ok, Err, refl, arith, if◌then◌else◌}
use Rattle.std.proofs.lemmas.Bool.{and_parts}
use Rattle.std.specs.Prelude.{IsUtf8}
use Rattle.ytt_base.specs.declared.fault.FaultKind.{FaultKind}
use Rattle.ytt_base.specs.declared.fault.FaultKind.TheVariants as kind
use Rattle.ytt_base.specs.Outcomes.{Outcome}
use Rattle.ytt_base.specs.Trees.{Scalar, string, IsScalar, max_depth}
use Rattle.yaml_spec.specs.Bytes.{hash, colon, first, is_blank, is_gap, skip_white, passed}
use Rattle.yaml_spec.specs.Refusals.{nowhere}
use Rattle.yaml_spec.specs.Lines.{Line}
use Rattle.yaml_spec.specs.Noted.{Comment, Note, Content, noted_list, noted_map, Items, key_of}
use Rattle.yaml_spec.specs.Quotes.{quote_on_line, starts_quote}
use Rattle.yaml_spec.specs.Plain.{start_fault, behind, plain_key, typed}
use Rattle.yaml_spec.specs.Flow.{Node, starts_collection, flow}
use Rattle.yaml_spec.specs.Rows.{Mark, dash_mark, key_mark, Head, Row, Key_text, behind_colon, key_with, quoted_key, key_at, is_dash, has_tab_before, heads_of, has_value, owner_of, passing, row_value, row_at, taken, rows}
use Rattle.yaml_spec.specs.Entries.{Entry, Found, is_dash_mark, starts_with_dash, begins_entry, cut_after, cut_block, over, behind_head, content_of, entry_content, entry, entry_at, entries, Doc}
use Rattle.std.specs.Result.{IfOk}
use Rattle.ytt_laws.proofs.Yielded.{yielded_either, yielded_then}
use Rattle.yaml_held.proofs.TextParts.{utf8_drop, skip_utf8, part_utf8}
use Rattle.yaml_held.proofs.GoodParts.{AreGoodLines, IsGoodPair, good_on_line}
use Rattle.yaml_held.proofs.GoodScalars.{good_typed, good_key}
use Rattle.yaml_held.proofs.Held.{Held, AreHeld, is_low, GoodNode, good_flow, GoodValue, good_value}

-- ---- rows

unfoldable pub IsGoodMark : Mark → Type 0
IsGoodMark dash_mark = Unit {0}
IsGoodMark (key_mark k) = IfOk k IsScalar

unfoldable pub AreGoodHeads : List Head → Type 0
AreGoodHeads [] = Unit {0}
AreGoodHeads (h ∷ hs) = IsGoodMark h.mark × AreGoodHeads hs

-- the keys, the text and the lines of a row are such
pub record IsGoodRow (r : Row) : Type 0 where
  pub heads : AreGoodHeads r.heads
  pub text : IsUtf8 r.text
  pub below : AreGoodLines r.below

unfoldable pub AreGoodRows : List Row → Type 0
AreGoodRows [] = Unit {0}
AreGoodRows (r ∷ rs) = IsGoodRow r × AreGoodRows rs

-- ---- keys

IsGoodKey : Key_text → Type 0
IsGoodKey None = Unit {0}
IsGoodKey (Some k) = IfOk k.0 IsScalar × IsUtf8 k.1

good_with : (k : Result Scalar FaultKind) (text : List ℕ) → IfOk k IsScalar → IsUtf8 text → IsGoodKey (key_with k (behind_colon text))
unfolding IsGoodKey
good_with k text h u = go (first (skip_white text) == colon) refl (is_gap (drop 1 (skip_white text)))
  where
    go : (c : Bool) → (first (skip_white text) == colon) ≡ c → (g : Bool) → IsGoodKey (key_with k (if c && g then Some (drop 1 (skip_white text)) else None))
    go true e true = (h, utf8_drop (skip_white text) (is_low (first (skip_white text)) 58 (omega arith) e) (skip_utf8 text u))
    go true e false = tt
    go false e g = tt

good_key_at : (t : List ℕ) → IsUtf8 t → IsGoodKey (key_at t)
unfolding key_at IsGoodKey IsGoodPair AreGoodLines
good_key_at t u = by_quote (starts_quote t) refl
  where
    quoted : (o : Option (List ℕ × List ℕ)) → IsGoodPair o → IsGoodKey (quoted_key o)
    quoted None h = tt
    quoted (Some q) h = good_with (Ok (string q.0)) q.1 (h.0) h.1

    collection : (o : Outcome Node) → IfOk o GoodNode → IsGoodKey (elim o as (λ _. Key_text) [ Ok m ↦ key_with (Err kind.YamlOut) (behind_colon m.2.text) | Err e ↦ None ])
    collection (Ok m) h = let g = h.1 in good_with (Err kind.YamlOut) m.2.text tt g.text
    collection (Err e) h = tt

    plain : (o : Option FaultKind) → IsGoodKey (elim o as (λ _. Key_text) [ Some k ↦ None | None ↦ key_with (plain_key false t) (behind_colon (behind false t)) ])
    plain (Some k) = tt
    plain None = good_with (plain_key false t) (behind false t) (good_key false t u) (part_utf8 false t u).back

    by_collection : (b : Bool) → IsGoodKey (elim b as (λ _. Key_text) [
      | true ↦ elim (flow max_depth nowhere [] (record { place = nowhere; text = t; below = [] })) [ Ok m ↦ key_with (Err kind.YamlOut) (behind_colon m.2.text) | Err e ↦ None ]
      | false ↦ elim (start_fault false t) [ Some k ↦ None | None ↦ key_with (plain_key false t) (behind_colon (behind false t)) ]
    ])
    by_collection true = collection _ (good_flow max_depth nowhere [] (record { place = nowhere; text = t; below = [] }) (record { text = u; below = tt }))
    by_collection false = plain (start_fault false t)

    by_quote : (b : Bool) → starts_quote t ≡ b → IsGoodKey (elim b as (λ _. Key_text) [
      | true ↦ quoted_key (quote_on_line t)
      | false ↦ elim (starts_collection t) [
        | true ↦ elim (flow max_depth nowhere [] (record { place = nowhere; text = t; below = [] })) [ Ok m ↦ key_with (Err kind.YamlOut) (behind_colon m.2.text) | Err e ↦ None ]
        | false ↦ elim (start_fault false t) [ Some k ↦ None | None ↦ key_with (plain_key false t) (behind_colon (behind false t)) ]
      ]
    ])
    by_quote true e = quoted (quote_on_line t) (good_on_line t u e)
    by_quote false e = by_collection (starts_collection t)

abbrev GoodHeads : List Head × List ℕ → Type 0
GoodHeads h = AreGoodHeads h.0 × IsUtf8 h.1

dash_low : (t : List ℕ) → is_dash t ≡ true → first t < 128
dash_low t e = is_low (first t) 45 (omega arith) (and_parts _ _ e).0

good_heads : (n column : ℕ) (has_tab : Bool) (t : List ℕ) → IsUtf8 t → GoodHeads (heads_of n column has_tab t)
unfolding heads_of AreGoodHeads IsGoodMark IsGoodKey
good_heads zero column has_tab t u = (tt, u)
good_heads (suc n) column has_tab t u = go (λ c b x h. good_heads n c b x h) (is_dash t) refl (key_at t) (good_key_at t u)
  where
    go : ((c : ℕ) (b : Bool) (x : List ℕ) → IsUtf8 x → GoodHeads (heads_of n c b x)) → (d : Bool) → is_dash t ≡ d → (k : Key_text) → IsGoodKey k →
        GoodHeads (elim d as (λ _. List Head × List ℕ) [
          | true ↦
              let u = drop 1 t in
              let more = heads_of n (column + 1 + passed u (skip_white u)) (has_tab_before u) (skip_white u) in
              (record { column = column; has_tab = has_tab; mark = dash_mark } ∷ more.0, more.1)
          | false ↦ elim k [
            | Some k ↦ (record { column = column; has_tab = has_tab; mark = key_mark k.0 } ∷ [], skip_white k.1)
            | None ↦ ([], t)
          ]
        ])
    go m true e k g = let r = m _ (has_tab_before (drop 1 t)) (skip_white (drop 1 t)) (skip_utf8 (drop 1 t) (utf8_drop t (dash_low t e) u)) in ((tt, r.0), r.1)
    go m false e (Some k) g = ((g.0, tt), skip_utf8 k.1 g.1)
    go m false e None g = (tt, u)

good_row_at : (stop : ℕ) (is_owned : Bool) (least : ℕ) (cs : List Comment) (l : Line) (ls : List Line) → IsUtf8 l.text → AreGoodLines ls → IsGoodRow (row_at stop is_owned least cs l ls)
unfolding row_at
good_row_at stop is_owned least cs l ls u h =
    let g = good_heads _ _ _ (skip_white l.text) (skip_utf8 l.text u) in record { heads = g.0; text = g.1; below = h }

pub good_rows : (stop : ℕ) (is_owned : Bool) (skip least : ℕ) (cs : List Comment) (ls : List Line) → AreGoodLines ls → AreGoodRows (rows stop is_owned skip least cs ls).0
unfolding rows AreGoodLines AreGoodRows
good_rows stop is_owned skip least cs [] h = tt
good_rows stop is_owned (suc skip) least cs (l ∷ ls) h = good_rows stop is_owned skip least cs ls h.1
good_rows stop is_owned zero least cs (l ∷ ls) h =
    by_blank _ _ _ (is_blank l.text) (first (skip_white l.text) == hash) (good_rows stop is_owned zero least cs ls h.1) (good_rows stop is_owned zero least (cs ++ own ∷ []) ls h.1)
    (by_taken (λ n ds. good_rows stop false n (row_at stop is_owned least cs l ls).least ds ls h.1) (taken (row_at stop is_owned least cs l ls)))
  where
    own : Comment
    own = record { line = l.place.line; own_line = true; text = skip_white l.text }

    by_taken : ((n : ℕ) (ds : List Comment) → AreGoodRows (rows stop false n (row_at stop is_owned least cs l ls).least ds ls).0) → (o : Outcome (ℕ × List Comment)) →
        AreGoodRows (elim o as (λ _. List Row × List Comment) [
          | Ok e ↦ (row_at stop is_owned least cs l ls ∷ (rows stop false e.0 (row_at stop is_owned least cs l ls).least e.1 ls).0, (rows stop false e.0 (row_at stop is_owned least cs l ls).least e.1 ls).1)
          | Err e ↦ (row_at stop is_owned least cs l ls ∷ [], [])
        ]).0
    by_taken m (Ok e) = (good_row_at stop is_owned least cs l ls h.0 h.1, m e.0 e.1)
    by_taken m (Err e) = (good_row_at stop is_owned least cs l ls h.0 h.1, tt)

    by_blank : (p q r : List Row × List Comment) (a b : Bool) → AreGoodRows p.0 → AreGoodRows q.0 → AreGoodRows r.0 →
        AreGoodRows (elim a as (λ _. List Row × List Comment) [ true ↦ p | false ↦ elim b as (λ _. List Row × List Comment) [ true ↦ q | false ↦ r ] ]).0
    by_blank p q r true b x y z = x
    by_blank p q r false true x y z = y
    by_blank p q r false false x y z = z

-- ---- values and entries

good_row_value : (left : ℕ) (r : Row) → IsGoodRow r → IfOk (row_value left r) GoodValue
good_row_value left r g = good_value left r.open_place r.least (owner_of r) (passing r) (record { place = r.place; text = r.text; below = r.below }) (record { text = g.text; below = g.below })

abbrev pub GoodFound : Found → Type 0
GoodFound f = Held f.0

abbrev GoodEntry : Note × Content → Type 0
GoodEntry x = IsScalar (key_of x.0) × Held x.1

good_over : (f : Found) (rs : List Row) → GoodFound f → IfOk (over f rs) GoodFound
good_over f [] h = h
good_over f (r ∷ rs) h = tt

good_by_heads : {A : Type 0} (P : A → Type 0) (hs : List Head) (o : Outcome A) (f : Head → List Head → Outcome A) → AreGoodHeads hs → IfOk o P → ((h : Head) (hs : List Head) → AreGoodHeads (h ∷ hs) → IfOk (f h hs) P) →
    IfOk (elim hs as (λ _. Outcome A) [ [] ↦ o | h ∷ hs ↦ f h hs ]) P
good_by_heads P [] o f g p q = p
good_by_heads P (h ∷ hs) o f g p q = q h hs g

-- a row and the rows up to the next entry
unfoldable AreGoodEntries : List Entry → Type 0
AreGoodEntries [] = Unit {0}
AreGoodEntries (e ∷ es) = IsGoodRow e.row × AreGoodRows e.body × AreGoodEntries es

good_cut : (is_list : Bool) (n : ℕ) (rs : List Row) → AreGoodRows rs → AreGoodRows (cut_after is_list n rs).0 × AreGoodEntries (cut_after is_list n rs).1
unfolding cut_after AreGoodRows AreGoodEntries
good_cut is_list n [] h = (tt, tt)
good_cut is_list n (r ∷ rs) h = go (begins_entry is_list n r) (good_cut is_list n rs h.1)
  where
    go : (b : Bool) → AreGoodRows (cut_after is_list n rs).0 × AreGoodEntries (cut_after is_list n rs).1 →
        let p : List Row × List Entry = if b then ([], record { row = r; body = (cut_after is_list n rs).0 } ∷ (cut_after is_list n rs).1) else (r ∷ (cut_after is_list n rs).0, (cut_after is_list n rs).1) in
        AreGoodRows p.0 × AreGoodEntries p.1
    go true g = (tt, (h.0, g.0, g.1))
    go false g = ((h.0, g.0), g.1)

-- what reads a block
abbrev pub ReadsGood : (ℕ → Row → List Row → Outcome Content) → Type 0
ReadsGood block = (n : ℕ) (r : Row) (rs : List Row) → IsGoodRow r → AreGoodRows rs → IfOk (block n r rs) Held

module _ (left : ℕ) (block : ℕ → Row → List Row → Outcome Content) (b : ReadsGood block) where
  pub good_content : (rs : List Row) → AreGoodRows rs → IfOk (content_of left block rs) GoodFound
  unfolding content_of AreGoodRows
  good_content [] h = tt
  good_content (r ∷ rs) h = let g = h.0 in
      good_by_heads _ r.heads _ _ g.heads
      (yielded_then GoodValue _ (row_value left r) _ (good_row_value left r h.0) (λ v p. good_over (v.content, v.trailing) rs p))
      (λ i is k. yielded_then Held _ (block r.indent r rs) _ (b r.indent r rs h.0 h.1) (λ c p. p))

  good_entry_content : (r : Row) (body : List Row) → IsGoodRow r → AreGoodRows body → IfOk (entry_content left block r body) GoodFound
  unfolding entry_content
  good_entry_content r body g h =
      yielded_either _ (has_value r) _ _
      (yielded_then GoodValue _ (row_value left r) _ (good_row_value left r g) (λ v p. good_over (v.content, v.trailing) body p))
      (yielded_then GoodFound _ (content_of left block body) _ (good_content body h) (λ f p. p))

  good_entry : (r : Row) (m : Mark) (hs : List Head) (body : List Row) → IsGoodRow r → IsGoodMark m → AreGoodHeads hs → AreGoodRows body → IfOk (entry left block r m hs body) GoodEntry
  unfolding entry IsGoodMark
  good_entry r (key_mark k) hs body g m i h =
      yielded_then IsScalar _ (typed r.place k) _ (good_typed r.place k m) (λ s q.
      yielded_then GoodFound _ (entry_content left block r body) _ (good_entry_content r body g h) (λ f p. (q, p)))
  good_entry r dash_mark [] body g m i h = yielded_then GoodFound _ (entry_content left block r body) _ (good_entry_content r body g h) (λ f p. (tt, p))
  good_entry r dash_mark (x ∷ xs) body g m i h =
      yielded_then Held _ (block x.column (behind_head x.column (x ∷ xs) r) body) _
      (b x.column (behind_head x.column (x ∷ xs) r) body (record { heads = i; text = g.text; below = g.below }) h) (λ c p. (tt, p))

  good_entry_at : (is_list : Bool) (n : ℕ) (e : Entry) → IsGoodRow e.row → AreGoodRows e.body → IfOk (entry_at left block is_list n e) GoodEntry
  unfolding entry_at AreGoodHeads
  good_entry_at is_list n e g h =
      good_by_heads _ e.row.heads _ _ g.heads tt (λ x xs i.
      yielded_either _ (not x.has_tab && e.row.indent == n && ((is_list && is_dash_mark x.mark) || (not is_list && not (is_dash_mark x.mark)))) _ _
      (good_entry e.row x.mark xs e.body g i.0 i.1 h) tt)

  good_entries : (is_list : Bool) (n : ℕ) (es : List Entry) → AreGoodEntries es → IfOk (entries left block is_list n es) AreHeld
  unfolding entries AreGoodEntries
  good_entries is_list n [] h = tt
  good_entries is_list n (e ∷ es) h =
      yielded_then GoodEntry _ (entry_at left block is_list n e) _ (good_entry_at is_list n e h.0 h.1) (λ i p.
      yielded_then AreHeld _ (entries left block is_list n es) _ (good_entries is_list n es h.2) (λ is q. (p.0, p.1, q)))

either_held : (b : Bool) (is : Items) → AreHeld is → Held (if b then noted_list is else noted_map is)
either_held true is h = h
either_held false is h = h

pub good_doc : (left : ℕ) → ReadsGood (Doc left)
unfolding Doc AreGoodEntries
good_doc zero n r rs g h = tt
good_doc (suc left) n r rs g h =
    let c = good_cut (starts_with_dash r) n rs h in
    yielded_then AreHeld Held (entries left (Doc left) (starts_with_dash r) n (cut_block (starts_with_dash r) n r rs)) _
    (good_entries left (Doc left) (good_doc left) (starts_with_dash r) n (cut_block (starts_with_dash r) n r rs) (g, c.0, c.1))
    (either_held (starts_with_dash r))
