-- A pass over the rows with a stack of open blocks reads what the definition by cutting reads.
use Rattle.std.proofs.Common.{◌≡◌, ℕ, zero, suc, Bool, true, false, not, ◌&&◌, ◌||◌, ◌==◌, List, [], ◌∷◌, ◌++◌, Option, Some, None, Ok, Err, refl, sym, ◌∙◌, ap, if◌then◌else◌}
use Rattle.ytt_base.specs.declared.fault.FaultKind.TheVariants as kind
use Rattle.ytt_base.specs.Outcomes.{Outcome, ◌>>=◌}
use Rattle.yaml_spec.specs.Refusals.{refused}
use Rattle.ytt_base.specs.Trees.{Scalar}
use Rattle.yaml_spec.specs.Plain.{typed}
use Rattle.yaml_spec.specs.Noted.{Comment, Note, Content, Items, no_items, item}
use Rattle.yaml_spec.specs.Values.{Value}
use Rattle.yaml_spec.specs.Rows.{Mark, dash_mark, key_mark, Head, Row, has_value, row_value}
use Rattle.yaml_spec.specs.Entries.{is_dash_mark, starts_with_dash, misplaced, Entry, begins_entry, cut_after, over, row_comment, note_of, behind_head, stray, Found, content_of, entry_content, entry, entry_at, entries, Doc}
use Rattle.ytt_laws.proofs.Chains.{then_same}
use Rattle.yaml_pass.specs.Machine.{Frame, Hole, wanting, filled, wrap, with_items, Begun, Opened, begin_content, begin_entry, begin_at, opens, finish, step, run}

-- ---- what the definition gives for the rows that are left

-- the rest of a block whose open entry has what `inner` gives for its body
abbrev pub rest_of : Frame → (List Row → Outcome Found) → List Row → Outcome Content
rest_of f inner rs =
    let p = cut_after f.is_list f.indent rs in
    inner p.0 >>= (λ c. entries f.left (Doc f.left) f.is_list f.indent p.1 >>= (λ is.
    Ok (wrap f.is_list (with_items f.done (item f.note c.0 is)))))

abbrev pub meaning : ℕ → List Frame → Hole → List Row → Outcome Found
meaning left [] wanting rs = content_of left (Doc left) rs
meaning left [] (filled f) rs = over f rs
meaning left (f ∷ fs) h rs = rest_of f (meaning f.left fs h) rs >>= (λ c. Ok (c, None))

-- ---- entries

-- what an entry that has begun gives for its body
abbrev pub entry_rest : ℕ → List Row → Begun → Outcome (Note × Content)
entry_rest left body b = meaning left b.1 b.2 body >>= (λ c. Ok (b.0, c.0))

-- what a block that has begun gives for its further rows
abbrev pub block_rest : List Row → Opened → Outcome Content
block_rest rs o = rest_of o.0 (meaning o.0.left o.1 o.2) rs

abbrev noted_as : Row → Option Scalar → Found → Outcome (Note × Content)
noted_as r k f = Ok (note_of r k f.1, f.0)

abbrev begun_as : Row → Option Scalar → Option Comment × Hole → Outcome Begun
begun_as r k b = Ok (note_of r k b.0, [], b.1)

abbrev filled_by : Value → Outcome (Option Comment × Hole)
filled_by v = Ok (v.trailing, filled (v.content, v.trailing))

abbrev found_over : List Row → Value → Outcome Found
found_over body v = over (v.content, v.trailing) body

abbrev with_comment : Row → Found → Outcome Found
with_comment r f = Ok (f.0, row_comment r)

abbrev with_note : Note → Content → Outcome (Note × Content)
with_note n c = Ok (n, c)

abbrev opened_as : Note → Opened → Outcome Begun
opened_as n o = Ok (n, o.0 ∷ o.1, o.2)

over_begun : (left : ℕ) (r : Row) (body : List Row) (k : Option Scalar) (f : Found) →
    over f body >>= noted_as r k ≡ entry_rest left body (note_of r k f.1, [], filled f)
over_begun left r [] k f = refl
over_begun left r (q ∷ qs) k f = refl

value_begun : (left : ℕ) (r : Row) (body : List Row) (k : Option Scalar) (o : Outcome Value) →
    (o >>= found_over body) >>= noted_as r k ≡ ((o >>= filled_by) >>= begun_as r k) >>= entry_rest left body
value_begun left r body k (Ok v) = over_begun left r body k (v.content, v.trailing)
value_begun left r body k (Err e) = refl

none_begun : (left : ℕ) (r : Row) (body : List Row) (k : Option Scalar) (o : Outcome Found) → o ≡ content_of left (Doc left) body →
    (o >>= with_comment r) >>= noted_as r k ≡ o >>= (λ c. with_note (note_of r k (row_comment r)) c.0)
none_begun left r body k (Ok f) e = refl
none_begun left r body k (Err f) e = refl

begun_by : (left : ℕ) (r : Row) (body : List Row) (k : Option Scalar) (b : Bool) →
    elim b as (λ _. Outcome Found) [ true ↦ row_value left r >>= found_over body | false ↦ content_of left (Doc left) body >>= with_comment r ] >>= noted_as r k
    ≡ (elim b as (λ _. Outcome (Option Comment × Hole)) [ true ↦ row_value left r >>= filled_by | false ↦ Ok (row_comment r, wanting) ] >>= begun_as r k)
    >>= entry_rest left body
begun_by left r body k true = value_begun left r body k (row_value left r)
begun_by left r body k false = none_begun left r body k (content_of left (Doc left) body) refl

pub content_begun : (left : ℕ) (r : Row) (body : List Row) (k : Option Scalar) →
    entry_content left (Doc left) r body >>= noted_as r k ≡ (begin_content left r >>= begun_as r k) >>= entry_rest left body
unfolding entry_content
content_begun left r body k = begun_by left r body k (has_value r)

-- the content of a block, and what follows from it
abbrev pub OpensAt : ℕ → Type 0
OpensAt left = (n : ℕ) (r : Row) (rs : List Row) → Doc left n r rs ≡ opens left n r >>= block_rest rs

key_begun : (left : ℕ) (r : Row) (body : List Row) (o : Outcome Scalar) →
    o >>= (λ s. entry_content left (Doc left) r body >>= noted_as r (Some s))
    ≡ (o >>= (λ s. begin_content left r >>= begun_as r (Some s))) >>= entry_rest left body
key_begun left r body (Ok s) = content_begun left r body (Some s)
key_begun left r body (Err e) = refl

opened_rest : (note : Note) (o : Outcome Content) → o >>= with_note note ≡ (o >>= (λ c. Ok (c, None))) >>= (λ (f : Found). with_note note f.0)
opened_rest note (Ok c) = refl
opened_rest note (Err e) = refl

block_begun : (note : Note) (left : ℕ) (body : List Row) (o : Outcome Opened) →
    (o >>= block_rest body) >>= with_note note ≡ (o >>= opened_as note) >>= entry_rest left body
block_begun note left body (Ok o) = opened_rest note (block_rest body o)
block_begun note left body (Err e) = refl

pub entry_begun : (left : ℕ) → OpensAt left → (r : Row) (m : Mark) (hs : List Head) (body : List Row) →
    entry left (Doc left) r m hs body ≡ begin_entry left (opens left) r m hs >>= entry_rest left body
unfolding entry
entry_begun left block r (key_mark k) hs body = key_begun left r body (typed r.place k)
entry_begun left block r dash_mark [] body = content_begun left r body None
entry_begun left block r dash_mark (h ∷ hs) body =
    ap (λ (o : Outcome Content). o >>= with_note (note_of r None None)) (block h.column (behind_head h.column (h ∷ hs) r) body)
    ∙ block_begun (note_of r None None) left body (opens left h.column (behind_head h.column (h ∷ hs) r))

-- the same with the tests on the row
fits : Bool → ℕ → Row → Head → Bool
fits is_list n r h = not h.has_tab && r.indent == n && ((is_list && is_dash_mark h.mark) || (not is_list && not (is_dash_mark h.mark)))

tested : (left : ℕ) → OpensAt left → (r : Row) (h : Head) (hs : List Head) (body : List Row) (b : Bool) →
    elim b as (λ _. Outcome (Note × Content)) [ true ↦ entry left (Doc left) r h.mark hs body | false ↦ misplaced r kind.YamlForm ]
    ≡ elim b as (λ _. Outcome Begun) [ true ↦ begin_entry left (opens left) r h.mark hs | false ↦ misplaced r kind.YamlForm ] >>= entry_rest left body
tested left block r h hs body true = entry_begun left block r h.mark hs body
tested left block r h hs body false = refl

by_heads : (left : ℕ) → OpensAt left → (is_list : Bool) (n : ℕ) (r : Row) (body : List Row) (heads : List Head) →
    elim heads as (λ _. Outcome (Note × Content)) [
      | [] ↦ refused (if r.indent == n then stray r else kind.YamlForm) r.place
      | h ∷ hs ↦ elim (not h.has_tab && r.indent == n && ((is_list && is_dash_mark h.mark) || (not is_list && not (is_dash_mark h.mark)))) [
        | true ↦ entry left (Doc left) r h.mark hs body
        | false ↦ misplaced r kind.YamlForm
      ]
    ]
    ≡ elim heads as (λ _. Outcome Begun) [
      | [] ↦ refused (if r.indent == n then stray r else kind.YamlForm) r.place
      | h ∷ hs ↦ elim (not h.has_tab && r.indent == n && ((is_list && is_dash_mark h.mark) || (not is_list && not (is_dash_mark h.mark)))) [
        | true ↦ begin_entry left (opens left) r h.mark hs
        | false ↦ misplaced r kind.YamlForm
      ]
    ] >>= entry_rest left body
by_heads left block is_list n r body [] = refl
by_heads left block is_list n r body (h ∷ hs) =
    tested left block r h hs body (not h.has_tab && r.indent == n && ((is_list && is_dash_mark h.mark) || (not is_list && not (is_dash_mark h.mark))))

pub at_begun : (left : ℕ) → OpensAt left → (is_list : Bool) (n : ℕ) (r : Row) (body : List Row) →
    entry_at left (Doc left) is_list n (record { row = r; body = body }) ≡ begin_at left (opens left) is_list n r >>= entry_rest left body
unfolding entry_at
at_begun left block is_list n r body = by_heads left block is_list n r body r.heads

-- ---- blocks

abbrev as_item : Note × Content → Items → Outcome Items
as_item i is = Ok (item i.0 i.1 is)

abbrev wrapped : Bool → Items → Outcome Content
wrapped is_list is = Ok (wrap is_list is)

abbrev wrapped_behind : Bool → List (Note × Content) → Items → Outcome Content
wrapped_behind is_list done is = Ok (wrap is_list (with_items done is))

-- a block's first entry and the others
block_items : (is_list : Bool) (note : Note) (o : Outcome Found) (es : Outcome Items) →
    ((o >>= (λ c. with_note note c.0)) >>= (λ i. es >>= as_item i)) >>= wrapped is_list
    ≡ o >>= (λ c. es >>= (λ is. wrapped is_list (item note c.0 is)))
block_items is_list note (Ok c) (Ok is) = refl
block_items is_list note (Ok c) (Err e) = refl
block_items is_list note (Err e) es = refl

abbrev framed : ℕ → ℕ → Bool → Begun → Outcome Opened
framed left n is_list b = Ok (record { left = left; indent = n; is_list = is_list; done = []; note = b.0 }, b.1, b.2)

block_begins : (left n : ℕ) (is_list : Bool) (rs : List Row) (o : Outcome Begun) →
    ((o >>= entry_rest left (cut_after is_list n rs).0) >>= (λ i. entries left (Doc left) is_list n (cut_after is_list n rs).1 >>= as_item i)) >>= wrapped is_list
    ≡ (o >>= framed left n is_list) >>= block_rest rs
block_begins left n is_list rs (Ok b) =
    block_items is_list b.0 (meaning left b.1 b.2 (cut_after is_list n rs).0) (entries left (Doc left) is_list n (cut_after is_list n rs).1)
block_begins left n is_list rs (Err e) = refl

-- a block by cutting is a block that its first row opens, with what follows from the others
pub doc_opens : (left : ℕ) → OpensAt left
unfolding Doc entries
doc_opens zero n r rs = refl
doc_opens (suc left) n r rs =
    ap (λ (o : Outcome (Note × Content)).
    (o >>= (λ i. entries left (Doc left) (starts_with_dash r) n (cut_after (starts_with_dash r) n rs).1 >>= as_item i)) >>= wrapped (starts_with_dash r))
    (at_begun left (doc_opens left) (starts_with_dash r) n r (cut_after (starts_with_dash r) n rs).0)
    ∙ block_begins left n (starts_with_dash r) rs (begin_at left (opens left) (starts_with_dash r) n r)

-- ---- rows

abbrev no_comment : Content → Outcome Found
no_comment c = Ok (c, None)

-- with no row left, the open blocks close
pub meaning-end : (left : ℕ) (fs : List Frame) (h : Hole) → meaning left fs h [] ≡ Ok (finish fs h)
unfolding content_of cut_after entries
meaning-end left [] wanting = refl
meaning-end left [] (filled f) = refl
meaning-end left (f ∷ fs) h =
    ap (λ (o : Outcome Found). (o >>= (λ c. wrapped_behind f.is_list f.done (item f.note c.0 no_items))) >>= no_comment) (meaning-end f.left fs h)

with_items-append : (done : List (Note × Content)) (x : Note × Content) (is : Items) → with_items (done ++ x ∷ []) is ≡ with_items done (item x.0 x.1 is)
with_items-append [] x is = refl
with_items-append (y ∷ ys) x is = ap (item y.0 y.1) (with_items-append ys x is)

-- the items of a block, where one more entry has begun
more_items : (is_list : Bool) (done : List (Note × Content)) (x : Note × Content) (note : Note) (o : Outcome Found) (es : Outcome Items) →
    (((o >>= (λ c. with_note note c.0)) >>= (λ i. es >>= as_item i)) >>= (λ is. wrapped_behind is_list done (item x.0 x.1 is))) >>= no_comment
    ≡ (o >>= (λ c. es >>= (λ is. wrapped_behind is_list (done ++ x ∷ []) (item note c.0 is)))) >>= no_comment
more_items is_list done x note (Ok c) (Ok is) =
    ap (λ (js : Items). wrapped is_list js >>= no_comment) (sym (with_items-append done x (item note c.0 is)))
more_items is_list done x note (Ok c) (Err e) = refl
more_items is_list done x note (Err e) es = refl

-- an entry of an open block begins
entry_begins : (left : ℕ) (f : Frame) (x : Found) (rs : List Row) (o : Outcome Begun) →
    ((((o >>= entry_rest f.left (cut_after f.is_list f.indent rs).0) >>= (λ i. entries f.left (Doc f.left) f.is_list f.indent (cut_after f.is_list f.indent rs).1 >>= as_item i))
    >>= (λ is. wrapped_behind f.is_list f.done (item f.note x.0 is))) >>= no_comment)
    ≡ (o >>= (λ b. Ok (record f { done = f.done ++ (f.note, x.0) ∷ []; note = b.0 } ∷ b.1, b.2))) >>= (λ (s : List Frame × Hole). meaning left s.0 s.1 rs)
entry_begins left f x rs (Ok b) =
    more_items f.is_list f.done (f.note, x.0) b.0 (meaning f.left b.1 b.2 (cut_after f.is_list f.indent rs).0)
    (entries f.left (Doc f.left) f.is_list f.indent (cut_after f.is_list f.indent rs).1)
entry_begins left f x rs (Err e) = refl

value_row : (left : ℕ) (rs : List Row) (o : Outcome Value) →
    o >>= found_over rs ≡ (o >>= (λ v. Ok ([], filled (v.content, v.trailing)))) >>= (λ (s : List Frame × Hole). meaning left s.0 s.1 rs)
value_row left rs (Ok v) = refl
value_row left rs (Err e) = refl

block_row : (left : ℕ) (rs : List Row) (o : Outcome Opened) →
    (o >>= block_rest rs) >>= no_comment ≡ (o >>= (λ o. Ok (o.0 ∷ o.1, o.2))) >>= (λ (s : List Frame × Hole). meaning left s.0 s.1 rs)
block_row left rs (Ok o) = refl
block_row left rs (Err e) = refl

content_row : (left : ℕ) (r : Row) (rs : List Row) (heads : List Head) →
    elim heads as (λ _. Outcome Found) [ [] ↦ row_value left r >>= found_over rs | h ∷ hs ↦ Doc left r.indent r rs >>= no_comment ]
    ≡ elim heads as (λ _. Outcome (List Frame × Hole)) [
      | [] ↦ row_value left r >>= (λ v. Ok ([], filled (v.content, v.trailing)))
      | h ∷ hs ↦ opens left r.indent r >>= (λ o. Ok (o.0 ∷ o.1, o.2))
    ] >>= (λ (s : List Frame × Hole). meaning left s.0 s.1 rs)
content_row left r rs [] = value_row left rs (row_value left r)
content_row left r rs (h ∷ hs) = ap (λ (o : Outcome Content). o >>= no_comment) (doc_opens left r.indent r rs) ∙ block_row left rs (opens left r.indent r)

-- a row inside the open entry of a block
inner_row : (f : Frame) (es : List Entry) (fs : List Frame) (left : ℕ) (rs : List Row) (o : Outcome (List Frame × Hole)) → es ≡ (cut_after f.is_list f.indent rs).1 →
    ((o >>= (λ (s : List Frame × Hole). meaning f.left s.0 s.1 (cut_after f.is_list f.indent rs).0))
    >>= (λ c. entries f.left (Doc f.left) f.is_list f.indent (cut_after f.is_list f.indent rs).1 >>= (λ is. wrapped_behind f.is_list f.done (item f.note c.0 is)))) >>= no_comment
    ≡ (o >>= (λ s. Ok (f ∷ s.0, s.1))) >>= (λ (s : List Frame × Hole). meaning left s.0 s.1 rs)
inner_row f es fs left rs (Ok s) e = refl
inner_row f es fs left rs (Err k) e = refl

-- the two parts of the rows, by whether the first begins an entry
abbrev parted : Frame → Row → List Row → Bool → List Row × List Entry
parted f r rs b =
    if b then ([], record { row = r; body = (cut_after f.is_list f.indent rs).0 } ∷ (cut_after f.is_list f.indent rs).1)
    else (r ∷ (cut_after f.is_list f.indent rs).0, (cut_after f.is_list f.indent rs).1)

abbrev block_of : Frame → (List Row → Outcome Found) → List Row × List Entry → Outcome Found
block_of f inner p =
    (inner p.0 >>= (λ c. entries f.left (Doc f.left) f.is_list f.indent p.1 >>= (λ is. wrapped_behind f.is_list f.done (item f.note c.0 is)))) >>= no_comment

by_begin : (left : ℕ) (f : Frame) (fs : List Frame) (h : Hole) (r : Row) (rs : List Row) (b : Bool) →
    meaning f.left fs h (r ∷ (cut_after f.is_list f.indent rs).0) ≡ step f.left fs h r >>= (λ s. meaning f.left s.0 s.1 (cut_after f.is_list f.indent rs).0) →
    block_of f (meaning f.left fs h) (parted f r rs b)
    ≡ elim b as (λ _. Outcome (List Frame × Hole)) [
      | true ↦ begin_at f.left (opens f.left) f.is_list f.indent r >>= (λ b. Ok (record f { done = f.done ++ (f.note, (finish fs h).0) ∷ []; note = b.0 } ∷ b.1, b.2))
      | false ↦ step f.left fs h r >>= (λ s. Ok (f ∷ s.0, s.1))
    ] >>= (λ (s : List Frame × Hole). meaning left s.0 s.1 rs)
unfolding entries
by_begin left f fs h r rs true next =
    ap (λ (o : Outcome Found). (o >>= (λ c. entries f.left (Doc f.left) f.is_list f.indent
    (record { row = r; body = (cut_after f.is_list f.indent rs).0 } ∷ (cut_after f.is_list f.indent rs).1)
    >>= (λ is. wrapped_behind f.is_list f.done (item f.note c.0 is)))) >>= no_comment) (meaning-end f.left fs h)
    ∙ ap (λ (o : Outcome (Note × Content)).
    ((o >>= (λ i. entries f.left (Doc f.left) f.is_list f.indent (cut_after f.is_list f.indent rs).1 >>= as_item i))
    >>= (λ is. wrapped_behind f.is_list f.done (item f.note (finish fs h).0 is))) >>= no_comment)
    (at_begun f.left (doc_opens f.left) f.is_list f.indent r (cut_after f.is_list f.indent rs).0)
    ∙ entry_begins left f (finish fs h) rs (begin_at f.left (opens f.left) f.is_list f.indent r)
by_begin left f fs h r rs false next =
    ap (λ (o : Outcome Found). (o >>= (λ c. entries f.left (Doc f.left) f.is_list f.indent (cut_after f.is_list f.indent rs).1
    >>= (λ is. wrapped_behind f.is_list f.done (item f.note c.0 is)))) >>= no_comment) next
    ∙ inner_row f (cut_after f.is_list f.indent rs).1 fs left rs (step f.left fs h r) refl

-- the meaning of the rows that are left is that of the machine's next state
pub meaning-row : (left : ℕ) (fs : List Frame) (h : Hole) (r : Row) (rs : List Row) →
    meaning left fs h (r ∷ rs) ≡ step left fs h r >>= (λ s. meaning left s.0 s.1 rs)
unfolding content_of cut_after
meaning-row left [] wanting r rs = content_row left r rs r.heads
meaning-row left [] (filled f) r rs = refl
meaning-row left (f ∷ fs) h r rs =
    by_begin left f fs h r rs (begins_entry f.is_list f.indent r) (meaning-row f.left fs h r (cut_after f.is_list f.indent rs).0)

-- the machine reads what the definition reads
pub run-meaning : (left : ℕ) (fs : List Frame) (h : Hole) (rs : List Row) → run left fs h rs ≡ meaning left fs h rs
run-meaning left fs h [] = sym (meaning-end left fs h)
run-meaning left fs h (r ∷ rs) = then_same (step left fs h r) _ _ (λ s. run-meaning left s.0 s.1 rs) ∙ sym (meaning-row left fs h r rs)

pub run-content_of : (left : ℕ) (rs : List Row) → run left [] wanting rs ≡ content_of left (Doc left) rs
run-content_of left rs = run-meaning left [] wanting rs
