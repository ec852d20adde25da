-- The items that begin among the events of documents, with their kinds and lines, are those of the documents; so each text has rows.
use Rattle.std.proofs.Common.{◌≡◌, ℕ, suc, Bool, true, false, List, [], ◌∷◌, ◌++◌, map as each, Option, Some, None, Ok, refl, sym, ◌∙◌, ap, append-nil, if◌then◌else◌}
use Rattle.std.specs.Result.{IfOk}
use Rattle.std.proofs.lemmas.Result.{IfOk-at_ok}
use Rattle.ytt_base.specs.Outcomes.{place_at}
use Rattle.ytt_laws.proofs.Yielded.{yielded_behind, yielded_then}
use Rattle.yaml_spec.specs.Noted.{Comment, Content, noted_scalar, noted_list, noted_map, Items, no_items, item, Documents}
use Rattle.code_spec.specs.CodeReading.{CodeReader}
use Rattle.code_spec.specs.Program.{ItemKind, document_item, pair_item, element_item}
use Rattle.template_spec.specs.Comments.{Said, ignored, comment_said}
use Rattle.template_spec.specs.Events.{Path, Raw, begun, trails, loose, loose_all, trailing, comes_behind, is_collection, raw_items, raw_below, raw_text, Waiting, none_waits, waits, then_come, is_later, by_line, Held, nothing, held, held_trailing, let_go, goes_on, grown, gathered, Event, begins, beside, says, spoken, heard, events}
use Rattle.template_pass.specs.Flat.{flat_text}
use Rattle.template_pass.specs.Rows.{Start, started, flat_started, level_of}
use Rattle.template_pass.proofs.EventPuts.{rows_of}
use Rattle.template_pass.proofs.Settled.{Begun}
use Rattle.template_pass.proofs.TextItems.{flat_starts, start_of, text_begun}
use Rattle.template_pass.proofs.Trees.{items_begun, below_begun}

data Beginning : Type 0 where
  beginning : Path → ItemKind → (line : ℕ) → Beginning

abbrev raw_begun : List Raw → List Beginning
raw_begun [] = []
raw_begun (begun p k l ∷ xs) = beginning p k l ∷ raw_begun xs
raw_begun (trails p k b c ∷ xs) = raw_begun xs
raw_begun (loose c ∷ xs) = raw_begun xs

abbrev event_begun : List Event → List Beginning
event_begun [] = []
event_begun (begins p k l ∷ es) = beginning p k l ∷ event_begun es
event_begun (beside p k b l s ∷ es) = event_begun es
event_begun (says l s ∷ es) = event_begun es

abbrev tree_begun : List Begun → List Beginning
tree_begun [] = []
tree_begun (b ∷ bs) = beginning b.path b.kind b.line ∷ tree_begun bs

-- ---- the order of lines, gathering and hearing keep them

begun_come : (w : Waiting) (xs : List Raw) → raw_begun (then_come w xs) ≡ raw_begun xs
begun_come none_waits xs = refl
begun_come (waits p k b c) xs = refl

begun_if : (b : Bool) (xs ys : List Raw) (bs : List Beginning) → raw_begun xs ≡ bs → raw_begun ys ≡ bs → raw_begun (if b then xs else ys) ≡ bs
begun_if true xs ys bs h k = h
begun_if false xs ys bs h k = k

begun_by_line : (w : Waiting) (xs : List Raw) → raw_begun (by_line w xs) ≡ raw_begun xs
begun_by_line w [] = begun_come w []
begun_by_line w (begun p k l ∷ xs) = begun_come w (begun p k l ∷ by_line none_waits xs) ∙ ap (λ (bs : List Beginning). beginning p k l ∷ bs) (begun_by_line none_waits xs)
begun_by_line w (trails p k b c ∷ xs) = begun_come w (by_line (waits p k b c) xs) ∙ begun_by_line (waits p k b c) xs
begun_by_line w (loose d ∷ xs) =
    begun_if (is_later w d) (loose d ∷ by_line w xs) (then_come w (loose d ∷ by_line none_waits xs)) (raw_begun xs)
    (begun_by_line w xs) (begun_come w (loose d ∷ by_line none_waits xs) ∙ begun_by_line none_waits xs)

begun_let_go : (h : Held) (xs : List Raw) → raw_begun (let_go h xs) ≡ raw_begun xs
begun_let_go nothing xs = refl
begun_let_go (held c l) xs = refl
begun_let_go (held_trailing p k b c l) xs = refl

begun_either : (b : Bool) (xs ys : List Raw) (bs : List Beginning) → raw_begun xs ≡ bs → raw_begun ys ≡ bs → raw_begun (elim b as (λ _. List Raw) [ true ↦ xs | false ↦ ys ]) ≡ bs
begun_either true xs ys bs h k = h
begun_either false xs ys bs h k = k

begun_gathered : (r : CodeReader) (file : ℕ) (h : Held) (xs : List Raw) → raw_begun (gathered r file h xs) ≡ raw_begun xs
begun_gathered r file h [] = begun_let_go h []
begun_gathered r file h (begun p k l ∷ xs) = begun_let_go h (begun p k l ∷ gathered r file nothing xs) ∙ ap (λ (bs : List Beginning). beginning p k l ∷ bs) (begun_gathered r file nothing xs)
begun_gathered r file h (trails p k b c ∷ xs) = begun_let_go h (gathered r file (held_trailing p k b c c.line) xs) ∙ begun_gathered r file (held_trailing p k b c c.line) xs
begun_gathered r file h (loose c ∷ xs) =
    begun_either (goes_on r file h c) (gathered r file (grown h c) xs) (let_go h (gathered r file (held c c.line) xs)) (raw_begun xs)
    (begun_gathered r file (grown h c) xs) (begun_let_go h (gathered r file (held c c.line) xs) ∙ begun_gathered r file (held c c.line) xs)

begun_beside : (p : Path) (k : ItemKind) (b : Bool) (l : ℕ) (s : Said) (es : List Event) → event_begun (spoken s (beside p k b l) es) ≡ event_begun es
begun_beside p k b l ignored es = refl
begun_beside p k b l s es = refl

begun_says : (l : ℕ) (s : Said) (es : List Event) → event_begun (spoken s (says l) es) ≡ event_begun es
begun_says l ignored es = refl
begun_says l s es = refl

abbrev Same : List Raw → List Event → Type 0
Same xs es = event_begun es ≡ raw_begun xs

begun_heard : (r : CodeReader) (ignore : Bool) (file : ℕ) (xs : List Raw) → IfOk (heard r ignore file xs) (Same xs)
begun_heard r ignore file [] = refl
begun_heard r ignore file (begun p k l ∷ xs) =
    yielded_then (Same xs) (Same (begun p k l ∷ xs)) (heard r ignore file xs) _ (begun_heard r ignore file xs) (λ es e. ap (λ (bs : List Beginning). beginning p k l ∷ bs) e)
begun_heard r ignore file (trails p k b c ∷ xs) =
    yielded_behind (Same xs) (comment_said r ignore (place_at file c.line) c) _ (λ s.
    yielded_then (Same xs) (Same xs) (heard r ignore file xs) _ (begun_heard r ignore file xs) (λ es e. begun_beside p k b c.line s es ∙ e))
begun_heard r ignore file (loose c ∷ xs) =
    yielded_behind (Same xs) (comment_said r ignore (place_at file c.line) c) _ (λ s.
    yielded_then (Same xs) (Same xs) (heard r ignore file xs) _ (begun_heard r ignore file xs) (λ es e. begun_says c.line s es ∙ e))

-- ---- they are those of the tree

begun_loose : (cs : List Comment) (xs : List Raw) → raw_begun (loose_all cs xs) ≡ raw_begun xs
begun_loose [] xs = refl
begun_loose (c ∷ cs) xs = begun_loose cs xs

begun_trailing : (p : Path) (k : ItemKind) (b : Bool) (t : Option Comment) (xs : List Raw) → raw_begun (trailing p k b t xs) ≡ raw_begun xs
begun_trailing p k b None xs = refl
begun_trailing p k b (Some c) xs = refl

tree-append : (xs ys : List Begun) (ps : List Beginning) → tree_begun xs ++ (tree_begun ys ++ ps) ≡ tree_begun (xs ++ ys) ++ ps
tree-append [] ys ps = refl
tree-append (x ∷ xs) ys ps = ap (λ (qs : List Beginning). beginning x.path x.kind x.line ∷ qs) (tree-append xs ys ps)

by_order : (p : Path) (k : ItemKind) (z : Bool) (t : Option Comment) (below : List Raw → List Raw) (after : List Raw) (bs : List Begun) (b : Bool) →
    ((rest : List Raw) → raw_begun (below rest) ≡ tree_begun bs ++ raw_begun rest) →
    raw_begun (if b then below (trailing p k z t after) else trailing p k z t (below after)) ≡ tree_begun bs ++ raw_begun after
by_order p k z t below after bs true h = h (trailing p k z t after) ∙ ap (λ (ps : List Beginning). tree_begun bs ++ ps) (begun_trailing p k z t after)
by_order p k z t below after bs false h = begun_trailing p k z t (below after) ∙ h after

mutual
  items_are : (k : ItemKind) (c : Path) (n : ℕ) (is : Items) (rest : List Raw) → raw_begun (raw_items k c n is rest) ≡ tree_begun (items_begun k c n is) ++ raw_begun rest
  items_are k c n no_items rest = refl
  items_are k c n (item i x more) rest =
      begun_loose i.before _
      ∙ ap (λ (ps : List Beginning). beginning (n ∷ c) k i.place.line ∷ ps)
      (by_order (n ∷ c) k (is_collection x) i.trailing (raw_below (n ∷ c) x) (raw_items k c (suc n) more rest) (below_begun (n ∷ c) x) (comes_behind i.trailing x) (below_are (n ∷ c) x)
      ∙ ap (λ (ps : List Beginning). tree_begun (below_begun (n ∷ c) x) ++ ps) (items_are k c (suc n) more rest)
      ∙ tree-append (below_begun (n ∷ c) x) (items_begun k c (suc n) more) (raw_begun rest))

  below_are : (p : Path) (x : Content) (rest : List Raw) → raw_begun (raw_below p x rest) ≡ tree_begun (below_begun p x) ++ raw_begun rest
  below_are p (noted_scalar t) rest = refl
  below_are p (noted_list is) rest = items_are element_item p 0 is rest
  below_are p (noted_map is) rest = items_are pair_item p 0 is rest

text_are : (ds : Documents) → raw_begun (raw_text ds) ≡ tree_begun (items_begun document_item [] 0 ds.items)
text_are ds =
    items_are document_item [] 0 ds.items (loose_all ds.after [])
    ∙ ap (λ (ps : List Beginning). tree_begun (items_begun document_item [] 0 ds.items) ++ ps) (begun_loose ds.after [])
    ∙ append-nil (tree_begun (items_begun document_item [] 0 ds.items))

events_are : (r : CodeReader) (ignore : Bool) (file : ℕ) (ds : Documents) (es : List Event) → events r ignore file ds ≡ Ok es → event_begun es ≡ tree_begun (items_begun document_item [] 0 ds.items)
unfolding events
events_are r ignore file ds es e =
    let xs = by_line none_waits (raw_text ds) in
    IfOk-at_ok (Same (gathered r file nothing xs)) e (begun_heard r ignore file (gathered r file nothing xs)) ∙ begun_gathered r file nothing xs ∙ begun_by_line none_waits (raw_text ds) ∙ text_are ds

-- ---- rows

rows_started : (es : List Event) (bs : List Begun) → event_begun es ≡ tree_begun bs → started (rows_of es (each start_of bs)) ≡ each start_of bs
rows_started [] [] h = refl
rows_started [] (b ∷ bs) h = cc h
rows_started (begins p k l ∷ es) [] h = cc h
rows_started (begins p k l ∷ es) (b ∷ bs) h =
    let x : p ≡ b.path = cc h in
    let y : k ≡ b.kind = cc h in
    let z : l ≡ b.line = cc h in
    (λ i. record { level = level_of (x i); kind = y i; line = z i; key = b.key; written = b.written } ∷ started (rows_of es (each start_of bs)))
    ∙ ap (λ (ss : List Start). start_of b ∷ ss) (rows_started es bs (let u : event_begun es ≡ tree_begun bs = cc h in u))
rows_started (beside p k v l s ∷ es) bs h = rows_started es bs h
rows_started (says l s ∷ es) bs h = rows_started es bs h

-- the rows of a text's events, with the keys of its items and what is written in them, begin its items
pub text_rows : (r : CodeReader) (ignore : Bool) (file : ℕ) (ds : Documents) (es : List Event) → events r ignore file ds ≡ Ok es → started (rows_of es (flat_started (flat_text ds))) ≡ flat_started (flat_text ds)
text_rows r ignore file ds es e =
    let same : flat_started (flat_text ds) ≡ each start_of (items_begun document_item [] 0 ds.items) = flat_starts (flat_text ds) ∙ ap (λ (bs : List Begun). each start_of bs) (text_begun ds) in
    ap (λ (ss : List Start). started (rows_of es ss)) same ∙ rows_started es (items_begun document_item [] 0 ds.items) (events_are r ignore file ds es e) ∙ sym same
