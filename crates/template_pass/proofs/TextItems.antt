-- The items of a text's rows are those of its tree, and what is said beside an item comes while the last item is in it.
use Rattle.std.proofs.Common.{◌≡◌, ℕ, suc, Bool, true, false, if◌then◌else◌, List, [], ◌∷◌, ◌++◌, length, drop, map as each, Option, Some, None, Ok, refl, sym, ◌∙◌, ap, ap₂}
use Rattle.std.specs.Result.{IfOk}
use Rattle.std.proofs.lemmas.Result.{IfOk-at_ok}
use Rattle.std.proofs.lemmas.List.{append-nil}
use Rattle.ytt_base.specs.Outcomes.{place_at}
use Rattle.ytt_base.specs.Trees.{Scalar}
use Rattle.ytt_laws.proofs.Yielded.{yielded_behind, yielded_then}
use Rattle.yaml_spec.specs.Noted.{Comment, Content, noted_scalar, noted_list, noted_map, Items, no_items, item, Documents}
use Rattle.code_spec.specs.CodeReading.{CodeReader}
use Rattle.code_spec.specs.Program.{ItemKind, document_item, pair_item, element_item}
use Rattle.template_spec.specs.Comments.{Said, ignored, comment_said}
use Rattle.template_spec.specs.Events as event
use Rattle.template_spec.specs.Events.{Path, Raw, begun, trails, loose, comes_behind, is_collection, raw_items, raw_below, raw_text, Waiting, none_waits, waits, then_come, is_later, by_line, Held, nothing, held, held_trailing, let_go, goes_on, grown, gathered, Event, begins, beside, says, spoken, heard, events}
use Rattle.template_pass.specs.Flat.{Shape, Flat, starts, trailing_of, alone, loose_all, trailing, inside, start, flat_items, flat_below, flat_text}
use Rattle.template_pass.specs.Rows.{level_of, Start, started, flat_started}
use Rattle.template_pass.proofs.EventPuts.{BesideStands, rows_of}
use Rattle.template_pass.proofs.Inside.{inside_more}
use Rattle.template_pass.proofs.OrderlyEvents.{begun_in, begun_by, begun_loose, begun_trailing, events_begun}
use Rattle.template_pass.proofs.Paths.{In, in_itself, in_through}
use Rattle.template_pass.proofs.Settled as settled
use Rattle.template_pass.proofs.Settled.{Begun}
use Rattle.template_pass.proofs.Trees.{begun_of, items_begun, below_begun}

-- ---- the items of rows

abbrev pub start_of : Begun → Start
start_of b = record { level = level_of b.path; kind = b.kind; line = b.line; key = b.key; written = b.written }

abbrev paths_of : List Begun → List Path
paths_of [] = []
paths_of (b ∷ bs) = b.path ∷ paths_of bs

begun_same : (es : List Event) (ss : List Start) (bs : List Begun) → started (rows_of es ss) ≡ each start_of bs → begun_by es ≡ paths_of bs → settled.begun_in es ss ≡ bs
begun_same [] ss [] h e = refl
begun_same [] ss (b ∷ bs) h e = cc h
begun_same (begins p k l ∷ es) ss [] h e = cc h
begun_same (begins p k l ∷ es) ss (b ∷ bs) h e =
    ap₂ (λ (x : Begun) (xs : List Begun). x ∷ xs) (one b p k l _ _ (cc e) (cc h)) (begun_same es (drop 1 ss) bs (cc h) (cc e))
  where
    one : (b : Begun) (p : Path) (k : ItemKind) (l : ℕ) (key : Option Scalar) (w : Shape) → p ≡ b.path →
        (record { level = level_of p; kind = k; line = l; key = key; written = w }) ≡ start_of b → (record { path = p; kind = k; line = l; key = key; written = w }) ≡ b
    one b p k l key w a s = λ i. record { path = a i; kind = (s i).kind; line = (s i).line; key = (s i).key; written = (s i).written }
begun_same (beside p k v l s ∷ es) ss bs h e = begun_same es ss bs h e
begun_same (says l s ∷ es) ss bs h e = begun_same es ss bs h e

-- ---- the items of the tree

pub flat_begun : List Flat → List Begun
flat_begun [] = []
flat_begun (starts p k l key w ∷ fs) = record { path = p; kind = k; line = l; key = key; written = w } ∷ flat_begun fs
flat_begun (trailing_of p k b c ∷ fs) = flat_begun fs
flat_begun (alone c ∷ fs) = flat_begun fs

flat-append : (xs ys : List Flat) → flat_begun (xs ++ ys) ≡ flat_begun xs ++ flat_begun ys
unfolding flat_begun
flat-append [] ys = refl
flat-append (starts p k l key w ∷ xs) ys = ap (λ (bs : List Begun). record { path = p; kind = k; line = l; key = key; written = w } ∷ bs) (flat-append xs ys)
flat-append (trailing_of p k b c ∷ xs) ys = flat-append xs ys
flat-append (alone c ∷ xs) ys = flat-append xs ys

behind_loose : (cs : List Comment) (fs : List Flat) → flat_begun (loose_all cs ++ fs) ≡ flat_begun fs
unfolding flat_begun
behind_loose [] fs = refl
behind_loose (c ∷ cs) fs = behind_loose cs fs

behind_trailing : (p : Path) (k : ItemKind) (b : Bool) (t : Option Comment) (fs : List Flat) → flat_begun (trailing p k b t ++ fs) ≡ flat_begun fs
unfolding flat_begun
behind_trailing p k b None fs = refl
behind_trailing p k b (Some c) fs = refl

begun_inside : (b : Bool) (p : Path) (k : ItemKind) (z : Bool) (t : Option Comment) (fs : List Flat) → flat_begun (inside b (trailing p k z t) fs) ≡ flat_begun fs
unfolding flat_begun
begun_inside true p k z t fs =
    flat-append fs (trailing p k z t) ∙ ap (λ (bs : List Begun). flat_begun fs ++ bs) (ap flat_begun (sym (append-nil (trailing p k z t))) ∙ behind_trailing p k z t []) ∙ append-nil (flat_begun fs)
begun_inside false p k z t fs = behind_trailing p k z t fs

mutual
  unfolding flat_begun

  flat_items_begun : (k : ItemKind) (c : Path) (n : ℕ) (is : Items) → flat_begun (flat_items k c n is) ≡ items_begun k c n is
  flat_items_begun k c n no_items = refl
  flat_items_begun k c n (item i x more) =
      flat-append (loose_all i.before ++ start (n ∷ c) k i x ∷ inside (comes_behind i.trailing x) (trailing (n ∷ c) k (is_collection x) i.trailing) (flat_below (n ∷ c) x)) (flat_items k c (suc n) more)
      ∙ ap₂ (λ (xs ys : List Begun). xs ++ ys)
      (behind_loose i.before (start (n ∷ c) k i x ∷ inside (comes_behind i.trailing x) (trailing (n ∷ c) k (is_collection x) i.trailing) (flat_below (n ∷ c) x))
      ∙ ap (λ (bs : List Begun). begun_of (n ∷ c) k i x ∷ bs)
      (begun_inside (comes_behind i.trailing x) (n ∷ c) k (is_collection x) i.trailing (flat_below (n ∷ c) x) ∙ flat_below_begun (n ∷ c) x))
      (flat_items_begun k c (suc n) more)

  flat_below_begun : (p : Path) (x : Content) → flat_begun (flat_below p x) ≡ below_begun p x
  flat_below_begun p (noted_scalar t) = refl
  flat_below_begun p (noted_list is) = flat_items_begun element_item p 0 is
  flat_below_begun p (noted_map is) = flat_items_begun pair_item p 0 is

pub flat_starts : (fs : List Flat) → flat_started fs ≡ each start_of (flat_begun fs)
unfolding flat_begun
flat_starts [] = refl
flat_starts (starts p k l key w ∷ fs) = ap (λ (ss : List Start). record { level = level_of p; kind = k; line = l; key = key; written = w } ∷ ss) (flat_starts fs)
flat_starts (trailing_of p k b c ∷ fs) = flat_starts fs
flat_starts (alone c ∷ fs) = flat_starts fs

pub text_begun : (ds : Documents) → flat_begun (flat_text ds) ≡ items_begun document_item [] 0 ds.items
unfolding flat_begun
text_begun ds =
    flat-append (flat_items document_item [] 0 ds.items) (loose_all ds.after)
    ∙ ap₂ (λ (xs ys : List Begun). xs ++ ys) (flat_items_begun document_item [] 0 ds.items) (ap flat_begun (sym (append-nil (loose_all ds.after))) ∙ behind_loose ds.after [])
    ∙ append-nil (items_begun document_item [] 0 ds.items)

paths-append : (xs ys : List Begun) (ps : List Path) → paths_of xs ++ (paths_of ys ++ ps) ≡ paths_of (xs ++ ys) ++ ps
paths-append [] ys ps = refl
paths-append (x ∷ xs) ys ps = ap (λ (qs : List Path). x.path ∷ qs) (paths-append xs ys ps)

by_order : (p : Path) (k : ItemKind) (z : Bool) (t : Option Comment) (below : List Raw → List Raw) (after : List Raw) (bs : List Begun) (b : Bool) →
    ((rest : List Raw) → begun_in (below rest) ≡ paths_of bs ++ begun_in rest) →
    begun_in (if b then below (event.trailing p k z t after) else event.trailing p k z t (below after)) ≡ paths_of bs ++ begun_in after
by_order p k z t below after bs true h = h (event.trailing p k z t after) ∙ ap (λ (ps : List Path). paths_of bs ++ ps) (begun_trailing p k z t after)
by_order p k z t below after bs false h = begun_trailing p k z t (below after) ∙ h after

mutual
  raw_items_begun : (k : ItemKind) (c : Path) (n : ℕ) (is : Items) (rest : List Raw) → begun_in (raw_items k c n is rest) ≡ paths_of (items_begun k c n is) ++ begun_in rest
  raw_items_begun k c n no_items rest = refl
  raw_items_begun k c n (item i x more) rest =
      begun_loose i.before _
      ∙ ap (λ (ps : List Path). (n ∷ c) ∷ ps)
      (by_order (n ∷ c) k (is_collection x) i.trailing (raw_below (n ∷ c) x) (raw_items k c (suc n) more rest) (below_begun (n ∷ c) x) (comes_behind i.trailing x) (raw_below_begun (n ∷ c) x)
      ∙ ap (λ (ps : List Path). paths_of (below_begun (n ∷ c) x) ++ ps) (raw_items_begun k c (suc n) more rest)
      ∙ paths-append (below_begun (n ∷ c) x) (items_begun k c (suc n) more) (begun_in rest))

  raw_below_begun : (p : Path) (x : Content) (rest : List Raw) → begun_in (raw_below p x rest) ≡ paths_of (below_begun p x) ++ begun_in rest
  raw_below_begun p (noted_scalar t) rest = refl
  raw_below_begun p (noted_list is) rest = raw_items_begun element_item p 0 is rest
  raw_below_begun p (noted_map is) rest = raw_items_begun pair_item p 0 is rest

text_paths : (ds : Documents) → begun_in (raw_text ds) ≡ paths_of (items_begun document_item [] 0 ds.items)
text_paths ds =
    raw_items_begun document_item [] 0 ds.items (event.loose_all ds.after [])
    ∙ ap (λ (ps : List Path). paths_of (items_begun document_item [] 0 ds.items) ++ ps) (begun_loose ds.after [])
    ∙ append-nil (paths_of (items_begun document_item [] 0 ds.items))

-- the rows of a text begin the items of its tree
pub text_items : (r : CodeReader) (ignore : Bool) (file : ℕ) (ds : Documents) (es : List Event) (ss : List Start) →
    events r ignore file ds ≡ Ok es → started (rows_of es ss) ≡ flat_started (flat_text ds) → settled.begun_in es ss ≡ items_begun document_item [] 0 ds.items
text_items r ignore file ds es ss e h =
    begun_same es ss (items_begun document_item [] 0 ds.items)
    (h ∙ flat_starts (flat_text ds) ∙ ap (λ (bs : List Begun). each start_of bs) (text_begun ds))
    (events_begun r ignore file ds es e ∙ text_paths ds)

-- ---- what is said beside items

-- so of a comment beside an item
abbrev RawStands : (last : Path) → List Raw → Type 0
RawStands q [] = Unit {0}
RawStands q (begun p k l ∷ xs) = RawStands p xs
RawStands q (trails p k b c ∷ xs) = In q p × (suc (level_of p) ≡ length p) × RawStands q xs
RawStands q (loose c ∷ xs) = RawStands q xs

abbrev HeldStands : (last : Path) → Held → Type 0
HeldStands q nothing = Unit {0}
HeldStands q (held c l) = Unit {0}
HeldStands q (held_trailing p k b c l) = In q p × (suc (level_of p) ≡ length p)

loose_stand : (q : Path) (cs : List Comment) (xs : List Raw) → RawStands q xs → RawStands q (event.loose_all cs xs)
loose_stand q [] xs h = h
loose_stand q (c ∷ cs) xs h = loose_stand q cs xs h

trailing_stands : (q c : Path) (n : ℕ) (k : ItemKind) (b : Bool) (t : Option Comment) (xs : List Raw) → In q (n ∷ c) → RawStands q xs → RawStands q (event.trailing (n ∷ c) k b t xs)
trailing_stands q c n k b None xs i h = h
trailing_stands q c n k b (Some t) xs i h = (i, refl, h)

-- what follows a collection stands right behind all that may be in it
abbrev StandsBehind : Path → List Raw → Type 0
StandsBehind c rest = (q : Path) → In q c → RawStands q rest

in_outer : (n : ℕ) (q c : Path) → In q (n ∷ c) → In q c
in_outer n q c i = in_through q (n ∷ c) c i (inside_more n c c (in_itself c))

item_stands : (k : ItemKind) (c : Path) (n : ℕ) (z : Bool) (t : Option Comment) (below : List Raw → List Raw) (after : List Raw) (b : Bool) →
    ((rest : List Raw) (q : Path) → In q (n ∷ c) → StandsBehind (n ∷ c) rest → RawStands q (below rest)) → StandsBehind (n ∷ c) after →
    RawStands (n ∷ c) (if b then below (event.trailing (n ∷ c) k z t after) else event.trailing (n ∷ c) k z t (below after))
item_stands k c n z t below after true f h = f (event.trailing (n ∷ c) k z t after) (n ∷ c) (in_itself (n ∷ c)) (λ q i. trailing_stands q c n k z t after i (h q i))
item_stands k c n z t below after false f h = trailing_stands (n ∷ c) c n k z t (below after) (in_itself (n ∷ c)) (f after (n ∷ c) (in_itself (n ∷ c)) h)

mutual
  items_stand : (k : ItemKind) (c : Path) (n : ℕ) (is : Items) (rest : List Raw) (q : Path) → In q c → StandsBehind c rest → RawStands q (raw_items k c n is rest)
  items_stand k c n no_items rest q i h = h q i
  items_stand k c n (item note x more) rest q i h =
      loose_stand q note.before _ (item_stands k c n (is_collection x) note.trailing (raw_below (n ∷ c) x) (raw_items k c (suc n) more rest) (comes_behind note.trailing x)
      (λ rest q i h. below_stands (n ∷ c) x rest q i h) (λ q i. items_stand k c (suc n) more rest q (in_outer n q c i) h))

  below_stands : (p : Path) (x : Content) (rest : List Raw) (q : Path) → In q p → StandsBehind p rest → RawStands q (raw_below p x rest)
  below_stands p (noted_scalar t) rest q i h = h q i
  below_stands p (noted_list is) rest q i h = items_stand element_item p 0 is rest q i h
  below_stands p (noted_map is) rest q i h = items_stand pair_item p 0 is rest q i h

text_stands : (ds : Documents) → RawStands [] (raw_text ds)
text_stands ds = items_stand document_item [] 0 ds.items (event.loose_all ds.after []) [] (in_itself []) (λ q i. loose_stand q ds.after [] tt)

abbrev WaitingStands : (last : Path) → Waiting → Type 0
WaitingStands q none_waits = Unit {0}
WaitingStands q (waits p k b c) = In q p × (suc (level_of p) ≡ length p)

come_stand : (q : Path) (w : Waiting) (xs : List Raw) → WaitingStands q w → RawStands q xs → RawStands q (then_come w xs)
come_stand q none_waits xs s t = t
come_stand q (waits p k b c) xs s t = (s.0, s.1, t)

if_stands : (q : Path) (b : Bool) (xs ys : List Raw) → RawStands q xs → RawStands q ys → RawStands q (if b then xs else ys)
if_stands q true xs ys s t = s
if_stands q false xs ys s t = t

by_line_stands : (q : Path) (w : Waiting) (xs : List Raw) → WaitingStands q w → RawStands q xs → RawStands q (by_line w xs)
by_line_stands q w [] s t = come_stand q w [] s tt
by_line_stands q w (begun p k l ∷ xs) s t = come_stand q w (begun p k l ∷ by_line none_waits xs) s (by_line_stands p none_waits xs tt t)
by_line_stands q w (trails p k b c ∷ xs) s t = come_stand q w (by_line (waits p k b c) xs) s (by_line_stands q (waits p k b c) xs (t.0, t.1) t.2)
by_line_stands q w (loose d ∷ xs) s t =
    if_stands q (is_later w d) (loose d ∷ by_line w xs) (then_come w (loose d ∷ by_line none_waits xs)) (by_line_stands q w xs s t)
    (come_stand q w (loose d ∷ by_line none_waits xs) s (by_line_stands q none_waits xs tt t))

let_go_stands : (q : Path) (h : Held) (xs : List Raw) → HeldStands q h → RawStands q xs → RawStands q (let_go h xs)
let_go_stands q nothing xs s t = t
let_go_stands q (held c l) xs s t = t
let_go_stands q (held_trailing p k b c l) xs s t = (s.0, s.1, t)

grown_stands : (q : Path) (h : Held) (c : Comment) → HeldStands q h → HeldStands q (grown h c)
grown_stands q nothing c s = tt
grown_stands q (held d l) c s = tt
grown_stands q (held_trailing p k b d l) c s = s

either_stands : (q : Path) (b : Bool) (xs ys : List Raw) → RawStands q xs → RawStands q ys → RawStands q (elim b as (λ _. List Raw) [ true ↦ xs | false ↦ ys ])
either_stands q true xs ys s t = s
either_stands q false xs ys s t = t

gathered_stands : (r : CodeReader) (file : ℕ) (q : Path) (h : Held) (xs : List Raw) → HeldStands q h → RawStands q xs → RawStands q (gathered r file h xs)
gathered_stands r file q h [] s t = let_go_stands q h [] s tt
gathered_stands r file q h (begun p k l ∷ xs) s t = let_go_stands q h (begun p k l ∷ gathered r file nothing xs) s (gathered_stands r file p nothing xs tt t)
gathered_stands r file q h (trails p k b c ∷ xs) s t =
    let_go_stands q h (gathered r file (held_trailing p k b c c.line) xs) s (gathered_stands r file q (held_trailing p k b c c.line) xs (t.0, t.1) t.2)
gathered_stands r file q h (loose c ∷ xs) s t =
    either_stands q (goes_on r file h c) (gathered r file (grown h c) xs) (let_go h (gathered r file (held c c.line) xs))
    (gathered_stands r file q (grown h c) xs (grown_stands q h c s) t)
    (let_go_stands q h (gathered r file (held c c.line) xs) s (gathered_stands r file q (held c c.line) xs tt t))

beside_spoken : (q p : Path) (k : ItemKind) (b : Bool) (l : ℕ) (s : Said) (es : List Event) → In q p → suc (level_of p) ≡ length p → BesideStands q es → BesideStands q (spoken s (beside p k b l) es)
beside_spoken q p k b l ignored es i e h = h
beside_spoken q p k b l s es i e h = (i, e, h)

says_spoken : (q : Path) (l : ℕ) (s : Said) (es : List Event) → BesideStands q es → BesideStands q (spoken s (says l) es)
says_spoken q l ignored es h = h
says_spoken q l s es h = h

heard_stands : (r : CodeReader) (ignore : Bool) (file : ℕ) (q : Path) (xs : List Raw) → RawStands q xs → IfOk (heard r ignore file xs) (BesideStands q)
heard_stands r ignore file q [] h = tt
heard_stands r ignore file q (begun p k l ∷ xs) h =
    yielded_then (BesideStands p) (BesideStands q) (heard r ignore file xs) _ (heard_stands r ignore file p xs h) (λ es s. s)
heard_stands r ignore file q (trails p k b c ∷ xs) h =
    yielded_behind (BesideStands q) (comment_said r ignore (place_at file c.line) c) _ (λ s.
    yielded_then (BesideStands q) (BesideStands q) (heard r ignore file xs) _ (heard_stands r ignore file q xs h.2) (λ es t. beside_spoken q p k b c.line s es h.0 h.1 t))
heard_stands r ignore file q (loose c ∷ xs) h =
    yielded_behind (BesideStands q) (comment_said r ignore (place_at file c.line) c) _ (λ s.
    yielded_then (BesideStands q) (BesideStands q) (heard r ignore file xs) _ (heard_stands r ignore file q xs h) (λ es t. says_spoken q c.line s es t))

-- what is said beside the items of a text comes while the last item is in them
pub events_beside : (r : CodeReader) (ignore : Bool) (file : ℕ) (ds : Documents) (es : List Event) → events r ignore file ds ≡ Ok es → BesideStands [] es
unfolding events
events_beside r ignore file ds es e =
    let xs = by_line none_waits (raw_text ds) in
    IfOk-at_ok (BesideStands []) e (heard_stands r ignore file [] (gathered r file nothing xs) (gathered_stands r file [] nothing xs tt (by_line_stands [] none_waits (raw_text ds) tt (text_stands ds))))
