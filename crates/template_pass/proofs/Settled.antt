-- Each item as it is put is the item that the whole text gives.
use Rattle.std.proofs.Common.{◌≡◌, ℕ, suc, Bool, true, false, List, [], ◌∷◌, ◌++◌, length, bytes_eq, drop, Option, Some, None, refl, sym, ◌∙◌, ap, ap₂, arith, if◌then◌else◌}
use Rattle.ytt_base.specs.Outcomes.{place_at}
use Rattle.ytt_base.specs.Trees.{Scalar}
use Rattle.code_spec.specs.Code.{Expr}
use Rattle.code_spec.specs.Program.{ItemKind}
use Rattle.template_spec.specs.Comments.{Said, ignored, a_note, a_value, statements, opens, elif, otherwise, closes}
use Rattle.template_spec.specs.Events.{Path, Event, begins, beside, says}
use Rattle.template_spec.specs.OpenBlocks.{collection_of, so_far}
use Rattle.template_spec.specs.Nesting.{key_part, value_or, notes_from, note_beside, value_beside, events_at, a_node, a_mark}
use Rattle.template_spec.specs.Template.{Notes, note, no_notes, Item, node}
use Rattle.template_pass.specs.Building.{Before, Slot, waiting, with_beside, with_part, item_with, notes_then, content_of}
use Rattle.template_pass.specs.Flat.{Shape}
use Rattle.template_pass.specs.Levels.{Open, next_level, behind}
use Rattle.template_pass.specs.Orderly.{Orderly}
use Rattle.template_pass.specs.Rows as row
use Rattle.template_pass.specs.Rows.{Start, level_of}
use Rattle.template_pass.proofs.ByPath.{PathPut, item_put, changed_if, node_if, nodes_of, slot_of}
use Rattle.template_pass.proofs.Counted.{Latest, Ahead, ahead_outside, ahead_before, ahead_item, ahead_apart, latest_item}
use Rattle.template_pass.proofs.EventPuts.{first_start, marked, path_puts, place_of, level_place, rows_of, Stands, MarksStand, BesideStands}
use Rattle.template_pass.proofs.Inside.{inside_at, path_same, path_other, same_either_way}
use Rattle.template_pass.proofs.Paths.{In, lain}
use Rattle.template_pass.proofs.SlotsByPath.{unchanged}

-- ---- what is said beside an item

marked_value : (file : ℕ) (c : Path) (o : Option Path) (l : ℕ) (s : Said) (qs : List PathPut) → (slot_of file c (marked o l s qs)).value ≡ (slot_of file c qs).value
marked_value file c None l s qs = refl
marked_value file c (Some d) l s qs = by (bytes_eq d c)
  where
    by : (b : Bool) → (changed_if b (with_part (a_mark l s)) (slot_of file c qs)).value ≡ (slot_of file c qs).value
    by true = refl
    by false = refl

marked_notes : (file : ℕ) (c : Path) (o : Option Path) (l : ℕ) (s : Said) (qs : List PathPut) → (slot_of file c (marked o l s qs)).notes ≡ (slot_of file c qs).notes
marked_notes file c None l s qs = refl
marked_notes file c (Some d) l s qs = by (bytes_eq d c)
  where
    by : (b : Bool) → (changed_if b (with_part (a_mark l s)) (slot_of file c qs)).notes ≡ (slot_of file c qs).notes
    by true = refl
    by false = refl

part_value : (b : Bool) (x : Item) (t : Slot) → (changed_if b (with_part (a_node x)) t).value ≡ t.value
part_value true x t = refl
part_value false x t = refl

part_notes : (b : Bool) (x : Item) (t : Slot) → (changed_if b (with_part (a_node x)) t).notes ≡ t.notes
part_notes true x t = refl
part_notes false x t = refl

value_said : (file : ℕ) (c p : Path) (k : ItemKind) (v : Bool) (l : ℕ) (s : Said) (es : List Event) (t : Slot) → t.value ≡ value_beside c es → (b : Bool) → bytes_eq c p ≡ b →
    (changed_if b (with_beside file l s) t).value ≡ value_beside c (beside p k v l s ∷ es)
value_said file c p k v l (a_value e) es t up true f = sym (ap (λ (b : Bool). if b then Some e else value_beside c es) f)
value_said file c p k v l (a_value e) es t up false f = up ∙ sym (ap (λ (b : Bool). if b then Some e else value_beside c es) f)
value_said file c p k v l ignored es t up true f = up
value_said file c p k v l (a_note x vs) es t up true f = up
value_said file c p k v l (statements is) es t up true f = up
value_said file c p k v l (opens h z) es t up true f = up
value_said file c p k v l (elif e) es t up true f = up
value_said file c p k v l otherwise es t up true f = up
value_said file c p k v l closes es t up true f = up
value_said file c p k v l s es t up false f = up

note_said : (file : ℕ) (c p : Path) (k : ItemKind) (v : Bool) (l : ℕ) (s : Said) (es : List Event) (t : Slot) → t.notes ≡ note_beside file c es → (b : Bool) → bytes_eq c p ≡ b →
    (changed_if b (with_beside file l s) t).notes ≡ note_beside file c (beside p k v l s ∷ es)
note_said file c p k v l (a_note x vs) es t up true f = sym (ap (λ (b : Bool). if b then note (place_at file l) x vs no_notes else note_beside file c es) f)
note_said file c p k v l (a_note x vs) es t up false f = up ∙ sym (ap (λ (b : Bool). if b then note (place_at file l) x vs no_notes else note_beside file c es) f)
note_said file c p k v l ignored es t up true f = up
note_said file c p k v l (a_value e) es t up true f = up
note_said file c p k v l (statements is) es t up true f = up
note_said file c p k v l (opens h z) es t up true f = up
note_said file c p k v l (elif e) es t up true f = up
note_said file c p k v l otherwise es t up true f = up
note_said file c p k v l closes es t up true f = up
note_said file c p k v l s es t up false f = up

slot_value : (file : ℕ) (c : Path) (past : List Event) (ns : List Before) (es : List Event) (ss : List Start) → (slot_of file c (path_puts past ns es ss)).value ≡ value_beside c es
slot_value file c past ns [] ss = refl
slot_value file c past ns (begins p k l ∷ es) ss =
    part_value (bytes_eq (collection_of p) c) (item_with file k l (first_start ss).key (first_start ss).written ns (slot_of file p (path_puts (begins p k l ∷ past) [] es (drop 1 ss))))
    (slot_of file c (path_puts (begins p k l ∷ past) [] es (drop 1 ss)))
    ∙ slot_value file c (begins p k l ∷ past) [] es (drop 1 ss)
slot_value file c past ns (beside p k v l s ∷ es) ss =
    ap (λ (b : Bool). (changed_if b (with_beside file l s) (slot_of file c (path_puts (beside p k v l s ∷ past) ns es ss))).value) (same_either_way p c)
    ∙ value_said file c p k v l s es (slot_of file c (path_puts (beside p k v l s ∷ past) ns es ss)) (slot_value file c (beside p k v l s ∷ past) ns es ss) (bytes_eq c p) refl
slot_value file c past ns (says l s ∷ es) ss =
    marked_value file c (place_of past es s) l s (path_puts (says l s ∷ past) (waiting ns (row.says l s)) es ss) ∙ slot_value file c (says l s ∷ past) (waiting ns (row.says l s)) es ss

slot_notes : (file : ℕ) (c : Path) (past : List Event) (ns : List Before) (es : List Event) (ss : List Start) → (slot_of file c (path_puts past ns es ss)).notes ≡ note_beside file c es
slot_notes file c past ns [] ss = refl
slot_notes file c past ns (begins p k l ∷ es) ss =
    part_notes (bytes_eq (collection_of p) c) (item_with file k l (first_start ss).key (first_start ss).written ns (slot_of file p (path_puts (begins p k l ∷ past) [] es (drop 1 ss))))
    (slot_of file c (path_puts (begins p k l ∷ past) [] es (drop 1 ss)))
    ∙ slot_notes file c (begins p k l ∷ past) [] es (drop 1 ss)
slot_notes file c past ns (beside p k v l s ∷ es) ss =
    ap (λ (b : Bool). (changed_if b (with_beside file l s) (slot_of file c (path_puts (beside p k v l s ∷ past) ns es ss))).notes) (same_either_way p c)
    ∙ note_said file c p k v l s es (slot_of file c (path_puts (beside p k v l s ∷ past) ns es ss)) (slot_notes file c (beside p k v l s ∷ past) ns es ss) (bytes_eq c p) refl
slot_notes file c past ns (says l s ∷ es) ss =
    marked_notes file c (place_of past es s) l s (path_puts (says l s ∷ past) (waiting ns (row.says l s)) es ss) ∙ slot_notes file c (says l s ∷ past) (waiting ns (row.says l s)) es ss

-- ---- notes before an item

notes_before : (file : ℕ) (ns : List Before) (b : Before) (more : Notes) → notes_then file (ns ++ b ∷ []) more ≡ notes_then file ns (note (place_at file b.line) b.name b.arguments more)
notes_before file [] b more = refl
notes_before file (n ∷ ns) b more = ap (λ (x : Notes). note (place_at file n.line) n.name n.arguments x) (notes_before file ns b more)

waiting_notes : (file : ℕ) (ns : List Before) (l : ℕ) (s : Said) (es : List Event) (more : Notes) →
    notes_then file ns (notes_from file more (says l s ∷ es)) ≡ notes_then file (waiting ns (row.says l s)) (notes_from file more es)
waiting_notes file ns l ignored es more = refl
waiting_notes file ns l (a_note x vs) es more = sym (notes_before file ns (record { line = l; name = x; arguments = vs }) (notes_from file more es))
waiting_notes file ns l (a_value e) es more = refl
waiting_notes file ns l (statements is) es more = refl
waiting_notes file ns l (opens h z) es more = refl
waiting_notes file ns l (elif e) es more = refl
waiting_notes file ns l otherwise es more = refl
waiting_notes file ns l closes es more = refl

-- ---- items by the whole text

pub record Begun : Type 0 where
  pub path : Path
  pub kind : ItemKind
  pub line : ℕ
  pub key : Option Scalar
  pub written : Shape

abbrev pub begun_in : List Event → List Start → List Begun
begun_in [] ss = []
begun_in (begins p k l ∷ es) ss = record { path = p; kind = k; line = l; key = (first_start ss).key; written = (first_start ss).written } ∷ begun_in es (drop 1 ss)
begun_in (beside p k v l s ∷ es) ss = begun_in es ss
begun_in (says l s ∷ es) ss = begun_in es ss

abbrev pub node_of : (file : ℕ) → (text : List Event) → (all : List PathPut) → Begun → Item
node_of file text all b =
    node (place_at file b.line) b.kind (notes_from file (note_beside file b.path text) (events_at b.path text text)) (key_part b.key)
    (value_or (value_beside b.path text) (content_of file b.written (slot_of file b.path all).parts))

abbrev pub nodes_in : (file : ℕ) → (text : List Event) → (all : List PathPut) → Path → List Begun → List Item
nodes_in file text all c [] = []
nodes_in file text all c (b ∷ bs) = node_if (bytes_eq (collection_of b.path) c) (node_of file text all b) (nodes_in file text all c bs)

-- ---- from one place to the next

-- what concerns items that have not begun is the same from here on as in the whole text
abbrev EventsAhead : (text past since es : List Event) → Type 0
EventsAhead text past since es = (p : Path) → Ahead past p → events_at p text text ≡ events_at p since es

abbrev SlotsAhead : (file : ℕ) → (all : List PathPut) → (past : List Event) → List PathPut → Type 0
SlotsAhead file all past qs = (p : Path) → Ahead past p → slot_of file p all ≡ slot_of file p qs

abbrev NotesWait : (file : ℕ) → (since : List Event) → List Before → List Event → Type 0
NotesWait file since ns es = (more : Notes) → notes_from file more since ≡ notes_then file ns (notes_from file more es)

apart_from : (q c p : Path) (past : List Event) → Latest q past → Ahead past p → In q c → c ≡ p → ⊥
apart_from q c p past h g i e = ahead_outside q p past h g (inside_at q c p (sym e) i)

events_behind : (text past since es : List Event) (p : Path) (k : ItemKind) (l : ℕ) → p ≡ so_far (collection_of p) past ∷ collection_of p →
    EventsAhead text past since (begins p k l ∷ es) → EventsAhead text (begins p k l ∷ past) es es
events_behind text past since es p k l e a x g =
    a x (ahead_before x p k l past g)
    ∙ ap (λ (b : Bool). if b then since else events_at x es es) (path_other x p (ahead_apart x p k l past e g))

item_slots_behind : (file : ℕ) (q p : Path) (past : List Event) (k : ItemKind) (l : ℕ) (key : Option Scalar) (w : Shape) (ns : List Before) (all qs : List PathPut) →
    Latest q past → In q (collection_of p) → SlotsAhead file all past (item_put p k l key w ns ∷ qs) → SlotsAhead file all (begins p k l ∷ past) qs
item_slots_behind file q p past k l key w ns all qs h i a x g =
    a x (ahead_before x p k l past g)
    ∙ unchanged (collection_of p) x (with_part (a_node (item_with file k l key w ns (slot_of file p qs)))) (slot_of file x qs)
    (apart_from q (collection_of p) x past h (ahead_before x p k l past g) i)

mark_slots_behind : (file : ℕ) (q : Path) (past : List Event) (o : Option Path) (d : Option ℕ) (l : ℕ) (s : Said) (all qs : List PathPut) →
    Latest q past → Stands q o d → SlotsAhead file all past (marked o l s qs) → SlotsAhead file all past qs
mark_slots_behind file q past None d l s all qs h i a x g = a x g
mark_slots_behind file q past (Some c) (Some d) l s all qs h i a x g = a x g ∙ unchanged c x (with_part (a_mark l s)) (slot_of file x qs) (apart_from q c x past h g i.0)
mark_slots_behind file q past (Some c) None l s all qs h i a x g = absurd i

own_collection : (p : Path) (n : ℕ) → p ≡ n ∷ collection_of p → collection_of p ≡ p → ⊥
own_collection p n e f =
    let a : length p ≡ suc (length (collection_of p)) = ap length e in
    let b : length (collection_of p) ≡ length p = ap length f in
    omega (arith, a, b)

marked_nodes : (file : ℕ) (c : Path) (o : Option Path) (l : ℕ) (s : Said) (qs : List PathPut) → nodes_of file c (marked o l s qs) ≡ nodes_of file c qs
marked_nodes file c None l s qs = refl
marked_nodes file c (Some d) l s qs = refl

-- an item where it begins
settled_item : (file : ℕ) (past since es : List Event) (p : Path) (k : ItemKind) (l : ℕ) (ns : List Before) (ss : List Start) (text : List Event) (starts : List Start) →
    p ≡ so_far (collection_of p) past ∷ collection_of p →
    EventsAhead text past since (begins p k l ∷ es) → SlotsAhead file (path_puts [] [] text starts) past (path_puts past ns (begins p k l ∷ es) ss) → NotesWait file since ns (begins p k l ∷ es) →
    item_with file k l (first_start ss).key (first_start ss).written ns (slot_of file p (path_puts (begins p k l ∷ past) [] es (drop 1 ss)))
    ≡ node_of file text (path_puts [] [] text starts) (record { path = p; kind = k; line = l; key = (first_start ss).key; written = (first_start ss).written })
settled_item file past since es p k l ns ss text starts e a b w =
    ap (λ (t : Slot). item_with file k l (first_start ss).key (first_start ss).written ns t) (sym same)
    ∙ ap₂ (λ (m : Notes) (v : Option Expr). node (place_at file l) k m (key_part (first_start ss).key) (value_or v (content_of file (first_start ss).written (slot_of file p all).parts)))
    notes (slot_value file p [] [] text starts)
  where
    all : List PathPut
    all = path_puts [] [] text starts

    below : List PathPut
    below = path_puts (begins p k l ∷ past) [] es (drop 1 ss)

    same : slot_of file p all ≡ slot_of file p below
    same =
        b p (ahead_item p past e)
        ∙ unchanged (collection_of p) p (with_part (a_node (item_with file k l (first_start ss).key (first_start ss).written ns (slot_of file p below)))) (slot_of file p below)
        (own_collection p (so_far (collection_of p) past) e)

    since_here : events_at p text text ≡ since
    since_here = a p (ahead_item p past e) ∙ ap (λ (b : Bool). if b then since else events_at p es es) (path_same p p refl)

    notes : notes_then file ns (slot_of file p all).notes ≡ notes_from file (note_beside file p text) (events_at p text text)
    notes =
        ap (λ (m : Notes). notes_then file ns m) (slot_notes file p [] [] text starts) ∙ sym (w (note_beside file p text))
        ∙ ap (λ (es : List Event). notes_from file (note_beside file p text) es) (sym since_here)

-- all items
pub settled : (file : ℕ) (c q : Path) (past since : List Event) (bs : List Open) (n : ℕ) (ns : List Before) (es : List Event) (ss : List Start) (text : List Event) (starts : List Start) →
    Latest q past → MarksStand q past bs n es (rows_of es ss) → BesideStands q es → Orderly q past es →
    EventsAhead text past since es → SlotsAhead file (path_puts [] [] text starts) past (path_puts past ns es ss) → NotesWait file since ns es →
    nodes_of file c (path_puts past ns es ss) ≡ nodes_in file text (path_puts [] [] text starts) c (begun_in es ss)
unfolding Latest Ahead
settled file c q past since bs n ns [] ss text starts h m v o a b w = refl
settled file c q past since bs n ns (begins p k l ∷ es) ss text starts h m v o a b w =
    let i : In q (collection_of p) = lain q (collection_of p) o.0 in
    ap₂ (λ (x : Item) (xs : List Item). node_if (bytes_eq (collection_of p) c) x xs)
    (settled_item file past since es p k l ns ss text starts o.1 a b w)
    (settled file c p (begins p k l ∷ past) es (behind bs (next_level (rows_of es (drop 1 ss))) n (row.begins (level_of p) k l (first_start ss).key (first_start ss).written)) (suc n) [] es (drop 1 ss) text starts
    (latest_item q p k l past o.1 h i) m v o.2
    (events_behind text past since es p k l o.1 a)
    (item_slots_behind file q p past k l (first_start ss).key (first_start ss).written ns (path_puts [] [] text starts) (path_puts (begins p k l ∷ past) [] es (drop 1 ss)) h i b)
    (λ more. refl))
settled file c q past since bs n ns (beside p k z l s ∷ es) ss text starts h m v o a b w =
    settled file c q (beside p k z l s ∷ past) since bs (suc n) ns es ss text starts h m v.2 o a
    (λ x g. b x g ∙ unchanged p x (with_beside file l s) (slot_of file x (path_puts (beside p k z l s ∷ past) ns es ss)) (apart_from q p x past h g v.0))
    w
settled file c q past since bs n ns (says l s ∷ es) ss text starts h m v o a b w =
    marked_nodes file c (place_of past es s) l s (path_puts (says l s ∷ past) (waiting ns (row.says l s)) es ss)
    ∙ settled file c q (says l s ∷ past) since (behind bs (next_level (rows_of es ss)) n (row.says l s)) (suc n) (waiting ns (row.says l s)) es ss text starts h m.1 v o a
    (mark_slots_behind file q past (place_of past es s) (level_place bs (next_level (rows_of es ss)) s) l s (path_puts [] [] text starts)
    (path_puts (says l s ∷ past) (waiting ns (row.says l s)) es ss) h m.0 b)
    (λ more. w more ∙ waiting_notes file ns l s es more)
