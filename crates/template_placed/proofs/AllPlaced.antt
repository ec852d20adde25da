-- What placing gives is placed.
use Rattle.std.proofs.Common.{◌≡◌, ℕ, Bool, true, false, ◌||◌, ◌==◌, if◌then◌else◌, List, [], ◌∷◌, ◌++◌, Option, Some, None, Ok, Err, inl, refl, ap, subst, eq-eqb}
use Rattle.std.specs.Bool.{IsTrue}
use Rattle.ytt_base.specs.declared.fault.Fault.{Fault}
use Rattle.ytt_base.specs.declared.fault.FaultKind.TheVariants as kind
use Rattle.ytt_base.specs.Outcomes.{Outcome, ◌>>=◌, fault_at}
use Rattle.yaml_spec.specs.Noted.{Documents}
use Rattle.code_spec.specs.CodeReading.{CodeReader}
use Rattle.code_spec.specs.Program.{ItemKind, document_item, pair_item, element_item}
use Rattle.template_spec.specs.Events.{Event, events}
use Rattle.template_spec.specs.Misplaced.{and_sound, earliest, holder_at, left_open, note_faults, placing_fault, return_faults, Returned, returned_at, reversed, Sound, sound_from}
use Rattle.template_spec.specs.Nesting.{Part, parts, placed_or, placed_whole, template_of}
use Rattle.template_spec.specs.OpenBlocks.{first_of, open_blocks}
use Rattle.template_spec.specs.Placed.{PlacedBranches, PlacedContent, PlacedItem, PlacedItems}
use Rattle.template_spec.specs.Template.{Item, node, code, if_block, for_block, def_block, Items, no_items, an_item, Branches, no_branch, else_branch, elif_branch, Content, written_value, value_from, pairs, elements, fragment_kind}
use Rattle.template_spec.specs.WellNested.{in_a_branch, in_a_file, in_a_function, in_a_loop, in_a_node, Ways}
use Rattle.template_pass.specs.Flat.{flat_text}
use Rattle.template_placed.specs.Kinded.{KindedBranches, KindedContent, KindedItem, KindedItems, StandingBranches, StandingContent, StandingItem, StandingItems}
use Rattle.template_placed.specs.Laws.{PlacedIsPlaced}
use Rattle.template_pass.specs.Orderly.{Orderly}
use Rattle.template_pass.specs.Rows.{flat_started}
use Rattle.template_placed.proofs.Uncrossed.{Uncrossed}
use Rattle.template_pass.proofs.Built.{front_none, nothing_stops, NoneWrong, parts_by_path}
use Rattle.template_placed.proofs.Checked.{Checked, checked_stands, is_holder}
use Rattle.template_pass.proofs.Counted.{latest_none}
use Rattle.template_placed.proofs.ItemsHeard.{text_rows}
use Rattle.template_placed.proofs.KindsPlaced.{kinded_whole_file}
use Rattle.template_placed.proofs.LoadsClear.{ends_clear, returns_clear, There, uncrossed}
use Rattle.template_pass.proofs.OrderlyEvents.{events_orderly}
use Rattle.template_placed.proofs.OwnBlocks.{AllHold}
use Rattle.template_pass.proofs.Paths.{in_itself}
use Rattle.template_pass.proofs.Standing.{standing_first}
use Rattle.template_pass.proofs.TextItems.{events_beside}
use Rattle.template_placed.proofs.WordsPlaced.{checked, Here, Known, NoneHolds}

-- ---- both parts

mutual
  item_placed : (w : Ways) (kind : ItemKind) (i : Item) → KindedItem kind i → StandingItem w i → PlacedItem w kind i
  item_placed w kind (node p k ns key c) h g = (h.0, h.1, content_placed w c h.2 g)
  item_placed w kind (code s) h g = g
  item_placed w kind (if_block p e body more) h g = (items_placed (in_a_branch w) kind body h.0 g.0, branches_placed (in_a_branch w) kind more h.1 g.1)
  item_placed w kind (for_block p x e body) h g = items_placed (in_a_loop w) kind body h g
  item_placed w kind (def_block p number x ps k body) h g = (h.0, items_placed (in_a_function (fragment_kind k body)) kind body h.1 g)

  items_placed : (w : Ways) (kind : ItemKind) (is : Items) → KindedItems kind is → StandingItems w is → PlacedItems w kind is
  items_placed w kind no_items h g = tt
  items_placed w kind (an_item i is) h g = (item_placed w kind i h.0 g.0, items_placed w kind is h.1 g.1)

  branches_placed : (w : Ways) (kind : ItemKind) (bs : Branches) → KindedBranches kind bs → StandingBranches w bs → PlacedBranches w kind bs
  branches_placed w kind no_branch h g = tt
  branches_placed w kind (else_branch p body) h g = items_placed w kind body h g
  branches_placed w kind (elif_branch p e body more) h g = (items_placed w kind body h.0 g.0, branches_placed w kind more h.1 g.1)

  content_placed : (w : Ways) (c : Content) → KindedContent c → StandingContent w c → PlacedContent w c
  content_placed w (written_value x) h g = tt
  content_placed w (value_from e) h g = tt
  content_placed w (pairs is) h g = items_placed (in_a_node w) pair_item is h g
  content_placed w (elements is) h g = items_placed (in_a_node w) element_item is h g

-- ---- the functions that hold items

holder_more : (h n : ℕ) (hs : List ℕ) → IsTrue (is_holder hs n) → IsTrue (is_holder (h ∷ hs) n)
holder_more h n hs g = by (h == n)
  where
    by : (b : Bool) → IsTrue (b || is_holder hs n)
    by true = refl
    by false = g

all_more : (h : ℕ) (hs ns : List ℕ) → AllHold hs ns → AllHold (h ∷ hs) ns
all_more h hs [] g = tt
all_more h hs (n ∷ ns) g = (holder_more h n hs g.0, all_more h hs ns g.1)

all_hold : (ns : List ℕ) → AllHold ns ns
all_hold [] = tt
all_hold (n ∷ ns) = (ap (λ (b : Bool). b || is_holder ns n) (eq-eqb n n refl), all_more n ns ns (all_hold ns))

hold_both : (hs ms ns : List ℕ) → AllHold hs (ms ++ ns) → AllHold hs ms × AllHold hs ns
hold_both hs [] ns g = (tt, g)
hold_both hs (m ∷ ms) ns g = let r = hold_both hs ms ns g.1 in ((g.0, r.0), r.1)

none_hold_both : (hs : List ℕ) (rs ss : List Returned) → NoneHolds hs (rs ++ ss) → NoneHolds hs rs × NoneHolds hs ss
none_hold_both hs [] ss g = (tt, g)
none_hold_both hs (r ∷ rs) ss g = let x = none_hold_both hs rs ss g.1 in ((g.0, x.0), x.1)

none_hold : (hs : List ℕ) (rs : List Returned) → return_faults hs rs ≡ [] → NoneHolds hs rs
none_hold hs [] e = tt
none_hold hs (r ∷ rs) e = by (is_holder hs r.within) refl e (none_hold hs rs)
  where
    by : (b : Bool) → is_holder hs r.within ≡ b → (if b then fault_at kind.CodeForm r.place ∷ return_faults hs rs else return_faults hs rs) ≡ [] → (return_faults hs rs ≡ [] → NoneHolds hs rs) → NoneHolds hs (r ∷ rs)
    by true f g up = cc g
    by false f g up = (f, up g)

module _ (hs : List ℕ) (rs : List Returned) (rest : Sound) where
  abbrev stopped_or : Option Fault → Sound
  stopped_or (Some f) = record { holders = []; returned = rs; stop = f ∷ [] }
  stopped_or None = and_sound hs rs rest

known_from : (file : ℕ) (hs : List ℕ) (past es : List Event) → NoneWrong file past es → AllHold hs (sound_from file past es).holders → NoneHolds hs (sound_from file past es).returned → Known hs past es
known_from file hs past [] w a b = tt
known_from file hs past (e ∷ es) w a b =
    let rest : Sound = sound_from file (e ∷ past) es in
    let x : AllHold hs (holder_at past e ++ rest.holders) = subst (λ (o : Option Fault). AllHold hs (stopped_or (holder_at past e) (returned_at past e es) rest o).holders) w.0 a in
    let y : NoneHolds hs (returned_at past e es ++ rest.returned) = subst (λ (o : Option Fault). NoneHolds hs (stopped_or (holder_at past e) (returned_at past e es) rest o).returned) w.0 b in
    let u = hold_both hs (holder_at past e) rest.holders x in
    let v = none_hold_both hs (returned_at past e es) rest.returned y in
    (u.0, v.0, known_from file hs (e ∷ past) es w.1 u.1 v.1)

behind_none : (fs gs ns : List Fault) (o : Option Fault) → fs ≡ [] → first_of (earliest (fs ++ (gs ++ ns))) o ≡ None → gs ≡ []
behind_none [] gs ns o e h = front_none gs ns o h
behind_none (f ∷ fs) gs ns o e h = cc e

returns_right : (file : ℕ) (es : List Event) → placing_fault file es ≡ None → return_faults (sound_from file [] es).holders (sound_from file [] es).returned ≡ []
unfolding placing_fault
returns_right file es h =
    let s : Sound = sound_from file [] es in
    behind_none s.stop (return_faults s.holders s.returned) (note_faults file es) (left_open file (open_blocks (reversed es []) None))
    (front_none s.stop (return_faults s.holders s.returned ++ note_faults file es) (left_open file (open_blocks (reversed es []) None)) h) h

-- ---- whole files

module _ (r : CodeReader) (ignore : Bool) (file : ℕ) (ds : Documents) (es : List Event) (e : events r ignore file ds ≡ Ok es) (clear : Uncrossed [] es) (sound : placing_fault file es ≡ None) where
  start : Here file (sound_from file [] es).holders [] [] es []
  start = record {
    standing = standing_first es (events_orderly r ignore file ds es e);
    latest = latest_none;
    orderly = events_orderly r ignore file ds es e;
    besides = events_beside r ignore file ds es e;
    sound = nothing_stops file es sound;
    fine = record { waits = tt; ones = tt };
    clear = clear;
    known = known_from file (sound_from file [] es).holders [] es (nothing_stops file es sound) (all_hold (sound_from file [] es).holders)
        (none_hold (sound_from file [] es).holders (sound_from file [] es).returned (returns_right file es sound));
  }

  documents_checked : Checked (sound_from file [] es).holders in_a_file [] (parts file es document_item [] 0 ds.items)
  documents_checked =
      subst (λ (ps : List Part). Checked (sound_from file [] es).holders in_a_file [] ps)
      (parts_by_path r ignore file ds es (flat_started (flat_text ds)) e (text_rows r ignore file ds es e) sound)
      (checked file (sound_from file [] es).holders [] [] [] es (flat_started (flat_text ds)) [] start in_a_file [] (in_itself []) (inl refl))

  template_stands : StandingItems in_a_file (template_of file es ds.items)
  template_stands = checked_stands (sound_from file [] es).holders in_a_file file document_item (parts file es document_item [] 0 ds.items) documents_checked

given : (o : Option Fault) (t u : Items) → placed_or o t ≡ Ok u → (o ≡ None) × (t ≡ u)
given None t u e = (refl, cc e)
given (Some f) t u e = cc e

placed_given : (r : CodeReader) (ignore : Bool) (file : ℕ) (ds : Documents) (es : List Event) (t : Items) → events r ignore file ds ≡ Ok es → placed_whole r ignore file ds ≡ Ok t → placed_or (placing_fault file es) (template_of file es ds.items) ≡ Ok t
unfolding placed_whole
placed_given r ignore file ds es t e h = subst (λ (o : Outcome (List Event)). (o >>= (λ es. placed_or (placing_fault file es) (template_of file es ds.items))) ≡ Ok t) e h

-- ---- where nothing is wrong, statements are clear of items of blocks

all_clear : (file : ℕ) (es : List Event) → Orderly [] [] es → placing_fault file es ≡ None → Uncrossed [] es
all_clear file es o h =
    let w : NoneWrong file [] es = nothing_stops file es h in
    let first : There file [] [] es [] = record { standing = standing_first es o; orderly = o; sound = w; fine = record { waits = tt; ones = tt }; shut = λ c i f. cc f } in
    uncrossed file [] [] es [] first (returns_clear file [] es w) (ends_clear file [] es w)

abbrev Heard : (r : CodeReader) → (ignore : Bool) → (file : ℕ) → (ds : Documents) → Items → Type 0
Heard r ignore file ds t = (es : List Event) × (events r ignore file ds ≡ Ok es)

heard_of : (r : CodeReader) (ignore : Bool) (file : ℕ) (ds : Documents) (t : Items) → placed_whole r ignore file ds ≡ Ok t → Heard r ignore file ds t
unfolding placed_whole
heard_of r ignore file ds t h = by (events r ignore file ds) refl h
  where
    by : (o : Outcome (List Event)) → events r ignore file ds ≡ o → (o >>= (λ es. placed_or (placing_fault file es) (template_of file es ds.items))) ≡ Ok t → Heard r ignore file ds t
    by (Ok es) e g = (es, e)
    by (Err f) e g = cc g

pub all_placed : PlacedIsPlaced
all_placed r ignore file ds t k h =
    let x = heard_of r ignore file ds t h in
    let g : (placing_fault file x.0 ≡ None) × (template_of file x.0 ds.items ≡ t) = given (placing_fault file x.0) (template_of file x.0 ds.items) t (placed_given r ignore file ds x.0 t x.1 h) in
    items_placed in_a_file document_item t (kinded_whole_file r ignore file ds t k h)
    (subst (StandingItems in_a_file) g.1 (template_stands r ignore file ds x.0 x.1 (all_clear file x.0 (events_orderly r ignore file ds x.0 x.1) g.0) g.0))
