-- Where placing finds nothing wrong, and each `return` and `load` is clear of items of blocks, each statement stands where it may.
use Rattle.std.proofs.Common.{◌≡◌, ℕ, suc, ◌<◌, ◌≤◌, Bool, true, false, not, ◌&&◌, ◌||◌, if◌then◌else◌, is_some, List, [], ◌∷◌, length, drop, bytes_eq, Option, Some, None, ◌⊎◌, inl, inr, refl, sym, ◌∙◌, ap, subst, arith}
use Rattle.std.specs.Bool.{IsTrue}
use Rattle.std.proofs.lemmas.Bool.{cases_lt, or_left, or_right}
use Rattle.ytt_base.specs.declared.fault.Place.{Place}
use Rattle.code_spec.specs.Code.{Expr, Statement, load, return, break, continue}
use Rattle.code_spec.specs.CodeReading.{Header}
use Rattle.code_spec.specs.Program.{ItemKind, pair_item, element_item, Instruction, statement}
use Rattle.template_spec.specs.Comments.{Said, ignored, a_note, a_value, statements, opens, elif, otherwise, closes}
use Rattle.template_spec.specs.Events.{Path, Event, begins, beside, says}
use Rattle.template_spec.specs.Misplaced.{innermost_def, no_block, may_wait, stays_within, statement_fault, statements_fault, Returned, returned_in, returned_at, holder_at}
use Rattle.template_spec.specs.OpenBlocks.{collection_of, lies_in, Block, belongs, next_item, open_blocks, first_of}
use Rattle.template_spec.specs.Nesting.{Part, a_node, a_mark, innermost, value_or}
use Rattle.template_spec.specs.Template.{Item, Content}
use Rattle.template_spec.specs.WellNested.{Ways, in_a_node, stands}
use Rattle.template_pass.specs.Building.{Before, Slot, with_part, item_with, content_of, waiting}
use Rattle.template_pass.specs.Flat.{Shape, a_scalar, a_map, a_list}
use Rattle.template_placed.specs.Kinded.{StandingItem, StandingContent}
use Rattle.template_pass.specs.Levels.{Open, behind}
use Rattle.template_pass.specs.Orderly.{Orderly}
use Rattle.template_pass.specs.Rows as row
use Rattle.template_pass.specs.Rows.{Start}
use Rattle.template_pass.specs.Standing.{Around, Coming, level_at, row_of, Standing}
use Rattle.template_placed.proofs.Uncrossed.{is_in_block, StatementsClear, Uncrossed}
use Rattle.template_pass.proofs.Built.{NoneWrong, marks_stand}
use Rattle.template_pass.proofs.ByPath.{PathPut, item_put, changed_if, slot_of, Ordered}
use Rattle.template_placed.proofs.Checked.{AllStand, AllStay, all_kept, Checked, checked_stands, Frame, is_holder, kept, ways_within}
use Rattle.template_pass.proofs.Counted.{Latest, gone_item, latest_item}
use Rattle.template_pass.proofs.EventPuts.{BesideStands, first_start, marked, path_puts, place_of, puts_ordered}
use Rattle.template_pass.proofs.Inside.{path_cases, path_other, path_same, same_path}
use Rattle.template_pass.proofs.ItemBegins.{advance}
use Rattle.template_placed.proofs.OwnBlocks.{AllHold, BegunElsewhere, frame_if, holding, may_break, may_return, NoneWaits, NotHolder, OneIn, OnesIn, other_stay, own, own_advance, own_else, own_shorter, own_stay, wait_in}
use Rattle.template_pass.proofs.Paths.{In, in_by_length, in_collection, in_itself, in_through, lain, lies}
use Rattle.template_pass.proofs.SlotsByPath.{slot_gone}
use Rattle.template_pass.proofs.Standing.{belongs_within, coming_next, end_stays, none_true, standing_step}
use Rattle.template_placed.proofs.StillPlaced.{behind_begins, behind_closes, behind_otherwise, Fine, fine_begins, fine_said, none_begun, none_wait, then_said}
use Rattle.template_pass.proofs.Unclosed.{HeadStays}
use Rattle.template_pass.proofs.Woven.{beside_parts}

-- ---- statements

pub both_none : {A : Type 0} (a b : Option A) → first_of a b ≡ None → (a ≡ None) × (b ≡ None)
both_none None b e = (refl, e)
both_none (Some x) b e = cc e

-- a collection may hold loads, or is in an item of a block
abbrev pub Base : Ways → Path → (past : List Event) → Type 0
Base w c past = IsTrue w.may_load ⊎ IsTrue (is_in_block c past)

module _ (holders : List ℕ) where
  abbrev pub NoneHolds : List Returned → Type 0
  NoneHolds [] = Unit {0}
  NoneHolds (r ∷ rs) = (is_holder holders r.within ≡ false) × NoneHolds rs

  -- the functions that hold items hold them, and none that is returned from does
  abbrev pub Known : (past : List Event) → List Event → Type 0
  Known past [] = Unit {0}
  Known past (e ∷ es) = AllHold holders (holder_at past e) × NoneHolds (returned_at past e es) × Known (e ∷ past) es

  more_hold_none : (o : Option Block) (s : Statement) (is : List Instruction) → NoneHolds (returned_in o (statement s ∷ is)) → NoneHolds (returned_in o is)
  more_hold_none None s is h = h
  more_hold_none (Some b) (return p e) is h = h.1
  more_hold_none (Some b) s is h = h

  not_holder : (o : Option Block) (p : Place) (e : Expr) (is : List Instruction) → NoneHolds (returned_in o (statement (return p e) ∷ is)) → NotHolder holders o
  not_holder None p e is h = tt
  not_holder (Some b) p e is h = h.0

  other_hold_none : (o : Option Block) (i : Instruction) (is : List Instruction) → ((s : Statement) → i ≡ statement s → ⊥) → NoneHolds (returned_in o (i ∷ is)) → NoneHolds (returned_in o is)
  other_hold_none None i is n h = h
  other_hold_none (Some b) (statement s) is n h = absurd (n s refl)
  other_hold_none (Some b) i is n h = h

  module _ (w : Ways) (c : Path) (past : List Event) (bs : List Block) (elsewhere : BegunElsewhere c bs) (base : Base w c past) where
    loads : (bs : List Block) → IsTrue (no_block bs) → IsTrue (not (is_in_block c past)) → Base w c past → IsTrue (ways_within holders w (own c bs)).may_load
    loads [] n f (inl h) = h
    loads [] n f (inr h) = cc (f, h)
    loads (b ∷ bs) n f h = cc n

    stands_here : (s : Statement) (is : List Instruction) → statement_fault bs c s ≡ None → StatementsClear past bs c (statement s ∷ is) → NoneHolds (returned_in (innermost_def bs) (statement s ∷ is)) →
        IsTrue (stands (ways_within holders w (own c bs)) s)
    stands_here (return p e) is f g h = may_return holders w c bs elsewhere g.0 (not_holder (innermost_def bs) p e is h)
    stands_here (break p) is f g h = may_break holders w c bs elsewhere (none_true _ _ f)
    stands_here (continue p) is f g h = may_break holders w c bs elsewhere (none_true _ _ f)
    stands_here (load p path xs) is f g h = loads bs (none_true _ _ f) g.0 base
    stands_here s is f g h = refl

    pub all_stand : (is : List Instruction) → statements_fault bs c is ≡ None → StatementsClear past bs c is → NoneHolds (returned_in (innermost_def bs) is) → AllStand holders w (own c bs) is
    all_stand [] f g h = tt
    all_stand (statement s ∷ is) f g h =
        let fs = both_none (statement_fault bs c s) (statements_fault bs c is) f in
        (stands_here s is fs.0 g h, all_stand is fs.1 g.1 (more_hold_none (innermost_def bs) s is h))
    all_stand (i ∷ is) f g h = all_stand is f g (other_hold_none (innermost_def bs) i is (λ s e. cc e) h)

-- ---- the parts of a collection, one in front of the others

module _ (holders : List ℕ) (w : Ways) where
  either_part : (b : Bool) (l : ℕ) (s : Said) (t : Slot) (fs : List Frame) → (b ≡ true → Checked holders w fs (a_mark l s ∷ t.parts)) → (b ≡ false → Checked holders w fs t.parts) →
      Checked holders w fs (changed_if b (with_part (a_mark l s)) t).parts
  either_part true l s t fs h k = h refl
  either_part false l s t fs h k = k refl

  opened_part : (b : Bool) (l : ℕ) (h : Header) (z : Bool) (x : Block) (t : Slot) (fs : List Frame) → x.header ≡ h → x.for_one ≡ z → (z ≡ false → AllStay fs) →
      Checked holders w (frame_if (b && true) x fs) t.parts → Checked holders w fs (changed_if b (with_part (a_mark l (opens h z))) t).parts
  opened_part true l h true x t fs e f a k = (x.before, subst (λ (g : Frame). Checked holders w (g ∷ fs) t.parts) (λ i. record { header = e i; for_one = f i; before = x.before }) k)
  opened_part true l h false x t fs e f a k = (a refl, x.before, subst (λ (g : Frame). Checked holders w (g ∷ fs) t.parts) (λ i. record { header = e i; for_one = f i; before = x.before }) k)
  opened_part false l h z x t fs e f a k = k

  closed_first : (t u : Bool) (b : Block) (fs : List Frame) (l : ℕ) (s : Slot) → u ≡ false → AllStay (frame_if (t && not u) b fs) → Checked holders w fs s.parts →
      Checked holders w (frame_if (t && not u) b fs) (changed_if t (with_part (a_mark l closes)) s).parts
  closed_first true true b fs l s e a k = cc e
  closed_first true false b fs l s e a k = (a, k)
  closed_first false u b fs l s e a k = k

  no_one : (c : Path) (z : Bool) (o : Option Path) → z ≡ false → OneIn c z o → is_some o ≡ false
  no_one c z None e h = refl
  no_one c z (Some o) e h = cc (e, h.0)

  closed_part : (c : Path) (bs : List Block) (l : ℕ) (s : Slot) → HeadStays bs → OnesIn bs → AllStay (own c bs) → Checked holders w (own c (drop 1 bs)) s.parts →
      Checked holders w (own c bs) (changed_if (bytes_eq (innermost bs) c) (with_part (a_mark l closes)) s).parts
  closed_part c [] l s h i a k = absurd h
  closed_part c (b ∷ bs) l s h i a k = closed_first (bytes_eq b.collection c) (is_some b.one) b (own c bs) l s (no_one b.collection b.for_one b.one h i.0) a k

-- ---- an item and what is in it

value_stands : (v : Ways) (o : Option Expr) (c : Content) → StandingContent v c → StandingContent v (value_or o c)
value_stands v None c h = h
value_stands v (Some e) c h = tt

content_stands : (holders : List ℕ) (v : Ways) (file : ℕ) (x : Shape) (ps : List Part) → Checked holders (in_a_node v) [] ps → StandingContent v (content_of file x ps)
content_stands holders v file (a_scalar t) ps h = tt
content_stands holders v file a_map ps h = checked_stands holders (in_a_node v) file pair_item ps h
content_stands holders v file a_list ps h = checked_stands holders (in_a_node v) file element_item ps h

belongs_begun : (bs : List Block) (p : Path) → IsTrue (stays_within bs p) → belongs bs (Some p) ≡ collection_of p
belongs_begun [] p h = refl
belongs_begun (b ∷ bs) p h = ap (λ (t : Bool). if t then collection_of p else b.collection) h

in_block_below : (p c : Path) (past : List Event) → In p c → IsTrue (is_in_block c past) → IsTrue (is_in_block p past)
in_block_below p c [] i h = h
in_block_below p c (begins x k l ∷ es) i h = by (lies_in c x) (not (no_block (open_blocks es (Some x)))) refl refl h (in_block_below p c es i)
  where
    by : (t u : Bool) → lies_in c x ≡ t → not (no_block (open_blocks es (Some x))) ≡ u → IsTrue (t && u || is_in_block c es) → (IsTrue (is_in_block c es) → IsTrue (is_in_block p es)) →
        IsTrue (lies_in p x && not (no_block (open_blocks es (Some x))) || is_in_block p es)
    by true true e f g up =
        let a : lies_in p x ≡ true = lies p x (in_through p c x i (lain c x e)) in
        or_left (lies_in p x && not (no_block (open_blocks es (Some x)))) (is_in_block p es) (ap (λ (t : Bool). t && not (no_block (open_blocks es (Some x)))) a ∙ f)
    by true false e f g up = or_right (lies_in p x && not (no_block (open_blocks es (Some x)))) (is_in_block p es) (up g)
    by false u e f g up = or_right (lies_in p x && not (no_block (open_blocks es (Some x)))) (is_in_block p es) (up g)
in_block_below p c (beside x k b l s ∷ es) i h = in_block_below p c es i h
in_block_below p c (says l s ∷ es) i h = in_block_below p c es i h

-- ---- all that is known at a place

module _ (file : ℕ) (holders : List ℕ) where
  pub record Here (q : Path) (past : List Event) (es : List Event) (bs : List Open) : Type 0 where
    pub standing : Standing q past (next_item es) bs
    pub latest : Latest q past
    pub orderly : Orderly q past es
    pub besides : BesideStands q es
    pub sound : NoneWrong file past es
    pub fine : Fine (next_item es) (open_blocks past (next_item es))
    pub clear : Uncrossed past es
    pub known : Known holders past es

  abbrev ChecksHere : (q : Path) → (past : List Event) → (es : List Event) → List PathPut → Type 0
  ChecksHere q past es qs = (w : Ways) (c : Path) → In q c → Base w c past → Checked holders w (own c (open_blocks past (next_item es))) (slot_of file c qs).parts

  -- ---- an item begins

  module _ (q p : Path) (k : ItemKind) (l : ℕ) (past es : List Event) (bs : List Open) (h : Here q past (begins p k l ∷ es) bs) where
    stays : IsTrue (stays_within (open_blocks past (Some p)) p)
    stays = none_true (stays_within (open_blocks past (Some p)) p) _ h.sound.0

    comes : Coming p (begins p k l ∷ past) (next_item es)
    comes = coming_next p (begins p k l ∷ past) es h.orderly.2

    now : open_blocks (begins p k l ∷ past) (next_item es) ≡ advance p (next_item es) (open_blocks past (Some p))
    now = behind_begins q p k l past (next_item es) bs h.standing comes

    pub here_begins : Here p (begins p k l ∷ past) es (behind bs (level_at (next_item es)) (length past) (row_of (begins p k l)))
    here_begins = record {
      standing = standing_step file q past (begins p k l) es bs h.standing h.sound.0 h.orderly;
      latest = latest_item q p k l past h.orderly.1 h.latest (lain q (collection_of p) h.orderly.0);
      orderly = h.orderly.2;
      besides = h.besides;
      sound = h.sound.1;
      fine = subst (Fine (next_item es)) (sym now) (fine_begins p (next_item es) (open_blocks past (Some p)) h.fine stays);
      clear = h.clear;
      known = h.known.2;
    }

    -- what is put behind it
    module _ (ns : List Before) (ss : List Start) (up : ChecksHere p (begins p k l ∷ past) es (path_puts (begins p k l ∷ past) [] es (drop 1 ss))) where
      abbrev qs : List PathPut
      qs = path_puts (begins p k l ∷ past) [] es (drop 1 ss)

      abbrev first : PathPut
      first = item_put p k l (first_start ss).key (first_start ss).written ns

      abbrev made : Item
      made = item_with file k l (first_start ss).key (first_start ss).written ns (slot_of file p qs)

      up_kept : (w : Ways) (c : Path) → In p c → Base w c (begins p k l ∷ past) → Checked holders w (kept (own c (open_blocks past (Some p)))) (slot_of file c qs).parts
      up_kept w c i b =
          subst (λ (fs : List Frame). Checked holders w fs (slot_of file c qs).parts) (ap (own c) now ∙ own_advance c p (next_item es) (open_blocks past (Some p))) (up w c i b)

      around : Around q (length (collection_of p)) (open_blocks past (Some p))
      around =
          subst (λ (c : Path). Around q (length c) (open_blocks past (Some p))) (belongs_begun (open_blocks past (Some p)) p stays)
          (belongs_within q past (length q) (open_blocks past (Some p)) (Some p) h.standing.around)

      elsewhere : BegunElsewhere (collection_of p) (open_blocks past (Some p))
      elsewhere =
          subst (λ (c : Path). BegunElsewhere c (open_blocks past (Some p))) (belongs_begun (open_blocks past (Some p)) p stays)
          (none_begun q past (Some p) bs h.standing h.fine.ones)

      longer : length (collection_of p) < length p
      longer = let e : length p ≡ suc (length (collection_of p)) = ap length h.orderly.1 in omega (arith, e)

      module _ (w : Ways) (base : Base w (collection_of p) past) where
        abbrev inner : Ways
        inner = in_a_node (ways_within holders w (own (collection_of p) (open_blocks past (Some p))))

        base_inside : Base inner p (begins p k l ∷ past)
        base_inside = by (open_blocks past (Some p)) refl base
          where
            by : (xs : List Block) → open_blocks past (Some p) ≡ xs → Base w (collection_of p) past → Base (in_a_node (ways_within holders w (own (collection_of p) xs))) p (begins p k l ∷ past)
            by [] e (inl x) = inl x
            by [] e (inr x) = inr (or_right (lies_in p p && not (no_block (open_blocks past (Some p)))) (is_in_block p past) (in_block_below p (collection_of p) past (in_collection p) x))
            by (b ∷ xs) e x =
                let a : lies_in p p ≡ true = lies p p (in_itself p) in
                inr (or_left (lies_in p p && not (no_block (open_blocks past (Some p)))) (is_in_block p past)
                (ap (λ (t : Bool). t && not (no_block (open_blocks past (Some p)))) a ∙ ap (λ (ys : List Block). not (no_block ys)) e))

        inside_checked : Checked holders inner [] (slot_of file p qs).parts
        inside_checked =
            subst (λ (fs : List Frame). Checked holders inner (kept fs) (slot_of file p qs).parts) (own_shorter p q (length (collection_of p)) (open_blocks past (Some p)) around longer)
            (up_kept inner p (in_itself p) base_inside)

        made_stands : StandingItem (ways_within holders w (own (collection_of p) (open_blocks past (Some p)))) made
        made_stands =
            value_stands (ways_within holders w (own (collection_of p) (open_blocks past (Some p)))) (slot_of file p qs).value _
            (content_stands holders (ways_within holders w (own (collection_of p) (open_blocks past (Some p)))) file (first_start ss).written (slot_of file p qs).parts inside_checked)

        base_still : Base w (collection_of p) (begins p k l ∷ past)
        base_still = by base
          where
            by : Base w (collection_of p) past → Base w (collection_of p) (begins p k l ∷ past)
            by (inl x) = inl x
            by (inr x) = inr (or_right (lies_in (collection_of p) p && not (no_block (open_blocks past (Some p)))) (is_in_block (collection_of p) past) x)

        in_own : Checked holders w (own (collection_of p) (open_blocks past (Some p))) (slot_of file (collection_of p) (first ∷ qs)).parts
        in_own =
            subst (λ (t : Bool). Checked holders w (own (collection_of p) (open_blocks past (Some p))) (changed_if t (with_part (a_node made)) (slot_of file (collection_of p) qs)).parts)
            (sym (path_same (collection_of p) (collection_of p) refl)) (
              (made_stands, λ e. holding holders w (collection_of p) q (length (collection_of p)) (open_blocks past (Some p)) around (omega arith) (lain q (collection_of p) h.orderly.0) elsewhere h.known.0),
              up_kept w (collection_of p) (in_collection p) base_still,
            )

      in_other : (w : Ways) (c : Path) → In q c → Base w c past → (collection_of p ≡ c → ⊥) → Checked holders w (own c (open_blocks past (Some p))) (slot_of file c (first ∷ qs)).parts
      in_other w c i base n =
          subst (λ (t : Bool). Checked holders w (own c (open_blocks past (Some p))) (changed_if t (with_part (a_node made)) (slot_of file c qs)).parts)
          (sym (path_other (collection_of p) c n)) (by (cases_lt (length (collection_of p)) (length c)) base)
        where
          ordered : Ordered p (begins p k l ∷ past) qs
          ordered =
              puts_ordered p (begins p k l ∷ past) (begins p k l ∷ past) (behind bs (level_at (next_item es)) (length past) (row_of (begins p k l))) (length (begins p k l ∷ past)) [] es (drop 1 ss) (λ c. refl)
              (marks_stand file p (begins p k l ∷ past) es (drop 1 ss) (behind bs (level_at (next_item es)) (length past) (row_of (begins p k l))) here_begins.standing here_begins.sound here_begins.orderly)
              here_begins.besides here_begins.orderly

          by : (length (collection_of p) < length c) ⊎ (length c ≤ length (collection_of p)) → Base w c past → Checked holders w (own c (open_blocks past (Some p))) (slot_of file c qs).parts
          by (inl s) b =
              subst (λ (t : Slot). Checked holders w (own c (open_blocks past (Some p))) t.parts)
              (sym (slot_gone file p (begins p k l ∷ past) qs ordered here_begins.latest c (gone_item q c p k l past h.orderly.1 h.latest i (lain q (collection_of p) h.orderly.0) s))) tt
          by (inr s) b =
              subst (λ (fs : List Frame). Checked holders w fs (slot_of file c qs).parts)
              (all_kept (own c (open_blocks past (Some p))) (other_stay c (collection_of p) (open_blocks past (Some p)) (wait_in p (open_blocks past (Some p)) h.fine.waits stays) n))
              (up_kept w c (in_through p (collection_of p) c (in_collection p) (in_by_length q (collection_of p) c (lain q (collection_of p) h.orderly.0) i s)) (still b))
            where
              still : Base w c past → Base w c (begins p k l ∷ past)
              still (inl x) = inl x
              still (inr x) = inr (or_right (lies_in c p && not (no_block (open_blocks past (Some p)))) (is_in_block c past) x)

      pub at_item : ChecksHere q past (begins p k l ∷ es) (first ∷ qs)
      at_item w c i base = by (path_cases (collection_of p) c)
        where
          by : (collection_of p ≡ c) ⊎ (collection_of p ≡ c → ⊥) → Checked holders w (own c (open_blocks past (Some p))) (slot_of file c (first ∷ qs)).parts
          by (inl e) =
              subst (λ (x : Path). Checked holders w (own x (open_blocks past (Some p))) (slot_of file x (first ∷ qs)).parts) e
              (in_own w (subst (λ (x : Path). Base w x past) (sym e) base))
          by (inr n) = in_other w c i base n

  -- ---- something is said beside an item

  latest_beside : (q p : Path) (k : ItemKind) (b : Bool) (l : ℕ) (s : Said) (past : List Event) → Latest q past → Latest q (beside p k b l s ∷ past)
  unfolding Latest
  latest_beside q p k b l s past h = h

  latest_says : (q : Path) (l : ℕ) (s : Said) (past : List Event) → Latest q past → Latest q (says l s ∷ past)
  unfolding Latest
  latest_says q l s past h = h

  here_beside : (q p : Path) (k : ItemKind) (b : Bool) (l : ℕ) (s : Said) (past es : List Event) (bs : List Open) → Here q past (beside p k b l s ∷ es) bs → Here q (beside p k b l s ∷ past) es bs
  here_beside q p k b l s past es bs h = record {
    standing = standing_step file q past (beside p k b l s) es bs h.standing h.sound.0 h.orderly;
    latest = latest_beside q p k b l s past h.latest;
    orderly = h.orderly;
    besides = h.besides.2;
    sound = h.sound.1;
    fine = h.fine;
    clear = h.clear;
    known = h.known.2;
  }

  -- ---- something is said between items

  module _ (q : Path) (past es : List Event) (l : ℕ) (bs : List Open) where
    none_waiting : (s : Said) → Here q past (says l s ∷ es) bs → may_wait s ≡ false → NoneWaits (open_blocks past (next_item es))
    none_waiting s h m = none_wait file past es l s h.fine h.sound.0 m

    abbrev opened : Header → Bool → Block
    opened x z = record { collection = belongs (open_blocks past (next_item es)) (next_item es); header = x; for_one = z; line = l; one = None; has_else = false; before = length past }

    clear_said : (s : Said) → Uncrossed past (says l s ∷ es) → Uncrossed (says l s ∷ past) es
    clear_said (statements is) h = h.1
    clear_said ignored h = h
    clear_said (a_note x vs) h = h
    clear_said (a_value e) h = h
    clear_said (opens x z) h = h
    clear_said (elif e) h = h
    clear_said otherwise h = h
    clear_said closes h = h

    here_says : (s : Said) → Here q past (says l s ∷ es) bs → Here q (says l s ∷ past) es (behind bs (level_at (next_item es)) (length past) (row.says l s))
    here_says s h = record {
      standing = standing_step file q past (says l s) es bs h.standing h.sound.0 h.orderly;
      latest = latest_says q l s past h.latest;
      orderly = h.orderly;
      besides = h.besides;
      sound = h.sound.1;
      fine = fine_said file past es l s h.fine h.sound.0;
      clear = clear_said s h.clear;
      known = h.known.2;
    }

    module _ (qs : List PathPut) where
      stand_here : (is : List Instruction) (w : Ways) (c : Path) → Here q past (says l (statements is) ∷ es) bs → Base w c past → belongs (open_blocks past (next_item es)) (next_item es) ≡ c →
          AllStand holders w (own c (open_blocks past (next_item es))) is
      stand_here is w c h base e =
          subst (λ (x : Path). AllStand holders w (own x (open_blocks past (next_item es))) is) e
          (all_stand holders w (belongs (open_blocks past (next_item es)) (next_item es)) past (open_blocks past (next_item es)) (none_begun q past (next_item es) bs h.standing h.fine.ones)
          (subst (λ (x : Path). Base w x past) (sym e) base) is (then_said file (open_blocks past (next_item es)) (next_item es) l (statements is) h.sound.0) h.clear.0 h.known.1)

      at_said : (s : Said) → Here q past (says l s ∷ es) bs → ChecksHere q (says l s ∷ past) es qs → ChecksHere q past (says l s ∷ es) (marked (place_of past es s) l s qs)
      at_said (statements is) h up w c i base =
          either_part holders w (bytes_eq (belongs (open_blocks past (next_item es)) (next_item es)) c) l (statements is) (slot_of file c qs) (own c (open_blocks past (next_item es)))
          (λ t. (own_stay c (open_blocks past (next_item es)) (none_waiting (statements is) h refl), stand_here is w c h base (same_path (belongs (open_blocks past (next_item es)) (next_item es)) c t), up w c i base))
          (λ t. up w c i base)
      at_said (opens x true) h up w c i base =
          opened_part holders w (bytes_eq (belongs (open_blocks past (next_item es)) (next_item es)) c) l x true (opened x true) (slot_of file c qs) (own c (open_blocks past (next_item es))) refl refl
          (λ e. cc e) (up w c i base)
      at_said (opens x false) h up w c i base =
          opened_part holders w (bytes_eq (belongs (open_blocks past (next_item es)) (next_item es)) c) l x false (opened x false) (slot_of file c qs) (own c (open_blocks past (next_item es))) refl refl
          (λ e. own_stay c (open_blocks past (next_item es)) (none_waiting (opens x false) h refl)) (up w c i base)
      at_said (elif e) h up w c i base =
          either_part holders w (bytes_eq (innermost (open_blocks past (next_item es))) c) l (elif e) (slot_of file c qs) (own c (open_blocks past (next_item es)))
          (λ t. (own_stay c (open_blocks past (next_item es)) (none_waiting (elif e) h refl), up w c i base)) (λ t. up w c i base)
      at_said otherwise h up w c i base =
          let same : Checked holders w (own c (open_blocks past (next_item es))) (slot_of file c qs).parts
          = subst (λ (fs : List Frame). Checked holders w fs (slot_of file c qs).parts)
          (ap (own c) (behind_otherwise file past (next_item es) l h.sound.0) ∙ own_else c (open_blocks past (next_item es))) (up w c i base) in
          either_part holders w (bytes_eq (innermost (open_blocks past (next_item es))) c) l otherwise (slot_of file c qs) (own c (open_blocks past (next_item es)))
          (λ t. (own_stay c (open_blocks past (next_item es)) (none_waiting otherwise h refl), same)) (λ t. same)
      at_said closes h up w c i base =
          closed_part holders w c (open_blocks past (next_item es)) l (slot_of file c qs) (end_stays file (open_blocks past (next_item es)) (next_item es) l h.sound.0) h.fine.ones
          (own_stay c (open_blocks past (next_item es)) (none_waiting closes h refl))
          (subst (λ (bs : List Block). Checked holders w (own c bs) (slot_of file c qs).parts) (behind_closes file past (next_item es) l h.sound.0) (up w c i base))
      at_said ignored h up w c i base = up w c i base
      at_said (a_note x vs) h up w c i base = up w c i base
      at_said (a_value e) h up w c i base = up w c i base

  -- ---- all

  pub checked : (q : Path) (past : List Event) (ns : List Before) (es : List Event) (ss : List Start) (bs : List Open) → Here q past es bs → ChecksHere q past es (path_puts past ns es ss)
  checked q past ns [] ss bs h w c i base = tt
  checked q past ns (begins p k l ∷ es) ss bs h w c i base =
      at_item q p k l past es bs h ns ss
      (checked p (begins p k l ∷ past) [] es (drop 1 ss) (behind bs (level_at (next_item es)) (length past) (row_of (begins p k l))) (here_begins q p k l past es bs h)) w c i base
  checked q past ns (beside p k b l s ∷ es) ss bs h w c i base =
      subst (λ (ps : List Part). Checked holders w (own c (open_blocks past (next_item es))) ps) (sym (beside_parts file l s (bytes_eq p c) (slot_of file c (path_puts (beside p k b l s ∷ past) ns es ss))))
      (checked q (beside p k b l s ∷ past) ns es ss bs (here_beside q p k b l s past es bs h) w c i base)
  checked q past ns (says l s ∷ es) ss bs h w c i base =
      at_said q past es l bs (path_puts (says l s ∷ past) (waiting ns (row.says l s)) es ss) s h
      (checked q (says l s ∷ past) (waiting ns (row.says l s)) es ss (behind bs (level_at (next_item es)) (length past) (row.says l s)) (here_says q past es l bs s h)) w c i base
