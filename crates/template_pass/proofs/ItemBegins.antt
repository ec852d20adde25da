-- The stack of levels behind the beginning of an item.
use Rattle.std.proofs.Common.{◌≡◌, ℕ, zero, suc, ◌≤◌, Bool, true, false, not, ◌&&◌, if◌then◌else◌, List, [], ◌∷◌, ◌++◌, length, get_or, map as each, bytes_eq, Option, Some, None, refl, sym, ◌∙◌, ap, subst, arith}
use Rattle.std.specs.Bool.{IsTrue}
use Rattle.std.proofs.lemmas.Bool.{not-false}
use Rattle.std.proofs.lemmas.Bool.Decides.{Decides-like, same_from_decides, nat_tests}
use Rattle.std.proofs.lemmas.Slice.Eq.{bytes_eq-Decides}
use Rattle.code_spec.specs.Program.{ItemKind}
use Rattle.template_spec.specs.Events.{Path, Event, begins, beside, says}
use Rattle.template_spec.specs.Misplaced.{stays_within}
use Rattle.template_spec.specs.OpenBlocks.{collection_of, lies_in, Block, is_over, left_at, unclosed, open_blocks, so_far}
use Rattle.template_pass.specs.Levels as level
use Rattle.template_pass.specs.Levels.{at_most, Open, advanced}
use Rattle.template_pass.specs.Rows.{level_of}
use Rattle.template_pass.specs.Standing.{level_at, seen, Around, Began, Numbered, Coming, Standing}
use Rattle.template_pass.proofs.Paths.{In, in_through, in_collection, in_by_length, in_length, lies, lain, lies_in-Decides, lies_by_length}
use Rattle.template_pass.proofs.Unclosed.{has_one, flagged, same_collection, not_over_itself, behind_item, OfOne, Ones, ones_began}

-- ---- how many items have begun

so_far_grows : (c p : Path) (k : ItemKind) (l : ℕ) (past : List Event) → so_far c past ≤ so_far c (begins p k l ∷ past)
so_far_grows c p k l past = by_test (bytes_eq (collection_of p) c)
  where
    by_test : (b : Bool) → so_far c past ≤ (if b then suc (so_far c past) else so_far c past)
    by_test true = omega arith
    by_test false = omega arith

so_far_here : (p : Path) (k : ItemKind) (l : ℕ) (past : List Event) → so_far (collection_of p) (begins p k l ∷ past) ≡ suc (so_far (collection_of p) past)
so_far_here p k l past = let e : bytes_eq (collection_of p) (collection_of p) ≡ true = (bytes_eq-Decides (collection_of p) (collection_of p)).1 refl in rw e refl

pub numbered_still : (p : Path) (k : ItemKind) (l : ℕ) (past : List Event) (q : Path) → Numbered past q → Numbered (begins p k l ∷ past) q
numbered_still p k l past q h = let g : so_far h.1 past ≤ so_far h.1 (begins p k l ∷ past) = so_far_grows h.1 p k l past in let f : suc h.0 ≤ so_far h.1 past = h.3 in (h.0, h.1, h.2, omega (arith, f, g))

numbered_now : (p : Path) (k : ItemKind) (l : ℕ) (past : List Event) → p ≡ so_far (collection_of p) past ∷ collection_of p → Numbered (begins p k l ∷ past) p
numbered_now p k l past e = let s : so_far (collection_of p) (begins p k l ∷ past) ≡ suc (so_far (collection_of p) past) = so_far_here p k l past in (so_far (collection_of p) past, collection_of p, e, omega (arith, s))

pub began_each : (P Q : Path → Type 0) → ((p : Path) → P p → Q p) → (es : List Event) → Began P es → Began Q es
began_each P Q f [] h = tt
began_each P Q f (begins p k l ∷ es) h = (f p h.0, began_each P Q f es h.1)
began_each P Q f (beside p k b l s ∷ es) h = began_each P Q f es h
began_each P Q f (says l s ∷ es) h = began_each P Q f es h

-- an item that comes has not begun
pub is_new : (past : List Event) (p q : Path) → Numbered past p → q ≡ so_far (collection_of q) past ∷ collection_of q → q ≡ p → ⊥
is_new past p q h e s =
    let t : so_far (collection_of q) past ∷ collection_of q ≡ h.0 ∷ h.1 = sym e ∙ s ∙ h.2 in
    let n : so_far (collection_of q) past ≡ h.0 = ap (λ p. get_or p 0 0) t in
    let c : collection_of q ≡ h.1 = ap collection_of t in
    let m : so_far (collection_of q) past ≡ so_far h.1 past = ap (λ c. so_far c past) c in
    let f : suc h.0 ≤ so_far h.1 past = h.3 in
    omega (arith, n, m, f)

-- ---- where the text of an item is over

collection_at : (q p e : Path) → q ≡ e ++ p → (q ≡ p → ⊥) → In (collection_of q) p
collection_at q p [] h new = absurd (new h)
collection_at q p (n ∷ e) h new = (e, ap collection_of h)

pub collection_in : (q p : Path) → (q ≡ p → ⊥) → In q p → In (collection_of q) p
collection_in q p new h = collection_at q p h.0 h.1 new

not_at_most : (m n : ℕ) → not (at_most (suc m) n) ≡ at_most n m
not_at_most m n = grind (arith, nat_tests)

-- behind the item at p, where the one at q comes, an item at x whose text p is in
module _ (p q x : Path) (new : q ≡ x → ⊥) (coming : In p (collection_of q)) where
  same_below : lies_in q x ≡ lies_in (collection_of q) x
  same_below =
      same_from_decides (lies_in q x) (lies_in (collection_of q) x) (lies_in-Decides q x)
      (Decides-like (lies_in (collection_of q) x) (in_through q (collection_of q) x (in_collection q)) (collection_in q x new) (lies_in-Decides (collection_of q) x))

  over_by_level : (n : ℕ) (c : Path) → x ≡ n ∷ c → In p x → is_over (Some x) (Some q) ≡ level.is_over (Some (level_of x)) (Some (level_of q))
  over_by_level n c e h =
      let l : length x ≡ suc (level_of x) = rw e refl in
      ap not (same_below ∙ lies_by_length p (collection_of q) x coming h ∙ ap (λ n. at_most n (level_of q)) l) ∙ not_at_most (level_of x) (level_of q)

  stays_over : is_over (Some x) (Some p) ≡ true → is_over (Some x) (Some q) ≡ true
  stays_over h = by_test (lies_in q x) refl
    where
      by_test : (b : Bool) → lies_in q x ≡ b → not b ≡ true
      by_test true e = let i : IsTrue (lies_in p x) = lies p x (in_through p (collection_of q) x coming (collection_in q x new (lain q x e))) in cc
      by_test false e = refl

-- ---- the blocks that are left

-- a block for the item at x, where that at p begins, is treated alike by paths and by levels when the next one comes
pub record Told (p : Path) (next : Option Path) (x : Path) : Type 0 where
  pub stays : is_over (Some x) (Some p) ≡ true → is_over (Some x) next ≡ true
  pub level : is_over (Some x) (Some p) ≡ false → is_over (Some x) next ≡ level.is_over (Some (level_of x)) (level_at next)

told : (past : List Event) (p x : Path) (next : Option Path) → Numbered past x → Coming p past next → Told p next x
told past p x None h c = record { stays = λ e. refl; level = λ e. refl }
told past p x (Some q) h c =
    let new : q ≡ x → ⊥ = is_new past x q h c.1 in
    let i : In p (collection_of q) = lain p (collection_of q) c.0 in
    record { stays = stays_over p q x new i; level = λ e. over_by_level p q x new i h.0 h.1 h.2 (lain p x (when_kept e)) }
  where
    when_kept : not (lies_in p x) ≡ false → lies_in p x ≡ true
    when_kept e = not-false (lies_in p x) e

either : (t s : Bool) (bs cs : List Block) (b : Block) → t ≡ s → bs ≡ cs → (if t then bs else b ∷ bs) ≡ (if s then cs else b ∷ cs)
either true true bs cs b e h = h
either true false bs cs b e h = cc
either false true bs cs b e h = cc
either false false bs cs b e h = ap (λ bs. b ∷ bs) h

module _ (p : Path) (next : Option Path) where
  abbrev pub advance : List Block → List Block
  advance bs = left_at next (each (has_one p) bs)

  -- those that were over stay over
  module _ (bs : List Block) (rest : advance bs ≡ advance (left_at (Some p) bs)) where
    over_first : (b : Block) (z : Bool) (o : Option Path) → OfOne (Told p next) o → advance (flagged b z o ∷ bs) ≡ advance (left_at (Some p) (flagged b z o ∷ bs))
    over_first b false o t = ap (λ cs. flagged b false o ∷ cs) rest
    over_first b true None t = either (is_over (Some p) next) (is_over (Some p) next) _ _ (flagged b true (Some p)) refl rest
    over_first b true (Some x) t = by_test (is_over (Some x) (Some p)) refl
      where
        by_test : (s : Bool) → is_over (Some x) (Some p) ≡ s →
            (if is_over (Some x) next then advance bs else flagged b true (Some x) ∷ advance bs) ≡ advance (if s then left_at (Some p) bs else flagged b true (Some x) ∷ left_at (Some p) bs)
        by_test true e = let g : is_over (Some x) next ≡ true = t.stays e in rw g rest
        by_test false e = either (is_over (Some x) next) (is_over (Some x) next) _ _ (flagged b true (Some x)) refl rest

  advance_left : (bs : List Block) → Ones (Told p next) bs → advance bs ≡ advance (left_at (Some p) bs)
  advance_left [] h = refl
  advance_left (b ∷ bs) h = over_first bs (advance_left bs h.1) b b.for_one b.one h.0

  -- by levels
  module _ (bs : List Block) (rest : each seen (advance bs) ≡ advanced (level_of p) (level_at next) (each seen bs)) where
    seen_either : (t s : Bool) (b : Block) → t ≡ s → each seen (if t then advance bs else b ∷ advance bs) ≡ (if s then advanced (level_of p) (level_at next) (each seen bs) else seen b ∷ advanced (level_of p) (level_at next) (each seen bs))
    seen_either true true b e = rest
    seen_either true false b e = cc
    seen_either false true b e = cc
    seen_either false false b e = ap (λ cs. seen b ∷ cs) rest

    seen_first : (b : Block) (z : Bool) (o : Option Path) → is_over (Some p) next ≡ level.is_over (Some (level_of p)) (level_at next) → OfOne (Told p next) o → (z && is_over o (Some p)) ≡ false →
        each seen (advance (flagged b z o ∷ bs)) ≡ advanced (level_of p) (level_at next) (each seen (flagged b z o ∷ bs))
    seen_first b false o l t h = ap (λ cs. seen (flagged b false o) ∷ cs) rest
    seen_first b true None l t h = seen_either (is_over (Some p) next) (level.is_over (Some (level_of p)) (level_at next)) (flagged b true (Some p)) l
    seen_first b true (Some x) l t h = seen_either (is_over (Some x) next) (level.is_over (Some (level_of x)) (level_at next)) (flagged b true (Some x)) (t.level h)

-- none of these is over where this item comes
abbrev pub NoneOver : (next : Option Path) → List Block → Type 0
NoneOver next [] = Unit {0}
NoneOver next (b ∷ bs) = ((b.for_one && is_over b.one next) ≡ false) × NoneOver next bs

none_over_first : (next : Option Path) (b : Block) (bs : List Block) (t : Bool) → (b.for_one && is_over b.one next) ≡ t → NoneOver next bs → NoneOver next (if t then bs else b ∷ bs)
none_over_first next b bs true e h = h
none_over_first next b bs false e h = (e, h)

pub left_none_over : (next : Option Path) (bs : List Block) → NoneOver next (left_at next bs)
left_none_over next [] = tt
left_none_over next (b ∷ bs) = none_over_first next b (left_at next bs) (b.for_one && is_over b.one next) refl (left_none_over next bs)

ones_first : (P : Path → Type 0) (b : Block) (bs : List Block) (t : Bool) → OfOne P b.one → Ones P bs → Ones P (if t then bs else b ∷ bs)
ones_first P b bs true g h = h
ones_first P b bs false g h = (g, h)

pub ones_left : (P : Path → Type 0) (next : Option Path) (bs : List Block) → Ones P bs → Ones P (left_at next bs)
ones_left P next [] h = tt
ones_left P next (b ∷ bs) h = ones_first P b (left_at next bs) (b.for_one && is_over b.one next) h.0 (ones_left P next bs h.1)

seen_advance : (p : Path) (next : Option Path) (bs : List Block) → is_over (Some p) next ≡ level.is_over (Some (level_of p)) (level_at next) → Ones (Told p next) bs → NoneOver (Some p) bs →
    each seen (advance p next bs) ≡ advanced (level_of p) (level_at next) (each seen bs)
seen_advance p next [] l t h = refl
seen_advance p next (b ∷ bs) l t h = seen_first p next bs (seen_advance p next bs l t.1 h.1) b b.for_one b.one l t.0 h.0

-- ---- their collections

pub around_more : (q : Path) (m n : ℕ) (bs : List Block) → m ≤ n → Around q m bs → Around q n bs
around_more q m n [] le h = tt
around_more q m n (b ∷ bs) le h = let l : length b.collection ≤ m = h.1 in (h.0, omega (arith, le, l), h.2)

-- a collection in which the last item is, and none of theirs is longer
around_collection : (q c : Path) (m : ℕ) (bs : List Block) → In q c → m ≤ length c → Around q m bs → Around c m bs
around_collection q c m [] i le h = tt
around_collection q c m (b ∷ bs) i le h =
    let l : length b.collection ≤ m = h.1 in
    let n : length b.collection ≤ length c = omega (arith, l, le) in
    (lies c b.collection (in_by_length q c b.collection i (lain q b.collection h.0) n), l, around_collection q c (length b.collection) bs i n h.2)

around_below : (p c : Path) (m : ℕ) (bs : List Block) → In p c → Around c m bs → Around p m bs
around_below p c m [] i h = tt
around_below p c m (b ∷ bs) i h = (lies p b.collection (in_through p c b.collection i (lain c b.collection h.0)), h.1, around_below p c (length b.collection) bs i h.2)

-- an item begins in the innermost collection or below it
around_begun : (q p : Path) (bs : List Block) → In q (collection_of p) → IsTrue (stays_within bs p) → Around q (length q) bs → Around p (length p) bs
around_begun q p [] i w h = tt
around_begun q p (b ∷ bs) i w h =
    let l : length b.collection ≤ length (collection_of p) = in_length (collection_of p) b.collection (lain (collection_of p) b.collection w) in
    let n : length (collection_of p) ≤ length p = in_length p (collection_of p) (in_collection p) in
    let g : Around q (length (collection_of p)) (b ∷ bs) = (h.0, l, h.2) in
    around_more p (length (collection_of p)) (length p) (b ∷ bs) n
    (around_below p (collection_of p) (length (collection_of p)) (b ∷ bs) (in_collection p) (around_collection q (collection_of p) (length (collection_of p)) (b ∷ bs) i (omega arith) g))

module _ (q p : Path) (next : Option Path) (bs : List Block) where
  around_first : (m : ℕ) (b c : Block) (t : Bool) → c.collection ≡ b.collection → IsTrue (lies_in q b.collection) → length b.collection ≤ m → Around q (length b.collection) (advance p next bs) →
      Around q m (if t then advance p next bs else c ∷ advance p next bs)
  around_first m b c true e i l h = around_more q (length b.collection) m (advance p next bs) l h
  around_first m b c false e i l h = rw e (i, l, h)

around_advance : (q p : Path) (next : Option Path) (m : ℕ) (bs : List Block) → Around q m bs → Around q m (advance p next bs)
around_advance q p next m [] h = tt
around_advance q p next m (b ∷ bs) h =
    around_first q p next bs m b (has_one p b) ((has_one p b).for_one && is_over (has_one p b).one next) (same_collection p b b.for_one b.one) h.0 h.1 (around_advance q p next (length b.collection) bs h.2)

-- ---- the step

-- the blocks that no `end` closes, where this item comes
abbrev unclosed_at : (past : List Event) → Path → List Block
unclosed_at past p = unclosed (Some p) false zero false past

module _ (p : Path) (k : ItemKind) (l : ℕ) (past : List Event) (next : Option Path) (c : Coming p (begins p k l ∷ past) next) (numbered : Began (Numbered (begins p k l ∷ past)) past) where
  told_all : Ones (Told p next) (unclosed_at past p)
  told_all = ones_began (Told p next) (Some p) false zero false past tt (began_each (Numbered (begins p k l ∷ past)) (Told p next) (λ x h. told (begins p k l ∷ past) p x next h c) past numbered)

  told_left : Ones (Told p next) (open_blocks past (Some p))
  told_left = ones_left (Told p next) (Some p) (unclosed_at past p) told_all

  pub blocks_behind : open_blocks (begins p k l ∷ past) next ≡ advance p next (open_blocks past (Some p))
  blocks_behind = ap (left_at next) (behind_item p zero false past) ∙ advance_left p next (unclosed_at past p) told_all

  seen_behind : Numbered (begins p k l ∷ past) p → each seen (open_blocks (begins p k l ∷ past) next) ≡ advanced (level_of p) (level_at next) (each seen (open_blocks past (Some p)))
  seen_behind now =
      ap (each seen) blocks_behind
      ∙ seen_advance p next (open_blocks past (Some p)) ((told (begins p k l ∷ past) p p next now c).level (not_over_itself p)) told_left (left_none_over (Some p) (unclosed_at past p))

pub item_step : (q p : Path) (k : ItemKind) (l : ℕ) (past : List Event) (next : Option Path) (bs : List Open) → Standing q past (Some p) bs →
    IsTrue (stays_within (open_blocks past (Some p)) p) → Coming p (begins p k l ∷ past) next → Standing p (begins p k l ∷ past) next (advanced (level_of p) (level_at next) bs)
item_step q p k l past next bs s w c =
    let numbered : Began (Numbered (begins p k l ∷ past)) past = began_each (Numbered past) (Numbered (begins p k l ∷ past)) (numbered_still p k l past) past s.numbered in
    let now : Numbered (begins p k l ∷ past) p = numbered_now p k l past s.coming.1 in
    let begun : Around p (length p) (open_blocks past (Some p)) = around_begun q p (open_blocks past (Some p)) (lain q (collection_of p) s.coming.0) w s.around in
    record {
      stack = ap (advanced (level_of p) (level_at next)) s.stack ∙ sym (seen_behind p k l past next c numbered now);
      around = subst (λ bs. Around p (length p) bs) (sym (blocks_behind p k l past next c numbered)) (around_advance p p next (length p) (open_blocks past (Some p)) begun);
      numbered = (now, numbered);
      coming = c;
    }
