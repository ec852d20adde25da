-- The open blocks of one collection, and what holds of open blocks as long as nothing is wrong.
use Rattle.std.proofs.Common.{◌≡◌, ℕ, suc, ◌<◌, ◌≤◌, Bool, true, false, not, ◌&&◌, if◌then◌else◌, is_some, List, [], ◌∷◌, length, bytes_eq, Option, Some, None, ◌⊎◌, inl, inr, refl, sym, ◌∙◌, ap, subst, arith}
use Rattle.std.specs.Bool.{IsTrue}
use Rattle.std.proofs.lemmas.Bool.{cases_lt, not-false}
use Rattle.code_spec.specs.CodeReading.{Header, if_header, elif_header, else_header, for_header, def_header, end_header}
use Rattle.template_spec.specs.Events.{Path, Event}
use Rattle.template_spec.specs.Misplaced.{is_def, is_for, innermost_def, innermost_loop, is_collection_of, is_waiting, stays_within, holder_in}
use Rattle.template_spec.specs.OpenBlocks.{collection_of, lies_in, Block, belongs, is_over}
use Rattle.template_spec.specs.WellNested.{Ways}
use Rattle.template_pass.specs.Standing.{Around, Numbered, Coming}
use Rattle.template_placed.proofs.Checked.{Frame, kept, AllStay, is_holder, header_ways, ways_within, HeldBy, Holding}
use Rattle.template_pass.proofs.Inside.{same_path, path_same}
use Rattle.template_pass.proofs.ItemBegins.{advance, collection_in, is_new, NoneOver}
use Rattle.template_pass.proofs.Paths.{In, in_through, in_length, lies, lain, same_by_length}
use Rattle.template_pass.proofs.Unclosed.{flagged, OfOne, Ones, with_else}

-- ---- those of one collection

abbrev pub frame_of : Block → Frame
frame_of b = record { header = b.header; for_one = b.for_one; before = b.before }

abbrev pub frame_if : Bool → Block → List Frame → List Frame
frame_if t b fs = if t then frame_of b ∷ fs else fs

-- one whose item has begun is the item's own
abbrev pub own : Path → List Block → List Frame
own c [] = []
own c (b ∷ bs) = frame_if (bytes_eq b.collection c && not (is_some b.one)) b (own c bs)

pub own_else : (c : Path) (bs : List Block) → own c (with_else bs) ≡ own c bs
own_else c [] = refl
own_else c (b ∷ bs) = refl

module _ (c p : Path) (next : Option Path) (bs : List Block) (rest : own c (advance p next bs) ≡ kept (own c bs)) where
  own_first : (b : Block) (z : Bool) (o : Option Path) (t : Bool) → bytes_eq b.collection c ≡ t → own c (advance p next (flagged b z o ∷ bs)) ≡ kept (own c (flagged b z o ∷ bs))
  own_first b false o t e = by (bytes_eq b.collection c && not (is_some o))
    where
      by : (s : Bool) → frame_if s (flagged b false o) (own c (advance p next bs)) ≡ kept (frame_if s (flagged b false o) (own c bs))
      by true = ap (λ (fs : List Frame). frame_of (flagged b false o) ∷ fs) rest
      by false = rest
  own_first b true None t e = over (is_over (Some p) next) ∙ by t ∙ sym (ap (λ (s : Bool). kept (frame_if (s && true) (flagged b true None) (own c bs))) e)
    where
      skip : (s : Bool) → frame_if (s && false) (flagged b true (Some p)) (own c (advance p next bs)) ≡ own c (advance p next bs)
      skip true = refl
      skip false = refl

      over : (s : Bool) → own c (if s then advance p next bs else flagged b true (Some p) ∷ advance p next bs) ≡ kept (own c bs)
      over true = rest
      over false = skip (bytes_eq b.collection c) ∙ rest

      by : (s : Bool) → kept (own c bs) ≡ kept (frame_if (s && true) (flagged b true None) (own c bs))
      by true = refl
      by false = refl
  own_first b true (Some x) t e = over (is_over (Some x) next) ∙ sym (ap kept (skip (own c bs) (bytes_eq b.collection c)))
    where
      skip : (fs : List Frame) (s : Bool) → frame_if (s && false) (flagged b true (Some x)) fs ≡ fs
      skip fs true = refl
      skip fs false = refl

      over : (s : Bool) → own c (if s then advance p next bs else flagged b true (Some x) ∷ advance p next bs) ≡ kept (own c bs)
      over true = rest
      over false = skip (own c (advance p next bs)) (bytes_eq b.collection c) ∙ rest

-- behind an item those that waited for one are gone
pub own_advance : (c p : Path) (next : Option Path) (bs : List Block) → own c (advance p next bs) ≡ kept (own c bs)
own_advance c p next [] = refl
own_advance c p next (b ∷ bs) = own_first c p next bs (own_advance c p next bs) b b.for_one b.one (bytes_eq b.collection c) refl

-- none is open in a collection further in
pub own_shorter : (c q : Path) (m : ℕ) (bs : List Block) → Around q m bs → m < length c → own c bs ≡ []
own_shorter c q m [] a l = refl
own_shorter c q m (b ∷ bs) a l = by (bytes_eq b.collection c) refl (own_shorter c q (length b.collection) bs a.2 (omega (arith, l, a.1)))
  where
    by : (t : Bool) → bytes_eq b.collection c ≡ t → own c bs ≡ [] → frame_if (t && not (is_some b.one)) b (own c bs) ≡ []
    by true e up = let s : length b.collection ≡ length c = ap length (same_path b.collection c e) in let k : length b.collection ≤ m = a.1 in absurd (omega (arith, s, l, k))
    by false e up = up

-- ---- blocks that wait

abbrev pub NoneWaits : List Block → Type 0
NoneWaits [] = Unit {0}
NoneWaits (b ∷ bs) = (is_waiting b ≡ false) × NoneWaits bs

-- those that wait are the innermost ones, and each belongs where it would here
abbrev pub Waits : (next : Option Path) → List Block → Type 0
Waits next [] = Unit {0}
Waits next (b ∷ bs) = (is_waiting b ≡ true → b.collection ≡ belongs bs next) × (is_waiting b ≡ false → NoneWaits bs) × Waits next bs

-- those that wait are of this collection
abbrev pub WaitIn : Path → List Block → Type 0
WaitIn c [] = Unit {0}
WaitIn c (b ∷ bs) = (is_waiting b ≡ true → b.collection ≡ c) × WaitIn c bs

abbrev pub HeadStill : List Block → Type 0
HeadStill [] = Unit {0}
HeadStill (b ∷ bs) = is_waiting b ≡ false

pub none_waits : (next : Option Path) (bs : List Block) → NoneWaits bs → Waits next bs
none_waits next [] h = tt
none_waits next (b ∷ bs) h = ((λ e. cc (e, h.0)), (λ e. h.1), none_waits next bs h.1)

pub none_behind_head : (next : Option Path) (bs : List Block) → Waits next bs → HeadStill bs → NoneWaits bs
none_behind_head next [] w h = tt
none_behind_head next (b ∷ bs) w h = (h, w.1 h)

none_in : (c : Path) (bs : List Block) → NoneWaits bs → WaitIn c bs
none_in c [] h = tt
none_in c (b ∷ bs) h = ((λ e. cc (e, h.0)), none_in c bs h.1)

belongs_within_it : (p d : Path) (bs : List Block) → d ≡ belongs bs (Some p) → IsTrue (lies_in (collection_of p) d) → (d ≡ collection_of p) × IsTrue (stays_within bs p)
belongs_within_it p d [] e w = (e, refl)
belongs_within_it p d (b ∷ bs) e w = by (lies_in (collection_of p) b.collection) refl e
  where
    by : (t : Bool) → lies_in (collection_of p) b.collection ≡ t → d ≡ (if t then collection_of p else b.collection) → (d ≡ collection_of p) × (lies_in (collection_of p) b.collection ≡ true)
    by true f g = (g, f)
    by false f g = let x : lies_in (collection_of p) b.collection ≡ true = ap (lies_in (collection_of p)) (sym g) ∙ w in cc (f, x)

-- where an item begins within the innermost block, those that wait are of its collection
pub wait_in : (p : Path) (bs : List Block) → Waits (Some p) bs → IsTrue (stays_within bs p) → WaitIn (collection_of p) bs
wait_in p [] w s = tt
wait_in p (b ∷ bs) w s = by (is_waiting b) refl (λ x. wait_in p bs w.2 x)
  where
    by : (t : Bool) → is_waiting b ≡ t → (IsTrue (stays_within bs p) → WaitIn (collection_of p) bs) → (is_waiting b ≡ true → b.collection ≡ collection_of p) × WaitIn (collection_of p) bs
    by true e up = let r = belongs_within_it p b.collection bs (w.0 e) s in ((λ x. r.0), up r.1)
    by false e up = ((λ x. cc (x, e)), none_in (collection_of p) bs (w.1 e))

-- ---- those of one collection stay where none of it waits

module _ (c : Path) (b : Block) (fs : List Frame) (h : AllStay fs) where
  stay_first : (t z : Bool) (o : Option Path) → ((z && not (is_some o)) ≡ true → t ≡ false) → AllStay (frame_if (t && not (is_some o)) (flagged b z o) fs)
  stay_first true true None k = absurd (let e : true ≡ false = k refl in cc e)
  stay_first true false None k = (refl, h)
  stay_first true z (Some x) k = h
  stay_first false z o k = h

pub own_stay : (c : Path) (bs : List Block) → NoneWaits bs → AllStay (own c bs)
own_stay c [] h = tt
own_stay c (b ∷ bs) h = stay_first c b (own c bs) (own_stay c bs h.1) (bytes_eq b.collection c) b.for_one b.one (λ e. cc (e, h.0))

pub other_stay : (c d : Path) (bs : List Block) → WaitIn d bs → (d ≡ c → ⊥) → AllStay (own c bs)
other_stay c d [] h n = tt
other_stay c d (b ∷ bs) h n = stay_first c b (own c bs) (other_stay c d bs h.1 n) (bytes_eq b.collection c) b.for_one b.one (λ e. by (bytes_eq b.collection c) refl e)
  where
    by : (t : Bool) → bytes_eq b.collection c ≡ t → is_waiting b ≡ true → t ≡ false
    by true f e = absurd (n (sym (h.0 e) ∙ same_path b.collection c f))
    by false f e = refl

-- ---- blocks whose item has begun

-- such a block is for one item, which is of the block's own collection
abbrev pub OneIn : Path → (for_one : Bool) → Option Path → Type 0
OneIn c z None = Unit {0}
OneIn c z (Some o) = (z ≡ true) × (collection_of o ≡ c)

abbrev pub OnesIn : List Block → Type 0
OnesIn [] = Unit {0}
OnesIn (b ∷ bs) = OneIn b.collection b.for_one b.one × OnesIn bs

-- and none such is of this collection
abbrev pub BegunElsewhere : Path → List Block → Type 0
BegunElsewhere c [] = Unit {0}
BegunElsewhere c (b ∷ bs) = (b.collection ≡ c → is_some b.one ≡ false) × BegunElsewhere c bs

module _ (q : Path) (past : List Event) (p : Path) (coming : Coming q past (Some p)) where
  not_here : (b0 : Block) (bs0 : List Block) (d o : Path) → Numbered past o → collection_of o ≡ d → is_over (Some o) (Some p) ≡ false → d ≡ belongs (b0 ∷ bs0) (Some p) → ⊥
  not_here b0 bs0 d o n e over h = by (lies_in (collection_of p) b0.collection) refl h
    where
      kept_in : not (lies_in p o) ≡ false → IsTrue (lies_in p o)
      kept_in f = not-false (lies_in p o) f

      within : In (collection_of p) o
      within = collection_in p o (is_new past o p n coming.1) (lain p o (kept_in over))

      own_one : o ≡ n.0 ∷ d
      own_one = n.2 ∙ ap (λ (x : Path). n.0 ∷ x) (sym (ap collection_of n.2) ∙ e)

      below : In o d
      below = (n.0 ∷ [], own_one)

      by : (t : Bool) → lies_in (collection_of p) b0.collection ≡ t → d ≡ (if t then collection_of p else b0.collection) → ⊥
      by true f g =
          let a : length o ≤ length (collection_of p) = in_length (collection_of p) o within in
          let u : length o ≡ suc (length d) = ap length own_one in
          let v : length d ≡ length (collection_of p) = ap length g in
          omega (arith, a, u, v)
      by false f g =
          let x : In (collection_of p) b0.collection = subst (λ (x : Path). In (collection_of p) x) g (in_through (collection_of p) o d within below) in
          let y : lies_in (collection_of p) b0.collection ≡ true = lies (collection_of p) b0.collection x in
          cc (f, y)

module _ (q : Path) (past : List Event) (next : Option Path) (coming : Coming q past next) (b0 : Block) (bs0 : List Block) where
  one_elsewhere : (c d : Path) (z : Bool) (o : Option Path) → c ≡ belongs (b0 ∷ bs0) next → OneIn d z o → OfOne (Numbered past) o → (z && is_over o next) ≡ false → d ≡ c → is_some o ≡ false
  one_elsewhere c d z None e i n h f = refl
  one_elsewhere c d z (Some o) e i n h f = absurd (by next coming (ap (λ (x : Bool). x && is_over (Some o) next) (sym i.0) ∙ h) (f ∙ e))
    where
      by : (next : Option Path) → Coming q past next → is_over (Some o) next ≡ false → d ≡ belongs (b0 ∷ bs0) next → ⊥
      by None k over g = cc over
      by (Some p) k over g = not_here q past p k b0 bs0 d o n i.1 over g

  all_elsewhere : (c : Path) (bs : List Block) → c ≡ belongs (b0 ∷ bs0) next → OnesIn bs → Ones (Numbered past) bs → NoneOver next bs → BegunElsewhere c bs
  all_elsewhere c [] e i n h = tt
  all_elsewhere c (b ∷ bs) e i n h = ((λ f. one_elsewhere c b.collection b.for_one b.one e i.0 n.0 h.0 f), all_elsewhere c bs e i.1 n.1 h.1)

-- where a statement belongs, and where an item begins, no block of the collection has its item
pub begun_elsewhere : (q : Path) (past : List Event) (next : Option Path) → Coming q past next → (bs : List Block) → OnesIn bs → Ones (Numbered past) bs → NoneOver next bs → BegunElsewhere (belongs bs next) bs
begun_elsewhere q past next k [] i n h = tt
begun_elsewhere q past next k (b ∷ bs) i n h = all_elsewhere q past next k b bs (belongs (b ∷ bs) next) (b ∷ bs) refl i n h

-- ---- what the blocks of a collection let stand

module _ (holders : List ℕ) where
  abbrev pub NotHolder : Option Block → Type 0
  NotHolder None = Unit {0}
  NotHolder (Some b) = is_holder holders b.before ≡ false

  abbrev pub AllHold : List ℕ → Type 0
  AllHold [] = Unit {0}
  AllHold (n ∷ ns) = IsTrue (is_holder holders n) × AllHold ns

module _ (holders : List ℕ) (w : Ways) (c : Path) where
  -- an own block as it is seen in its collection
  own_here : (b : Block) (fs : List Frame) → b.collection ≡ c → is_some b.one ≡ false → frame_if (bytes_eq b.collection c && not (is_some b.one)) b fs ≡ frame_of b ∷ fs
  own_here b fs e f = ap (λ (t : Bool). frame_if (t && not (is_some b.one)) b fs) (path_same b.collection c e) ∙ ap (λ (t : Bool). frame_if (not t) b fs) f

  returns_still : (h : Header) (n : ℕ) (v : Ways) → is_def h ≡ false → IsTrue v.may_return → IsTrue (header_ways holders h n v).may_return
  returns_still (if_header e) n v d r = r
  returns_still (elif_header e) n v d r = r
  returns_still else_header n v d r = r
  returns_still (for_header x e) n v d r = r
  returns_still (def_header x ps) n v d r = cc d
  returns_still end_header n v d r = r

  breaks_still : (h : Header) (n : ℕ) (v : Ways) → is_def h ≡ false → IsTrue v.may_break → IsTrue (header_ways holders h n v).may_break
  breaks_still (if_header e) n v d r = r
  breaks_still (elif_header e) n v d r = r
  breaks_still else_header n v d r = r
  breaks_still (for_header x e) n v d r = refl
  breaks_still (def_header x ps) n v d r = cc d
  breaks_still end_header n v d r = r

  def_returns : (h : Header) (n : ℕ) (v : Ways) → is_def h ≡ true → is_holder holders n ≡ false → IsTrue (header_ways holders h n v).may_return
  def_returns (def_header x ps) n v d r = ap not r
  def_returns h n v d r = cc d

  loop_breaks : (h : Header) (n : ℕ) (v : Ways) → is_for h ≡ true → IsTrue (header_ways holders h n v).may_break
  loop_breaks (for_header x e) n v d = refl
  loop_breaks h n v d = cc d

  -- a block either is there or not
  either_way : (t : Bool) (b : Block) (fs : List Frame) (P : List Frame → Type 0) → P (frame_of b ∷ fs) → P fs → P (frame_if t b fs)
  either_way true b fs P h k = h
  either_way false b fs P h k = k

  abbrev Returns : List Frame → Type 0
  Returns fs = IsTrue (ways_within holders w fs).may_return

  abbrev Breaks : List Frame → Type 0
  Breaks fs = IsTrue (ways_within holders w fs).may_break

  pub may_return : (bs : List Block) → BegunElsewhere c bs → IsTrue (is_collection_of c (innermost_def bs)) → NotHolder holders (innermost_def bs) → Returns (own c bs)
  may_return [] e h n = cc h
  may_return (b ∷ bs) e h n = by (is_def b.header) refl h n (may_return bs e.1)
    where
      by : (t : Bool) → is_def b.header ≡ t → IsTrue (is_collection_of c (if t then Some b else innermost_def bs)) → NotHolder holders (if t then Some b else innermost_def bs) →
          (IsTrue (is_collection_of c (innermost_def bs)) → NotHolder holders (innermost_def bs) → Returns (own c bs)) → Returns (own c (b ∷ bs))
      by true d i m up =
          let s : b.collection ≡ c = same_path b.collection c i in
          subst Returns (sym (own_here b (own c bs) s (e.0 s))) (def_returns b.header b.before (ways_within holders w (own c bs)) d m)
      by false d i m up =
          either_way (bytes_eq b.collection c && not (is_some b.one)) b (own c bs) Returns (returns_still b.header b.before (ways_within holders w (own c bs)) d (up i m)) (up i m)

  pub may_break : (bs : List Block) → BegunElsewhere c bs → IsTrue (is_collection_of c (innermost_loop bs)) → Breaks (own c bs)
  may_break [] e h = cc h
  may_break (b ∷ bs) e h = by (is_def b.header) (is_for b.header) refl refl h (may_break bs e.1)
    where
      by : (t u : Bool) → is_def b.header ≡ t → is_for b.header ≡ u → IsTrue (is_collection_of c (if t then None else if u then Some b else innermost_loop bs)) →
          (IsTrue (is_collection_of c (innermost_loop bs)) → Breaks (own c bs)) → Breaks (own c (b ∷ bs))
      by true u d f i up = cc i
      by false true d f i up =
          let s : b.collection ≡ c = same_path b.collection c i in
          subst Breaks (sym (own_here b (own c bs) s (e.0 s))) (loop_breaks b.header b.before (ways_within holders w (own c bs)) f)
      by false false d f i up =
          either_way (bytes_eq b.collection c && not (is_some b.one)) b (own c bs) Breaks (breaks_still b.header b.before (ways_within holders w (own c bs)) d (up i)) (up i)

  -- where an item begins, the innermost function of its collection holds it

  held_by : (h : Header) (n : ℕ) (P : Type 0) → (is_def h ≡ true → IsTrue (is_holder holders n)) → (is_def h ≡ false → P) → HeldBy holders h n P
  held_by (if_header e) n P f g = g refl
  held_by (elif_header e) n P f g = g refl
  held_by else_header n P f g = g refl
  held_by (for_header x e) n P f g = g refl
  held_by (def_header x ps) n P f g = f refl
  held_by end_header n P f g = g refl

  pub holding : (q : Path) (m : ℕ) (bs : List Block) → Around q m bs → m ≤ length c → In q c → BegunElsewhere c bs → AllHold holders (holder_in c (innermost_def bs)) → Holding holders (own c bs)
  holding q m [] a l i z h = tt
  holding q m (b ∷ bs) a l i z h = by (is_def b.header) (bytes_eq b.collection c) refl refl h (λ k. holding q (length b.collection) bs a.2 (omega (arith, a.1, l)) i z.1 k)
    where
      k : length b.collection ≤ length c
      k = omega (arith, a.1, l)

      apart : bytes_eq b.collection c ≡ false → length b.collection < length c
      apart e = by_cases (cases_lt (length b.collection) (length c))
        where
          by_cases : (length b.collection < length c) ⊎ (length c ≤ length b.collection) → length b.collection < length c
          by_cases (inl f) = f
          by_cases (inr f) = absurd (let x : b.collection ≡ c = same_by_length q b.collection c (lain q b.collection a.0) i (omega (arith, f, k)) in let y : bytes_eq b.collection c ≡ true = path_same b.collection c x in cc (e, y))

      by : (t u : Bool) → is_def b.header ≡ t → bytes_eq b.collection c ≡ u → AllHold holders (holder_in c (if t then Some b else innermost_def bs)) → (AllHold holders (holder_in c (innermost_def bs)) → Holding holders (own c bs)) → Holding holders (own c (b ∷ bs))
      by true true d e h up =
          let x : AllHold holders (b.before ∷ []) = subst (λ (u : Bool). AllHold holders (if u then b.before ∷ [] else [])) e h in
          let s : b.collection ≡ c = same_path b.collection c e in
          subst (Holding holders) (sym (own_here b (own c bs) s (z.0 s))) (held_by b.header b.before (Holding holders (own c bs)) (λ _. x.0) (λ f. cc (d, f)))
      by true false d e h up =
          let s : own c bs ≡ [] = own_shorter c q (length b.collection) bs a.2 (apart e) in
          subst (λ (t : Bool). Holding holders (frame_if (t && not (is_some b.one)) b (own c bs))) (sym e) (subst (Holding holders) (sym s) tt)
      by false u d e h up =
          either_way (bytes_eq b.collection c && not (is_some b.one)) b (own c bs) (Holding holders) (held_by b.header b.before (Holding holders (own c bs)) (λ f. cc (d, f)) (λ _. up h)) (up h)
