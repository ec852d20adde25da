-- What each event does to the blocks that are open.
use Rattle.std.proofs.Common.{◌≡◌, ℕ, zero, suc, Bool, true, false, not, ◌&&◌, if◌then◌else◌, is_some, List, [], ◌∷◌, length, drop, map as each, Option, Some, None, refl, sym, ◌∙◌, ap}
use Rattle.std.specs.Bool.{IsTrue}
use Rattle.template_spec.specs.Comments.{opens, otherwise, closes}
use Rattle.template_spec.specs.Events.{Path, Event, begins, beside, says}
use Rattle.template_spec.specs.OpenBlocks.{lies_in, Block, belongs, is_over, left_at, if_begun, unclosed}
use Rattle.template_pass.specs.Standing.{Began}
use Rattle.template_pass.proofs.Paths.{in_itself, lies}

-- the innermost block is none for one item
abbrev pub HeadStays : List Block → Type 0
HeadStays [] = ⊥
HeadStays (b ∷ bs) = b.for_one ≡ false

-- ---- an end, and an `else`

pub behind_end : (r q : Option Path) (z : Bool) (n : ℕ) (e : Bool) (es : List Event) → HeadStays (left_at r (unclosed q z n e es)) →
    left_at r (unclosed q z (suc n) false es) ≡ drop 1 (left_at r (unclosed q z n e es))
behind_end r q z n e [] h = absurd h
behind_end r q z n e (begins p k l ∷ es) h = behind_end r (Some p) true n e es h
behind_end r q z n e (beside p k b l s ∷ es) h = behind_end r q z n e es h
behind_end r q z n e (says l closes ∷ es) h = behind_end r q z (suc n) e es h
behind_end r q z zero e (says l otherwise ∷ es) h = behind_end r q z zero true es h
behind_end r q z (suc n) e (says l otherwise ∷ es) h = behind_end r q z (suc n) e es h
behind_end r q z zero e (says l (opens x false) ∷ es) h = refl
behind_end r q z (suc n) e (says l (opens x false) ∷ es) h = behind_end r q z n e es h
behind_end r q z zero e (says l (opens x true) ∷ es) h =
    by_over _ (left_at r (unclosed q z zero e es)) (left_at r (unclosed q z (suc zero) false es)) refl (behind_end r q z zero e es) (is_over (if_begun z q) r) h
  where
    by_over : (b : Block) (bs ends : List Block) → b.for_one ≡ true → (HeadStays bs → ends ≡ drop 1 bs) → (over : Bool) → HeadStays (if over then bs else b ∷ bs) → ends ≡ drop 1 (if over then bs else b ∷ bs)
    by_over b bs ends o k true g = k g
    by_over b bs ends o k false g = cc
behind_end r q z (suc n) e (says l (opens x true) ∷ es) h = behind_end r q z (suc n) e es h
behind_end r q z n e (says l s ∷ es) h = behind_end r q z n e es h

abbrev pub with_else : List Block → List Block
with_else [] = []
with_else (b ∷ bs) = record b { has_else = true } ∷ bs

pub behind_else : (r q : Option Path) (z : Bool) (n : ℕ) (e : Bool) (es : List Event) → HeadStays (left_at r (unclosed q z n e es)) →
    left_at r (unclosed q z n true es) ≡ with_else (left_at r (unclosed q z n e es))
behind_else r q z n e [] h = absurd h
behind_else r q z n e (begins p k l ∷ es) h = behind_else r (Some p) true n e es h
behind_else r q z n e (beside p k b l s ∷ es) h = behind_else r q z n e es h
behind_else r q z n e (says l closes ∷ es) h = behind_else r q z (suc n) e es h
behind_else r q z zero e (says l otherwise ∷ es) h = behind_else r q z zero true es h
behind_else r q z (suc n) e (says l otherwise ∷ es) h = behind_else r q z (suc n) e es h
behind_else r q z zero e (says l (opens x false) ∷ es) h = refl
behind_else r q z (suc n) e (says l (opens x false) ∷ es) h = behind_else r q z n e es h
behind_else r q z zero e (says l (opens x true) ∷ es) h =
    by_over _ _ (left_at r (unclosed q z zero e es)) (left_at r (unclosed q z zero true es)) refl (behind_else r q z zero e es) (is_over (if_begun z q) r) h
  where
    by_over : (b c : Block) (bs cs : List Block) → b.for_one ≡ true → (HeadStays bs → cs ≡ with_else bs) → (over : Bool) → HeadStays (if over then bs else b ∷ bs) → (if over then cs else c ∷ cs) ≡ with_else (if over then bs else b ∷ bs)
    by_over b c bs cs o k true g = k g
    by_over b c bs cs o k false g = cc
behind_else r q z (suc n) e (says l (opens x true) ∷ es) h = behind_else r q z (suc n) e es h
behind_else r q z n e (says l s ∷ es) h = behind_else r q z n e es h

-- ---- an item begins

-- those that wait for an item have it
abbrev pub has_one : Path → Block → Block
has_one p b = if b.for_one && not (is_some b.one) then record b { one = Some p } else b

abbrev pub flagged : Block → (for_one : Bool) → (one : Option Path) → Block
flagged b z o = record b { for_one = z; one = o }

has_one_again : (p q : Path) (b : Block) (z : Bool) (o : Option Path) → has_one p (has_one q (flagged b z o)) ≡ has_one q (flagged b z o)
has_one_again p q b false o = refl
has_one_again p q b true None = refl
has_one_again p q b true (Some x) = refl

has_one_twice : (p q : Path) (bs : List Block) → each (has_one p) (each (has_one q) bs) ≡ each (has_one q) bs
has_one_twice p q [] = refl
has_one_twice p q (b ∷ bs) = let e : has_one p (has_one q b) ≡ has_one q b = has_one_again p q b b.for_one b.one in let r : each (has_one p) (each (has_one q) bs) ≡ each (has_one q) bs = has_one_twice p q bs in cc

pub not_over_itself : (p : Path) → is_over (Some p) (Some p) ≡ false
not_over_itself p = let h : IsTrue (lies_in p p) = lies p p (in_itself p) in rw h refl

module _ (p : Path) (bs : List Block) (rest : left_at (Some p) (each (has_one p) bs) ≡ each (has_one p) (left_at (Some p) bs)) where
  left_with_flags : (b : Block) (z : Bool) (o : Option Path) → left_at (Some p) (each (has_one p) (flagged b z o ∷ bs)) ≡ each (has_one p) (left_at (Some p) (flagged b z o ∷ bs))
  left_with_flags b false o = ap (λ cs. flagged b false o ∷ cs) rest
  left_with_flags b true None = rw not_over_itself (ap (λ cs. flagged b true (Some p) ∷ cs) rest)
  left_with_flags b true (Some x) = by_over (is_over (Some x) (Some p))
    where
      by_over : (over : Bool) → (if over then left_at (Some p) (each (has_one p) bs) else flagged b true (Some x) ∷ left_at (Some p) (each (has_one p) bs)) ≡ each (has_one p) (if over then left_at (Some p) bs else flagged b true (Some x) ∷ left_at (Some p) bs)
      by_over true = rest
      by_over false = ap (λ cs. flagged b true (Some x) ∷ cs) rest

pub left_with_one : (p : Path) (bs : List Block) → left_at (Some p) (each (has_one p) bs) ≡ each (has_one p) (left_at (Some p) bs)
left_with_one p [] = refl
left_with_one p (b ∷ bs) = left_with_flags p bs (left_with_one p bs) b b.for_one b.one

pub same_collection : (p : Path) (b : Block) (z : Bool) (o : Option Path) → (has_one p (flagged b z o)).collection ≡ b.collection
same_collection p b false o = refl
same_collection p b true None = refl
same_collection p b true (Some x) = refl

belongs_by_collection : (b c : Block) (bs cs : List Block) (next : Option Path) → b.collection ≡ c.collection → belongs (b ∷ bs) next ≡ belongs (c ∷ cs) next
belongs_by_collection b c bs cs None e = e
belongs_by_collection b c bs cs (Some p) e = rw e refl

belongs_with_one : (p : Path) (bs : List Block) (next : Option Path) → belongs (each (has_one p) bs) next ≡ belongs bs next
belongs_with_one p [] next = refl
belongs_with_one p (b ∷ bs) next = belongs_by_collection (has_one p b) b (each (has_one p) bs) bs next (same_collection p b b.for_one b.one)

-- an opener belongs to the same collection, whether its item has begun by now
belongs_begun : (p : Path) (bs cs : List Block) → bs ≡ each (has_one p) cs → belongs (left_at (Some p) bs) (Some p) ≡ belongs (left_at (Some p) cs) (Some p)
belongs_begun p bs cs e = ap (λ bs. belongs (left_at (Some p) bs) (Some p)) e ∙ ap (λ bs. belongs bs (Some p)) (left_with_one p cs) ∙ belongs_with_one p (left_at (Some p) cs) (Some p)

with_collection : (make : Path → Block) (c d : Path) (bs cs : List Block) → c ≡ d → bs ≡ cs → make c ∷ bs ≡ make d ∷ cs
with_collection make c d bs cs e r = ap (λ c. make c ∷ bs) e ∙ ap (λ bs. make d ∷ bs) r

pub behind_item : (p : Path) (n : ℕ) (e : Bool) (es : List Event) → unclosed (Some p) true n e es ≡ each (has_one p) (unclosed (Some p) false n e es)
behind_item p n e [] = refl
behind_item p n e (begins q k l ∷ es) =
    behind_item q n e es ∙ sym (has_one_twice p q (unclosed (Some q) false n e es)) ∙ ap (each (has_one p)) (sym (behind_item q n e es))
behind_item p n e (beside q k b l s ∷ es) = behind_item p n e es
behind_item p n e (says l closes ∷ es) = behind_item p (suc n) e es
behind_item p zero e (says l otherwise ∷ es) = behind_item p zero true es
behind_item p (suc n) e (says l otherwise ∷ es) = behind_item p (suc n) e es
behind_item p zero e (says l (opens x false) ∷ es) =
    with_collection (λ c. record { collection = c; header = x; for_one = false; line = l; one = None; has_else = e; before = length es }) _ _ _ _
    (belongs_begun p (unclosed (Some p) true zero false es) (unclosed (Some p) false zero false es) (behind_item p zero false es)) (behind_item p zero false es)
behind_item p (suc n) e (says l (opens x false) ∷ es) = behind_item p n e es
behind_item p zero e (says l (opens x true) ∷ es) =
    with_collection (λ c. record { collection = c; header = x; for_one = true; line = l; one = Some p; has_else = false; before = length es }) _ _ _ _
    (belongs_begun p (unclosed (Some p) true zero e es) (unclosed (Some p) false zero e es) (behind_item p zero e es)) (behind_item p zero e es)
behind_item p (suc n) e (says l (opens x true) ∷ es) = behind_item p (suc n) e es
behind_item p n e (says l s ∷ es) = behind_item p n e es

-- ---- the items of blocks for one item

abbrev pub OfOne : (Path → Type 0) → Option Path → Type 0
OfOne P None = Unit {0}
OfOne P (Some p) = P p

-- something holds of each of them
abbrev pub Ones : (Path → Type 0) → List Block → Type 0
Ones P [] = Unit {0}
Ones P (b ∷ bs) = OfOne P b.one × Ones P bs

pub ones_began : (P : Path → Type 0) (q : Option Path) (z : Bool) (n : ℕ) (e : Bool) (es : List Event) → OfOne P (if_begun z q) → Began P es → Ones P (unclosed q z n e es)
ones_began P q z n e [] h g = tt
ones_began P q z n e (begins p k l ∷ es) h g = ones_began P (Some p) true n e es g.0 g.1
ones_began P q z n e (beside p k b l s ∷ es) h g = ones_began P q z n e es h g
ones_began P q z n e (says l closes ∷ es) h g = ones_began P q z (suc n) e es h g
ones_began P q z zero e (says l otherwise ∷ es) h g = ones_began P q z zero true es h g
ones_began P q z (suc n) e (says l otherwise ∷ es) h g = ones_began P q z (suc n) e es h g
ones_began P q z zero e (says l (opens x false) ∷ es) h g = (tt, ones_began P q z zero false es h g)
ones_began P q z (suc n) e (says l (opens x false) ∷ es) h g = ones_began P q z n e es h g
ones_began P q z zero e (says l (opens x true) ∷ es) h g = (h, ones_began P q z zero e es h g)
ones_began P q z (suc n) e (says l (opens x true) ∷ es) h g = ones_began P q z (suc n) e es h g
ones_began P q z n e (says l s ∷ es) h g = ones_began P q z n e es h g
