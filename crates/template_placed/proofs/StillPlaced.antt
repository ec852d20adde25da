-- What holds of the blocks that are open, event by event, as long as nothing is wrong.
use Rattle.std.proofs.Common.{length, ◌≡◌, ℕ, zero, Bool, true, false, not, ◌&&◌, if◌then◌else◌, is_some, List, [], ◌∷◌, drop, Option, Some, None, refl, sym, subst}
use Rattle.std.specs.Bool.{IsTrue}
use Rattle.ytt_base.specs.declared.fault.Fault.{Fault}
use Rattle.ytt_base.specs.declared.fault.FaultKind.TheVariants as kind
use Rattle.code_spec.specs.Program.{ItemKind}
use Rattle.code_spec.specs.CodeReading.{Header}
use Rattle.template_spec.specs.Comments.{Said, otherwise, closes, ignored, a_note, a_value, statements, opens, elif}
use Rattle.template_spec.specs.Events.{Path, Event, begins, says}
use Rattle.template_spec.specs.Misplaced.{is_waiting, may_wait, stays_within, waiting_or_said, said_fault, fault_on}
use Rattle.template_spec.specs.OpenBlocks.{next_item, collection_of, Block, belongs, is_over, unclosed, open_blocks}
use Rattle.template_pass.specs.Standing.{Numbered, Coming, Standing}
use Rattle.template_pass.specs.Levels.{Open}
use Rattle.template_pass.proofs.ItemBegins.{advance, began_each, blocks_behind, numbered_still, left_none_over, ones_left}
use Rattle.template_placed.proofs.OwnBlocks.{BegunElsewhere, begun_elsewhere, HeadStill, NoneWaits, none_waits, OneIn, OnesIn, WaitIn, Waits, wait_in, none_behind_head}
use Rattle.template_pass.proofs.Standing.{else_stays, end_stays}
use Rattle.template_pass.proofs.Unclosed.{Ones, behind_else, behind_end, flagged, ones_began, with_else}

pub record Fine (next : Option Path) (bs : List Block) : Type 0 where
  pub waits : Waits next bs
  pub ones : OnesIn bs

-- ---- no block of the collection has its item

pub ones_open : (q : Path) (past : List Event) (next : Option Path) (bs : List Open) → Standing q past next bs → Ones (Numbered past) (open_blocks past next)
ones_open q past next bs s = ones_left (Numbered past) next (unclosed next false zero false past) (ones_began (Numbered past) next false zero false past tt s.numbered)

pub none_begun : (q : Path) (past : List Event) (next : Option Path) (bs : List Open) → Standing q past next bs → OnesIn (open_blocks past next) → BegunElsewhere (belongs (open_blocks past next) next) (open_blocks past next)
none_begun q past next bs s i =
    begun_elsewhere q past next s.coming (open_blocks past next) i
    (ones_open q past next bs s)
    (left_none_over next (unclosed next false zero false past))

-- ---- what may not stand in front of an item that is waited for

none_unless : (t u : Bool) (f : Fault) (o : Option Fault) → u ≡ false → (if t && not u then Some f else o) ≡ None → t ≡ false
none_unless true true f o e h = cc e
none_unless true false f o e h = cc h
none_unless false u f o e h = refl

pub head_still : (file : ℕ) (bs : List Block) (next : Option Path) (l : ℕ) (s : Said) → may_wait s ≡ false → waiting_or_said file bs next l s ≡ None → HeadStill bs
head_still file [] next l s m h = tt
head_still file (b ∷ bs) next l s m h = none_unless (is_waiting b) (may_wait s) (fault_on file kind.BlockOpen b.line) (said_fault file (b ∷ bs) next l s) m h

-- what is wrong with it otherwise
pub then_said : (file : ℕ) (bs : List Block) (next : Option Path) (l : ℕ) (s : Said) → waiting_or_said file bs next l s ≡ None → said_fault file bs next l s ≡ None
then_said file [] next l s h = h
then_said file (b ∷ bs) next l s h = by (is_waiting b && not (may_wait s)) h
  where
    by : (t : Bool) → (if t then Some (fault_on file kind.BlockOpen b.line) else said_fault file (b ∷ bs) next l s) ≡ None → said_fault file (b ∷ bs) next l s ≡ None
    by true g = cc g
    by false g = g

-- ---- an item begins

module _ (p : Path) (next : Option Path) (bs : List Block) where
  still_first : NoneWaits (advance p next bs) → (b : Block) (z : Bool) (o : Option Path) → NoneWaits (advance p next (flagged b z o ∷ bs))
  still_first h b false o = (refl, h)
  still_first h b true None = over (is_over (Some p) next)
    where
      over : (s : Bool) → NoneWaits (if s then advance p next bs else flagged b true (Some p) ∷ advance p next bs)
      over true = h
      over false = (refl, h)
  still_first h b true (Some x) = over (is_over (Some x) next)
    where
      over : (s : Bool) → NoneWaits (if s then advance p next bs else flagged b true (Some x) ∷ advance p next bs)
      over true = h
      over false = (refl, h)

  ones_first : OnesIn (advance p next bs) → (b : Block) (z : Bool) (o : Option Path) → ((z && not (is_some o)) ≡ true → b.collection ≡ collection_of p) → OneIn b.collection z o →
      OnesIn (advance p next (flagged b z o ∷ bs))
  ones_first h b false o w i = (i, h)
  ones_first h b true None w i = over (is_over (Some p) next)
    where
      over : (s : Bool) → OnesIn (if s then advance p next bs else flagged b true (Some p) ∷ advance p next bs)
      over true = h
      over false = ((refl, sym (w refl)), h)
  ones_first h b true (Some x) w i = over (is_over (Some x) next)
    where
      over : (s : Bool) → OnesIn (if s then advance p next bs else flagged b true (Some x) ∷ advance p next bs)
      over true = h
      over false = (i, h)

none_advance : (p : Path) (next : Option Path) (bs : List Block) → NoneWaits (advance p next bs)
none_advance p next [] = tt
none_advance p next (b ∷ bs) = still_first p next bs (none_advance p next bs) b b.for_one b.one

ones_advance : (p : Path) (next : Option Path) (bs : List Block) → WaitIn (collection_of p) bs → OnesIn bs → OnesIn (advance p next bs)
ones_advance p next [] w i = tt
ones_advance p next (b ∷ bs) w i = ones_first p next bs (ones_advance p next bs w.1 i.1) b b.for_one b.one w.0 i.0

-- the blocks behind the beginning of an item
pub behind_begins : (q p : Path) (k : ItemKind) (l : ℕ) (past : List Event) (next : Option Path) (bs : List Open) → Standing q past (Some p) bs → Coming p (begins p k l ∷ past) next →
    open_blocks (begins p k l ∷ past) next ≡ advance p next (open_blocks past (Some p))
behind_begins q p k l past next bs s c =
    blocks_behind p k l past next c (began_each (Numbered past) (Numbered (begins p k l ∷ past)) (numbered_still p k l past) past s.numbered)

pub fine_begins : (p : Path) (next : Option Path) (bs : List Block) → Fine (Some p) bs → IsTrue (stays_within bs p) → Fine next (advance p next bs)
fine_begins p next bs f s = record { waits = none_waits next (advance p next bs) (none_advance p next bs); ones = ones_advance p next bs (wait_in p bs f.waits s) f.ones }

-- ---- an opener, an `else` and an end

pub fine_opens : (next : Option Path) (b : Block) (bs : List Block) → Fine next bs → b.collection ≡ belongs bs next → b.one ≡ None → (is_waiting b ≡ false → NoneWaits bs) → Fine next (b ∷ bs)
fine_opens next b bs f e o n = record { waits = ((λ x. e), n, f.waits); ones = (subst (λ (o : Option Path). OneIn b.collection b.for_one o) (sym o) tt, f.ones) }

none_else : (bs : List Block) → NoneWaits bs → NoneWaits (with_else bs)
none_else [] h = tt
none_else (b ∷ bs) h = h

ones_else : (bs : List Block) → OnesIn bs → OnesIn (with_else bs)
ones_else [] h = tt
ones_else (b ∷ bs) h = h

pub fine_else : (next : Option Path) (bs : List Block) → Fine next bs → NoneWaits bs → Fine next (with_else bs)
fine_else next bs f n = record { waits = none_waits next (with_else bs) (none_else bs n); ones = ones_else bs f.ones }

none_end : (bs : List Block) → NoneWaits bs → NoneWaits (drop 1 bs)
none_end [] h = tt
none_end (b ∷ bs) h = h.1

ones_end : (bs : List Block) → OnesIn bs → OnesIn (drop 1 bs)
ones_end [] h = tt
ones_end (b ∷ bs) h = h.1

pub fine_end : (next : Option Path) (bs : List Block) → Fine next bs → NoneWaits bs → Fine next (drop 1 bs)
fine_end next bs f n = record { waits = none_waits next (drop 1 bs) (none_end bs n); ones = ones_end bs f.ones }

pub behind_closes : (file : ℕ) (past : List Event) (next : Option Path) (l : ℕ) → waiting_or_said file (open_blocks past next) next l closes ≡ None → open_blocks (says l closes ∷ past) next ≡ drop 1 (open_blocks past next)
behind_closes file past next l h = behind_end next next false zero false past (end_stays file (open_blocks past next) next l h)

pub behind_otherwise : (file : ℕ) (past : List Event) (next : Option Path) (l : ℕ) → waiting_or_said file (open_blocks past next) next l otherwise ≡ None →
    open_blocks (says l otherwise ∷ past) next ≡ with_else (open_blocks past next)
behind_otherwise file past next l h = behind_else next next false zero false past (else_stays file (open_blocks past next) next l h)

-- ---- something is said between items

module _ (file : ℕ) (past es : List Event) (l : ℕ) where
  pub none_wait : (s : Said) → Fine (next_item es) (open_blocks past (next_item es)) → waiting_or_said file (open_blocks past (next_item es)) (next_item es) l s ≡ None → may_wait s ≡ false → NoneWaits (open_blocks past (next_item es))
  none_wait s f h m = none_behind_head (next_item es) (open_blocks past (next_item es)) f.waits (head_still file (open_blocks past (next_item es)) (next_item es) l s m h)

  abbrev opened : Header → Bool → Block
  opened x z = record { collection = belongs (open_blocks past (next_item es)) (next_item es); header = x; for_one = z; line = l; one = None; has_else = false; before = length past }

  pub fine_said : (s : Said) → Fine (next_item es) (open_blocks past (next_item es)) → waiting_or_said file (open_blocks past (next_item es)) (next_item es) l s ≡ None → Fine (next_item es) (open_blocks (says l s ∷ past) (next_item es))
  fine_said (opens x true) f h = fine_opens (next_item es) (opened x true) (open_blocks past (next_item es)) f refl refl (λ e. cc e)
  fine_said (opens x false) f h = fine_opens (next_item es) (opened x false) (open_blocks past (next_item es)) f refl refl (λ e. none_wait (opens x false) f h refl)
  fine_said otherwise f h = subst (Fine (next_item es)) (sym (behind_otherwise file past (next_item es) l h)) (fine_else (next_item es) (open_blocks past (next_item es)) f (none_wait otherwise f h refl))
  fine_said closes f h = subst (Fine (next_item es)) (sym (behind_closes file past (next_item es) l h)) (fine_end (next_item es) (open_blocks past (next_item es)) f (none_wait closes f h refl))
  fine_said ignored f h = f
  fine_said (a_note x vs) f h = f
  fine_said (a_value e) f h = f
  fine_said (statements is) f h = f
  fine_said (elif e) f h = f
