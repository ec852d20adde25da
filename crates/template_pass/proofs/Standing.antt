-- The stack of levels stands to the open blocks, event by event, as long as nothing is wrong.
use Rattle.std.proofs.Common.{◌≡◌, ℕ, zero, ◌≤◌, Bool, true, false, not, ◌&&◌, if◌then◌else◌, List, [], ◌∷◌, length, drop, map as each, Option, Some, None, refl, sym, ◌∙◌, ap, subst, arith}
use Rattle.std.specs.Bool.{IsTrue}
use Rattle.std.proofs.lemmas.List.{append-nil}
use Rattle.ytt_base.specs.declared.fault.Fault.{Fault}
use Rattle.code_spec.specs.CodeReading.{Header}
use Rattle.template_spec.specs.Comments.{Said, opens, otherwise, closes}
use Rattle.template_spec.specs.Events.{Path, Event, begins, beside, says}
use Rattle.template_spec.specs.Misplaced.{unless, stays_within, waiting_or_said, event_fault}
use Rattle.template_spec.specs.Nesting.{innermost}
use Rattle.template_spec.specs.OpenBlocks.{collection_of, lies_in, Block, belongs, next_item, open_blocks}
use Rattle.template_pass.specs.Building as building
use Rattle.template_pass.specs.Levels as level
use Rattle.template_pass.specs.Levels.{at_most, Open, opened, behind, next_level}
use Rattle.template_pass.specs.Orderly.{Orderly}
use Rattle.template_pass.specs.Rows as row
use Rattle.template_pass.specs.Rows.{Row, level_of, Bare, bare_item, bare_beside, bare_said, bare_row, bare_event}
use Rattle.template_pass.specs.Standing.{level_at, seen, row_of, last_behind, Around, Began, Numbered, Coming, Standing}
use Rattle.template_pass.proofs.ItemBegins.{item_step, around_more}
use Rattle.template_pass.proofs.Paths.{In, in_length, lies, lain, lies_by_length}
use Rattle.template_pass.proofs.Unclosed.{HeadStays, with_else, behind_end, behind_else}

-- ---- the item that comes

pub coming_next : (q : Path) (past es : List Event) → Orderly q past es → Coming q past (next_item es)
coming_next q past [] h = tt
coming_next q past (begins p k l ∷ es) h = (h.0, h.1)
coming_next q past (beside p k b l s ∷ es) h = coming_next q (beside p k b l s ∷ past) es h
coming_next q past (says l s ∷ es) h = coming_next q (says l s ∷ past) es h

pub orderly_behind : (q : Path) (past : List Event) (e : Event) (es : List Event) → Orderly q past (e ∷ es) → Orderly (last_behind q e) (e ∷ past) es
orderly_behind q past (begins p k l) es h = h.2
orderly_behind q past (beside p k b l s) es h = h
orderly_behind q past (says l s) es h = h

-- ---- where a statement, an opener, a branch or an end belongs

module _ (q : Path) (past : List Event) where
  pub belongs_lies : (m : ℕ) (bs : List Block) (next : Option Path) → Around q m bs → Coming q past next → In q (belongs bs next)
  belongs_lies m [] None a c = (q, sym (append-nil q))
  belongs_lies m [] (Some p) a c = lain q (collection_of p) c.0
  belongs_lies m (b ∷ bs) None a c = lain q b.collection a.0
  belongs_lies m (b ∷ bs) (Some p) a c = by_test (lies_in (collection_of p) b.collection)
    where
      by_test : (t : Bool) → In q (if t then collection_of p else b.collection)
      by_test true = lain q (collection_of p) c.0
      by_test false = lain q b.collection a.0

  pub belongs_by_level : (m : ℕ) (bs : List Block) (next : Option Path) → Around q m bs → Coming q past next → length (belongs bs next) ≡ level.belongs (each seen bs) (level_at next)
  belongs_by_level m [] None a c = refl
  belongs_by_level m [] (Some p) a c = refl
  belongs_by_level m (b ∷ bs) None a c = refl
  belongs_by_level m (b ∷ bs) (Some p) a c =
      by_test (lies_in (collection_of p) b.collection) (at_most (length b.collection) (level_of p))
      (lies_by_length q (collection_of p) b.collection (lain q (collection_of p) c.0) (lain q b.collection a.0))
    where
      by_test : (t s : Bool) → t ≡ s → length (if t then collection_of p else b.collection) ≡ (if s then level_of p else length b.collection)
      by_test true true e = refl
      by_test true false e = cc
      by_test false true e = cc
      by_test false false e = refl

  pub belongs_within : (m : ℕ) (bs : List Block) (next : Option Path) → Around q m bs → Around q (length (belongs bs next)) bs
  belongs_within m [] next a = tt
  belongs_within m (b ∷ bs) None a = let l : length b.collection ≤ length b.collection = omega arith in (a.0, l, a.2)
  belongs_within m (b ∷ bs) (Some p) a = (a.0, by_test (lies_in (collection_of p) b.collection) refl, a.2)
    where
      by_test : (t : Bool) → lies_in (collection_of p) b.collection ≡ t → length b.collection ≤ length (if t then collection_of p else b.collection)
      by_test true e = in_length (collection_of p) b.collection (lain (collection_of p) b.collection e)
      by_test false e = omega arith

-- the collection of a statement or an opener has the level that the stack gives, and the last item is in it
module _ (q : Path) (past : List Event) (next : Option Path) (bs : List Open) (s : Standing q past next bs) where
  pub belongs_in : IsTrue (lies_in q (belongs (open_blocks past next) next))
  belongs_in = lies q (belongs (open_blocks past next) next) (belongs_lies q past (length q) (open_blocks past next) next s.around s.coming)

  pub belongs_level : length (belongs (open_blocks past next) next) ≡ level.belongs bs (level_at next)
  belongs_level = belongs_by_level q past (length q) (open_blocks past next) next s.around s.coming ∙ ap (λ bs. level.belongs bs (level_at next)) (sym s.stack)

-- and so it is with the innermost block's collection
innermost_lies : (q : Path) (m : ℕ) (bs : List Block) → Around q m bs → In q (innermost bs)
innermost_lies q m [] a = (q, sym (append-nil q))
innermost_lies q m (b ∷ bs) a = lain q b.collection a.0

innermost_by_level : (bs : List Block) → length (innermost bs) ≡ building.innermost (each seen bs)
innermost_by_level [] = refl
innermost_by_level (b ∷ bs) = refl

module _ (q : Path) (past : List Event) (next : Option Path) (bs : List Open) (s : Standing q past next bs) where
  pub innermost_in : IsTrue (lies_in q (innermost (open_blocks past next)))
  innermost_in = lies q (innermost (open_blocks past next)) (innermost_lies q (length q) (open_blocks past next) s.around)

  pub innermost_level : length (innermost (open_blocks past next)) ≡ building.innermost bs
  innermost_level = innermost_by_level (open_blocks past next) ∙ ap building.innermost (sym s.stack)

-- ---- an opener

opened_block : List Block → (next : Option Path) → (count line : ℕ) → Header → (for_one : Bool) → Block
opened_block bs next n l h z = record { collection = belongs bs next; header = h; for_one = z; line = l; one = None; has_else = false; before = n }

module _ (q : Path) (past : List Event) (next : Option Path) (bs : List Open) (s : Standing q past next bs) (l : ℕ) (h : Header) (z : Bool) where
  opened_around : Around q (length q) (opened_block (open_blocks past next) next (length past) l h z ∷ open_blocks past next)
  unfolding opened_block
  opened_around = (
    belongs_in q past next bs s,
    in_length q (belongs (open_blocks past next) next) (belongs_lies q past (length q) (open_blocks past next) next s.around s.coming),
    belongs_within q past (length q) (open_blocks past next) next s.around,
  )

  opened_seen : opened bs (level_at next) (length past) l h z ∷ bs ≡ each seen (opened_block (open_blocks past next) next (length past) l h z ∷ open_blocks past next)
  unfolding opened_block
  opened_seen =
      ap (λ d. record { level = d; header = h; for_one = z; line = l; one = None; has_else = false; before = length past } ∷ bs) (sym (belongs_level q past next bs s))
      ∙ ap (λ bs. seen (opened_block (open_blocks past next) next (length past) l h z) ∷ bs) s.stack

opener_step : (q : Path) (past : List Event) (next : Option Path) (bs : List Open) → Standing q past next bs → (l : ℕ) (h : Header) (z : Bool) →
    Standing q (says l (opens h z) ∷ past) next (opened bs (level_at next) (length past) l h z ∷ bs)
unfolding opened_block opened_around opened_seen
opener_step q past next bs s l h false = record { stack = opened_seen q past next bs s l h false; around = opened_around q past next bs s l h false; numbered = s.numbered; coming = s.coming }
opener_step q past next bs s l h true = record { stack = opened_seen q past next bs s l h true; around = opened_around q past next bs s l h true; numbered = s.numbered; coming = s.coming }

-- ---- an `else` and an end

none_where_first : (t z x : Bool) (f g : Fault) → (if t then Some f else unless (not z && x) g) ≡ None → z ≡ false
none_where_first true z x f g h = cc
none_where_first false true x f g h = cc
none_where_first false false x f g h = refl

none_where_both : (t x z : Bool) (f g : Fault) → (if t then Some f else unless (x && not z) g) ≡ None → z ≡ false
none_where_both true x z f g h = cc
none_where_both false true true f g h = cc
none_where_both false false z f g h = cc
none_where_both false true false f g h = refl

pub end_stays : (file : ℕ) (bs : List Block) (next : Option Path) (l : ℕ) → waiting_or_said file bs next l closes ≡ None → HeadStays bs
end_stays file [] next l h = cc
end_stays file (b ∷ bs) next l h = none_where_first _ b.for_one _ _ _ h

pub else_stays : (file : ℕ) (bs : List Block) (next : Option Path) (l : ℕ) → waiting_or_said file bs next l otherwise ≡ None → HeadStays bs
else_stays file [] next l h = cc
else_stays file (b ∷ bs) next l h = none_where_both _ _ b.for_one _ _ h

around_end : (q : Path) (m : ℕ) (bs : List Block) → Around q m bs → Around q m (drop 1 bs)
around_end q m [] a = tt
around_end q m (b ∷ bs) a = around_more q (length b.collection) m bs a.1 a.2

around_else : (q : Path) (m : ℕ) (bs : List Block) → Around q m bs → Around q m (with_else bs)
around_else q m [] a = tt
around_else q m (b ∷ bs) a = a

seen_end : (bs : List Block) → drop 1 (each seen bs) ≡ each seen (drop 1 bs)
seen_end [] = refl
seen_end (b ∷ bs) = refl

seen_else : (bs : List Block) → level.with_else (each seen bs) ≡ each seen (with_else bs)
seen_else [] = refl
seen_else (b ∷ bs) = refl

module _ (q : Path) (past : List Event) (next : Option Path) (bs : List Open) (s : Standing q past next bs) (l : ℕ) (h : HeadStays (open_blocks past next)) where
  end_step : Standing q (says l closes ∷ past) next (drop 1 bs)
  end_step =
      let e : open_blocks (says l closes ∷ past) next ≡ drop 1 (open_blocks past next) = behind_end next next false zero false past h in
      record {
        stack = ap (drop 1) s.stack ∙ seen_end (open_blocks past next) ∙ ap (each seen) (sym e);
        around = subst (λ bs. Around q (length q) bs) (sym e) (around_end q (length q) (open_blocks past next) s.around);
        numbered = s.numbered;
        coming = s.coming;
      }

  else_step : Standing q (says l otherwise ∷ past) next (level.with_else bs)
  else_step =
      let e : open_blocks (says l otherwise ∷ past) next ≡ with_else (open_blocks past next) = behind_else next next false zero false past h in
      record {
        stack = ap level.with_else s.stack ∙ seen_else (open_blocks past next) ∙ ap (each seen) (sym e);
        around = subst (λ bs. Around q (length q) bs) (sym e) (around_else q (length q) (open_blocks past next) s.around);
        numbered = s.numbered;
        coming = s.coming;
      }

-- ---- the steps

-- where nothing has come, no block is open
pub standing_first : (es : List Event) → Orderly [] [] es → Standing [] [] (next_item es) []
standing_first es h = record { stack = refl; around = tt; numbered = tt; coming = coming_next [] [] es h }

-- an event that leaves the blocks and counts no item
same_step : (q : Path) (past : List Event) (next : Option Path) (bs : List Open) (e : Event) → Standing q past next bs → open_blocks (e ∷ past) next ≡ open_blocks past next →
    Began (Numbered (e ∷ past)) (e ∷ past) → Coming q (e ∷ past) next → Standing q (e ∷ past) next bs
same_step q past next bs e s o n c =
    record { stack = s.stack ∙ ap (each seen) (sym o); around = subst (λ bs. Around q (length q) bs) (sym o) s.around; numbered = n; coming = c }

said_step : (file : ℕ) (q : Path) (past es : List Event) (l : ℕ) (t : Said) (bs : List Open) → Standing q past (next_item es) bs → event_fault file past (says l t) es ≡ None →
    Standing q (says l t ∷ past) (next_item es) (behind bs (level_at (next_item es)) (length past) (row.says l t))
said_step file q past es l (opens h z) bs s f = opener_step q past (next_item es) bs s l h z
said_step file q past es l otherwise bs s f = else_step q past (next_item es) bs s l (else_stays file (open_blocks past (next_item es)) (next_item es) l f)
said_step file q past es l closes bs s f = end_step q past (next_item es) bs s l (end_stays file (open_blocks past (next_item es)) (next_item es) l f)
said_step file q past es l t bs s f = same_step q past (next_item es) bs (says l t) s refl s.numbered s.coming

pub none_true : (b : Bool) (f : Fault) → unless b f ≡ None → IsTrue b
none_true true f h = refl
none_true false f h = cc

-- behind an event with which nothing is wrong
pub standing_step : (file : ℕ) (q : Path) (past : List Event) (e : Event) (es : List Event) (bs : List Open) → Standing q past (next_item (e ∷ es)) bs → event_fault file past e es ≡ None → Orderly q past (e ∷ es) →
    Standing (last_behind q e) (e ∷ past) (next_item es) (behind bs (level_at (next_item es)) (length past) (row_of e))
standing_step file q past (begins p k l) es bs s f o = item_step q p k l past (next_item es) bs s (none_true (stays_within (open_blocks past (Some p)) p) _ f) (coming_next p (begins p k l ∷ past) es o.2)
standing_step file q past (beside p k b l t) es bs s f o = same_step q past (next_item es) bs (beside p k b l t) s refl s.numbered s.coming
standing_step file q past (says l t) es bs s f o = said_step file q past es l t bs s f
