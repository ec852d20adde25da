-- The first fault of placing is the one that the pass by levels finds.
use Rattle.std.proofs.Common.{◌≡◌, ℕ, suc, Bool, true, false, not, ◌&&◌, ◌==◌, nat_lt, if◌then◌else◌, is_some, List, [], ◌∷◌, ◌++◌, length, map as each, Option, Some, None, Ok, refl, sym, ◌∙◌, ap, subst}
use Rattle.ytt_base.specs.declared.fault.Fault.{Fault}
use Rattle.ytt_base.specs.declared.fault.FaultKind.TheVariants as kind
use Rattle.ytt_base.specs.Outcomes.{fault_at}
use Rattle.ytt_base.specs.Trees.{Scalar}
use Rattle.yaml_spec.specs.Noted.{Documents}
use Rattle.code_spec.specs.Code.{Statement, load, return, break, continue}
use Rattle.code_spec.specs.CodeReading.{CodeReader}
use Rattle.code_spec.specs.Program.{ItemKind, document_item, Instruction, statement}
use Rattle.template_spec.specs.Comments.{Said, a_note, statements, opens, elif, otherwise, closes, is_data_note}
use Rattle.template_spec.specs.Events.{Path, Event, begins, beside, says, events}
use Rattle.template_spec.specs.Misplaced.{max_blocks, is_def, is_for, unless, fault_on, innermost_def, innermost_loop, is_collection_of, no_block, statement_fault, statements_fault, may_wait, takes_branch, takes_end, said_fault, waiting_or_said, stays_within, event_fault, is_lost, note_fault, note_faults, Returned, returned_in, returned_at, holder_in, holder_at, return_faults, Sound, and_sound, sound_from, option_list, earliest, reversed, left_open, placing_fault}
use Rattle.template_spec.specs.OpenBlocks.{collection_of, Block, belongs, next_item, open_blocks, first_of}
use Rattle.template_pass.specs.Flat.{Shape, a_map}
use Rattle.template_pass.specs.Levels as level
use Rattle.template_pass.specs.Levels.{at_most, Open, behind, next_level, row_fault, last_open, fault_by_levels}
use Rattle.template_pass.specs.Orderly.{Orderly}
use Rattle.template_pass.specs.Rows as row
use Rattle.template_pass.specs.Rows.{Row, level_of, AreRows}
use Rattle.template_pass.specs.Standing.{level_at, seen, row_of, last_behind, Around, Coming, Standing}
use Rattle.template_pass.proofs.Alike.{Alike, alike, by_event, behind_row, next_level_alike}
use Rattle.template_pass.proofs.OrderlyEvents.{events_orderly}
use Rattle.template_pass.proofs.Paths.{In, lain, lies_by_length, equal_by_length}
use Rattle.template_pass.proofs.Standing.{standing_first, standing_step, orderly_behind, belongs_lies, belongs_by_level}

-- ---- the innermost blocks of a kind

abbrev seen_option : Option Block → Option Open
seen_option None = None
seen_option (Some b) = Some (seen b)

-- the last item is in its collection
abbrev InBlock : Path → Option Block → Type 0
InBlock q None = Unit {0}
InBlock q (Some b) = In q b.collection

seen_either : (t : Bool) (b : Block) (o : Option Block) (u : Option Open) → u ≡ seen_option o → (if t then Some (seen b) else u) ≡ seen_option (if t then Some b else o)
seen_either true b o u e = refl
seen_either false b o u e = e

seen_neither : (t : Bool) (o : Option Block) (u : Option Open) → u ≡ seen_option o → (if t then None else u) ≡ seen_option (if t then None else o)
seen_neither true o u e = refl
seen_neither false o u e = e

def_seen : (bs : List Block) → level.innermost_def (each seen bs) ≡ seen_option (innermost_def bs)
def_seen [] = refl
def_seen (b ∷ bs) = seen_either (is_def b.header) b (innermost_def bs) (level.innermost_def (each seen bs)) (def_seen bs)

loop_seen : (bs : List Block) → level.innermost_loop (each seen bs) ≡ seen_option (innermost_loop bs)
loop_seen [] = refl
loop_seen (b ∷ bs) =
    seen_neither (is_def b.header) (if is_for b.header then Some b else innermost_loop bs) (if is_for b.header then Some (seen b) else level.innermost_loop (each seen bs))
    (seen_either (is_for b.header) b (innermost_loop bs) (level.innermost_loop (each seen bs)) (loop_seen bs))

in_either : (q : Path) (t : Bool) (b : Block) (o : Option Block) → In q b.collection → InBlock q o → InBlock q (if t then Some b else o)
in_either q true b o h k = h
in_either q false b o h k = k

in_neither : (q : Path) (t : Bool) (o : Option Block) → InBlock q o → InBlock q (if t then None else o)
in_neither q true o k = tt
in_neither q false o k = k

def_in : (q : Path) (m : ℕ) (bs : List Block) → Around q m bs → InBlock q (innermost_def bs)
def_in q m [] a = tt
def_in q m (b ∷ bs) a = in_either q (is_def b.header) b (innermost_def bs) (lain q b.collection a.0) (def_in q (length b.collection) bs a.2)

loop_in : (q : Path) (m : ℕ) (bs : List Block) → Around q m bs → InBlock q (innermost_loop bs)
loop_in q m [] a = tt
loop_in q m (b ∷ bs) a =
    in_neither q (is_def b.header) (if is_for b.header then Some b else innermost_loop bs)
    (in_either q (is_for b.header) b (innermost_loop bs) (lain q b.collection a.0) (loop_in q (length b.collection) bs a.2))

-- ---- statements

same_level : (q c : Path) (o : Option Block) → In q c → InBlock q o → level.is_level_of (length c) (seen_option o) ≡ is_collection_of c o
same_level q c None i h = refl
same_level q c (Some b) i h = sym (equal_by_length q b.collection c h i)

none_seen : (bs : List Block) → level.no_block (each seen bs) ≡ no_block bs
none_seen [] = refl
none_seen (b ∷ bs) = refl

module _ (q c : Path) (m : ℕ) (bs : List Block) (a : Around q m bs) (i : In q c) where
  loop_level : level.is_level_of (length c) (level.innermost_loop (each seen bs)) ≡ is_collection_of c (innermost_loop bs)
  loop_level = ap (level.is_level_of (length c)) (loop_seen bs) ∙ same_level q c (innermost_loop bs) i (loop_in q m bs a)

  def_level : level.is_level_of (length c) (level.innermost_def (each seen bs)) ≡ is_collection_of c (innermost_def bs)
  def_level = ap (level.is_level_of (length c)) (def_seen bs) ∙ same_level q c (innermost_def bs) i (def_in q m bs a)

  statement_same : (s : Statement) → level.statement_fault (each seen bs) (length c) s ≡ statement_fault bs c s
  statement_same (return p e) = ap (λ b. unless b (fault_at kind.CodeForm p)) def_level
  statement_same (break p) = ap (λ b. unless b (fault_at kind.CodeForm p)) loop_level
  statement_same (continue p) = ap (λ b. unless b (fault_at kind.CodeForm p)) loop_level
  statement_same (load p path xs) = ap (λ b. unless b (fault_at kind.CodeForm p)) (none_seen bs)
  statement_same s = refl

  statements_same : (is : List Instruction) → level.statements_fault (each seen bs) (length c) is ≡ statements_fault bs c is
  statements_same [] = refl
  statements_same (statement s ∷ is) = ap (λ f. first_of f (level.statements_fault (each seen bs) (length c) is)) (statement_same s) ∙ ap (first_of (statement_fault bs c s)) (statements_same is)
  statements_same (i ∷ is) = statements_same is

-- ---- one event

length_seen : (bs : List Block) → length (each seen bs) ≡ length bs
length_seen [] = refl
length_seen (b ∷ bs) = ap suc (length_seen bs)

branch_seen : (bs : List Block) → level.takes_branch (each seen bs) ≡ takes_branch bs
branch_seen [] = refl
branch_seen (b ∷ bs) = refl

some_level : (o : Option Path) → is_some (level_at o) ≡ is_some o
some_level None = refl
some_level (Some p) = refl

module _ (file : ℕ) (q : Path) (past : List Event) (m : ℕ) (next : Option Path) (c : Coming q past next) where
  end_seen : (bs : List Block) → Around q m bs → level.takes_end (each seen bs) (level_at next) ≡ takes_end bs next
  end_seen [] a = refl
  end_seen (b ∷ bs) a =
      ap (λ d. not b.for_one && d == length b.collection) (sym (belongs_by_level q past m (b ∷ bs) next a c))
      ∙ ap (λ t. not b.for_one && t) (sym (equal_by_length q (belongs (b ∷ bs) next) b.collection (belongs_lies q past m (b ∷ bs) next a c) (lain q b.collection a.0)))

  said_same : (bs : List Block) → Around q m bs → (l : ℕ) (s : Said) → level.said_fault file (each seen bs) (level_at next) l s ≡ said_fault file bs next l s
  said_same bs a l (statements is) =
      ap (λ d. level.statements_fault (each seen bs) d is) (sym (belongs_by_level q past m bs next a c)) ∙ statements_same q (belongs bs next) m bs a (belongs_lies q past m bs next a c) is
  said_same bs a l (opens h z) = ap (λ n. unless (nat_lt n max_blocks) (fault_on file kind.TooDeep l)) (length_seen bs)
  said_same bs a l (elif e) = ap (λ b. unless b (fault_on file kind.BlockStray l)) (branch_seen bs)
  said_same bs a l otherwise = ap (λ b. unless b (fault_on file kind.BlockStray l)) (branch_seen bs)
  said_same bs a l closes = ap (λ b. unless b (fault_on file kind.BlockStray l)) (end_seen bs a)
  said_same bs a l s = refl

  waiting_same : (bs : List Block) → Around q m bs → (l : ℕ) (s : Said) → level.waiting_or_said file (each seen bs) (level_at next) l s ≡ waiting_or_said file bs next l s
  waiting_same [] a l s = said_same [] a l s
  waiting_same (b ∷ bs) a l s =
      ap (λ t. if (b.for_one && not t) && not (may_wait s) then Some (fault_on file kind.BlockOpen b.line) else level.said_fault file (each seen (b ∷ bs)) (level_at next) l s) (some_level b.one)
      ∙ ap (λ f. if (b.for_one && not (is_some b.one)) && not (may_wait s) then Some (fault_on file kind.BlockOpen b.line) else f) (said_same (b ∷ bs) a l s)

stays_same : (q p : Path) (m : ℕ) (bs : List Block) → Around q m bs → In q (collection_of p) → level.stays_within (each seen bs) (level_of p) ≡ stays_within bs p
stays_same q p m [] a i = refl
stays_same q p m (b ∷ bs) a i = sym (lies_by_length q (collection_of p) b.collection i (lain q b.collection a.0))

event_same : (file : ℕ) (q : Path) (past : List Event) (e : Event) (es : List Event) (bs : List Open) → Standing q past (next_item (e ∷ es)) bs → row_fault file bs (level_at (next_item es)) (row_of e) ≡ event_fault file past e es
event_same file q past (begins p k l) es bs s =
    ap (λ bs. row_fault file bs (level_at (next_item es)) (row_of (begins p k l))) s.stack
    ∙ ap (λ b. unless b (fault_on file kind.BlockCrossed l)) (stays_same q p (length q) (open_blocks past (Some p)) s.around (lain q (collection_of p) s.coming.0))
event_same file q past (beside p k b l t) es bs s = refl
event_same file q past (says l t) es bs s =
    ap (λ bs. row_fault file bs (level_at (next_item es)) (row_of (says l t))) s.stack
    ∙ waiting_same file q past (length q) (next_item es) s.coming (open_blocks past (next_item es)) s.around l t

-- ---- functions that build fragments

returned_seen : (o : Option Block) (is : List Instruction) → level.returned_in (seen_option o) is ≡ returned_in o is
returned_seen None is = refl
returned_seen (Some b) [] = refl
returned_seen (Some b) (statement (return p e) ∷ is) = ap (λ rs. record { within = b.before; place = p } ∷ rs) (returned_seen (Some b) is)
returned_seen (Some b) (i ∷ is) = returned_seen (Some b) is

holder_seen : (q c : Path) (o : Option Block) → In q c → InBlock q o → level.holder_in (length c) (seen_option o) ≡ holder_in c o
holder_seen q c None i h = refl
holder_seen q c (Some b) i h = ap (λ t. if t then b.before ∷ [] else []) (sym (equal_by_length q b.collection c h i))

returned_same : (q : Path) (past : List Event) (e : Event) (es : List Event) (bs : List Open) → Standing q past (next_item (e ∷ es)) bs → level.returned_at bs (row_of e) ≡ returned_at past e es
returned_same q past (begins p k l) es bs s = refl
returned_same q past (beside p k b l t) es bs s = refl
returned_same q past (says l (statements is)) es bs s =
    ap (λ bs. level.returned_in (level.innermost_def bs) is) s.stack
    ∙ ap (λ o. level.returned_in o is) (def_seen (open_blocks past (next_item es))) ∙ returned_seen (innermost_def (open_blocks past (next_item es))) is
returned_same q past (says l t) es bs s = refl

holder_same : (q : Path) (past : List Event) (e : Event) (es : List Event) (bs : List Open) → Standing q past (next_item (e ∷ es)) bs → level.holder_at bs (row_of e) ≡ holder_at past e
holder_same q past (begins p k l) es bs s =
    ap (λ bs. level.holder_in (level_of p) (level.innermost_def bs)) s.stack
    ∙ ap (level.holder_in (level_of p)) (def_seen (open_blocks past (Some p)))
    ∙ holder_seen q (collection_of p) (innermost_def (open_blocks past (Some p))) (lain q (collection_of p) s.coming.0) (def_in q (length q) (open_blocks past (Some p)) s.around)
holder_same q past (beside p k b l t) es bs s = refl
holder_same q past (says l t) es bs s = refl

-- ---- the pass

left_same : (file : ℕ) (bs : List Block) → level.left_open file (each seen bs) ≡ left_open file bs
left_same file [] = refl
left_same file (b ∷ bs) = refl

-- both find the same, and where they find no fault, the same is left open
abbrev Agrees : (file : ℕ) → List Open → (count : ℕ) → List Row → (past : List Event) → List Event → Type 0
Agrees file bs n rs past es =
    (level.sound_from file bs n rs ≡ sound_from file past es)
    × ((sound_from file past es).stop ≡ [] → level.left_open file (last_open bs n rs) ≡ left_open file (open_blocks (reversed es past) None))

module _ (hs : List ℕ) (rs : List Returned) (rest : Sound) where
  abbrev stopped_or : Option Fault → Sound
  stopped_or (Some f) = record { holders = []; returned = rs; stop = f ∷ [] }
  stopped_or None = and_sound hs rs rest

agrees_by : (hs : List ℕ) (rs : List Returned) (x y : Sound) (u v : Option Fault) (o : Option Fault) → (o ≡ None → (x ≡ y) × (y.stop ≡ [] → u ≡ v)) →
    (stopped_or hs rs x o ≡ stopped_or hs rs y o) × ((stopped_or hs rs y o).stop ≡ [] → u ≡ v)
agrees_by hs rs x y u v (Some f) h = (refl, λ e. cc)
agrees_by hs rs x y u v None h = (ap (and_sound hs rs) (h refl).0, (h refl).1)

module _ (file : ℕ) (bs : List Open) (n : ℕ) (r : Row) (rs : List Row) (past : List Event) (e : Event) (es : List Event)
    (fault : row_fault file bs (next_level rs) r ≡ event_fault file past e es) (returned : level.returned_at bs r ≡ returned_at past e es) (holder : level.holder_at bs r ≡ holder_at past e)
    (rest : event_fault file past e es ≡ None → Agrees file (behind bs (next_level rs) n r) (suc n) rs (e ∷ past) es) where
  agrees_step : Agrees file bs n (r ∷ rs) past (e ∷ es)
  agrees_step =
      let x : Sound = level.sound_from file (behind bs (next_level rs) n r) (suc n) rs in
      let both : (stopped_or (holder_at past e) (returned_at past e es) x (event_fault file past e es) ≡ sound_from file past (e ∷ es))
      × ((sound_from file past (e ∷ es)).stop ≡ [] → level.left_open file (last_open bs n (r ∷ rs)) ≡ left_open file (open_blocks (reversed (e ∷ es) past) None))
      = agrees_by (holder_at past e) (returned_at past e es) x (sound_from file (e ∷ past) es) _ _ (event_fault file past e es) rest in (
        ap (stopped_or (level.holder_at bs r) (level.returned_at bs r) x) fault
            ∙ ap (λ hs. stopped_or hs (level.returned_at bs r) x (event_fault file past e es)) holder
            ∙ ap (λ rs. stopped_or (holder_at past e) rs x (event_fault file past e es)) returned
            ∙ both.0,
        both.1,
      )

agrees : (file : ℕ) (q : Path) (past : List Event) (rs : List Row) (es : List Event) (bs : List Open) → Alike rs es → Standing q past (next_item es) bs → Orderly q past es → Agrees file bs (length past) rs past es
agrees file q past [] [] bs h s o = (refl, λ e. ap (level.left_open file) s.stack ∙ left_same file (open_blocks past None))
agrees file q past [] (e ∷ es) bs h s o = absurd h
agrees file q past (r ∷ rs) [] bs h s o = absurd h
agrees file q past (r ∷ rs) (e ∷ es) bs h s o =
    let next : next_level rs ≡ level_at (next_item es) = next_level_alike rs es h.1 in
    let stack : behind bs (next_level rs) (length past) r ≡ behind bs (level_at (next_item es)) (length past) (row_of e) =
    ap (λ next. behind bs next (length past) r) next ∙ behind_row bs (level_at (next_item es)) (length past) r e h.0 in
    agrees_step file bs (length past) r rs past e es
    (ap (λ next. row_fault file bs next r) next ∙ by_event (row_fault file bs (level_at (next_item es))) (λ d k l key w. refl) r e h.0 ∙ event_same file q past e es bs s)
    (by_event (level.returned_at bs) (λ d k l key w. refl) r e h.0 ∙ returned_same q past e es bs s)
    (by_event (level.holder_at bs) (λ d k l key w. refl) r e h.0 ∙ holder_same q past e es bs s)
    (λ f. subst (λ bs. Agrees file bs (suc (length past)) rs (e ∷ past) es) (sym stack)
    (agrees file (last_behind q e) (e ∷ past) rs es (behind bs (level_at (next_item es)) (length past) (row_of e)) h.1 (standing_step file q past e es bs s f o) (orderly_behind q past e es o)))

-- ---- notes

module _ (z : Bool) (rs : List Row) (es : List Event) (rest : level.is_lost z rs ≡ is_lost z es) where
  lost_first : (e : Event) → level.is_lost z (row_of e ∷ rs) ≡ is_lost z (e ∷ es)
  lost_first (begins p document_item l) = refl
  lost_first (begins p k l) = refl
  lost_first (beside p k b l s) = rest
  lost_first (says l (elif e)) = refl
  lost_first (says l otherwise) = refl
  lost_first (says l closes) = refl
  lost_first (says l s) = rest

lost_by_level : (z : Bool) (rs : List Row) (d : ℕ) (k : ItemKind) (l : ℕ) (key : Option Scalar) (w : Shape) → level.is_lost z (row.begins d k l key w ∷ rs) ≡ level.is_lost z (row.begins d k l None a_map ∷ rs)
lost_by_level z rs d document_item l key w = refl
lost_by_level z rs d k l key w = refl

lost_same : (z : Bool) (rs : List Row) (es : List Event) → Alike rs es → level.is_lost z rs ≡ is_lost z es
lost_same z [] [] h = refl
lost_same z [] (e ∷ es) h = absurd h
lost_same z (r ∷ rs) [] h = absurd h
lost_same z (r ∷ rs) (e ∷ es) h = by_event (λ r. level.is_lost z (r ∷ rs)) (lost_by_level z rs) r e h.0 ∙ lost_first z rs es (lost_same z rs es h.1) e

module _ (file : ℕ) (rs : List Row) (es : List Event) (h : Alike rs es) where
  note_same : (e : Event) → level.note_fault file (row_of e) rs ≡ note_fault file e es
  note_same (begins p k l) = refl
  note_same (beside p k b l (a_note x vs)) = refl
  note_same (beside p k b l s) = refl
  note_same (says l (a_note x vs)) = ap (λ t. unless (not t) (fault_on file kind.NoteForm l)) (lost_same (is_data_note x) rs es h)
  note_same (says l s) = refl

notes_same : (file : ℕ) (rs : List Row) (es : List Event) → Alike rs es → level.note_faults file rs ≡ note_faults file es
notes_same file [] [] h = refl
notes_same file [] (e ∷ es) h = absurd h
notes_same file (r ∷ rs) [] h = absurd h
notes_same file (r ∷ rs) (e ∷ es) h =
    ap (λ f. option_list f ++ level.note_faults file rs) (by_event (λ r. level.note_fault file r rs) (λ d k l key w. refl) r e h.0 ∙ note_same file rs es h.1 e)
    ∙ ap (λ fs. option_list (note_fault file e es) ++ fs) (notes_same file rs es h.1)

-- ---- the first fault

-- what is left open matters only where nothing else is wrong
left_last : (stop more : List Fault) (u v : Option Fault) → (stop ≡ [] → u ≡ v) → first_of (earliest (stop ++ more)) u ≡ first_of (earliest (stop ++ more)) v
left_last [] more u v h = ap (first_of (earliest more)) (h refl)
left_last (f ∷ fs) more u v h = refl

abbrev found : (file : ℕ) → Sound → (notes : List Fault) → (left : Option Fault) → Option Fault
found file s notes left = first_of (earliest (s.stop ++ (return_faults s.holders s.returned ++ notes))) left

first_same : (file : ℕ) (rs : List Row) (es : List Event) → Alike rs es → Orderly [] [] es → fault_by_levels file rs ≡ placing_fault file es
unfolding fault_by_levels placing_fault
first_same file rs es h o =
    let both : Agrees file [] 0 rs [] es = agrees file [] [] rs es [] h (standing_first es o) o in
    let s : Sound = sound_from file [] es in
    ap (λ s. found file s (level.note_faults file rs) (level.left_open file (last_open [] 0 rs))) both.0
    ∙ ap (λ notes. found file s notes (level.left_open file (last_open [] 0 rs))) (notes_same file rs es h)
    ∙ left_last s.stop (return_faults s.holders s.returned ++ note_faults file es) _ _ both.1

pub first_fault : (r : CodeReader) (ignore : Bool) (file : ℕ) (ds : Documents) (es : List Event) (rs : List Row) → events r ignore file ds ≡ Ok es → AreRows ds es rs → fault_by_levels file rs ≡ placing_fault file es
first_fault r ignore file ds es rs e a = first_same file rs es (alike rs es a.bare) (events_orderly r ignore file ds es e)
