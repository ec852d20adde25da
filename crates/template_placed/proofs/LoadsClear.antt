-- Where each `end` stands in no item of its block, what stands outside every block is in no item of a block.
use Rattle.std.proofs.Common.{◌≡◌, ℕ, suc, ◌<◌, ◌≤◌, Bool, true, false, not, ◌&&◌, ◌||◌, if◌then◌else◌, is_some, List, [], ◌∷◌, length, drop, bytes_eq, Option, Some, None, ◌⊎◌, inl, inr, refl, sym, ◌∙◌, ap, subst, arith}
use Rattle.std.specs.Bool.{IsTrue}
use Rattle.std.proofs.lemmas.Bool.{or_left, or_right}
use Rattle.ytt_base.specs.declared.fault.FaultKind.TheVariants as kind
use Rattle.code_spec.specs.Code.{load, return}
use Rattle.code_spec.specs.Program.{ItemKind, Instruction, statement}
use Rattle.code_spec.specs.CodeReading.{Header}
use Rattle.template_pass.specs.Orderly.{Orderly}
use Rattle.template_pass.proofs.Built.{NoneWrong}
use Rattle.template_spec.specs.Comments.{Said, ignored, a_note, a_value, statements, opens, elif, otherwise, closes}
use Rattle.template_spec.specs.Events.{Path, Event, begins, beside, says}
use Rattle.template_spec.specs.Misplaced.{no_block, stays_within, statement_fault, statements_fault, fault_on, innermost_def, is_collection_of, takes_end}
use Rattle.template_spec.specs.Nesting.{innermost}
use Rattle.template_spec.specs.OpenBlocks.{collection_of, lies_in, Block, belongs, is_over, next_item, open_blocks, so_far, unclosed}
use Rattle.template_pass.specs.Levels.{Open, behind}
use Rattle.template_pass.specs.Rows as row
use Rattle.template_pass.specs.Standing.{Began, level_at, Numbered, row_of, Standing}
use Rattle.template_placed.proofs.Uncrossed.{AllReturnsClear, EndsClear, is_in_block, ReturnsClear, StatementsClear, Uncrossed}
use Rattle.template_pass.proofs.Inside.{inside_split, same_path}
use Rattle.template_pass.proofs.ItemBegins.{advance, collection_in, is_new, left_none_over, NoneOver}
use Rattle.template_placed.proofs.OwnBlocks.{OneIn, OnesIn, WaitIn, wait_in}
use Rattle.template_pass.proofs.Paths.{In, in_by_length, in_collection, in_itself, in_length, in_through, lain, lies}
use Rattle.template_pass.proofs.Standing.{none_true, belongs_lies, coming_next, standing_step}
use Rattle.template_placed.proofs.StillPlaced.{Fine, behind_begins, behind_closes, behind_otherwise, fine_begins, fine_said, ones_open, then_said}
use Rattle.template_pass.proofs.Unclosed.{flagged, OfOne, Ones, with_else}
use Rattle.template_placed.proofs.WordsPlaced.{both_none}

-- ---- a collection in an item of a block that is open

-- the collection lies below that of the block
abbrev Below : Path → Block → Type 0
Below c b = In c b.collection × (length b.collection < length c)

abbrev Within : Path → List Block → Type 0
Within c [] = ⊥
Within c (b ∷ bs) = Below c b ⊎ Within c bs

-- the item that comes is not in it
abbrev Past : Path → (next : Option Path) → Type 0
Past c None = Unit {0}
Past c (Some p) = In (collection_of p) c → ⊥

-- it is in an item of an open block, or is over
abbrev Shut : Path → (next : Option Path) → List Block → Type 0
Shut c next bs = Past c next ⊎ Within c bs

within_else : (c : Path) (bs : List Block) → Within c bs → Within c (with_else bs)
within_else c [] h = h
within_else c (b ∷ bs) (inl h) = inl h
within_else c (b ∷ bs) (inr h) = inr h

-- ---- an `end`

ended_below : (c : Path) (next : Option Path) (b : Block) (bs : List Block) → belongs (b ∷ bs) next ≡ b.collection → Below c b → Past c next
ended_below c None b bs e h = tt
ended_below c (Some p) b bs e h = λ i. by_in i
  where
    by_in : In (collection_of p) c → ⊥
    by_in i = by (lies_in (collection_of p) b.collection) refl e
      where
        by : (t : Bool) → lies_in (collection_of p) b.collection ≡ t → (if t then collection_of p else b.collection) ≡ b.collection → ⊥
        by true f g =
            let a : length (collection_of p) ≡ length b.collection = ap length g in
            let l : length c ≤ length (collection_of p) = in_length (collection_of p) c i in
            let m : length b.collection < length c = h.1 in
            omega (arith, a, l, m)
        by false f g = let x : lies_in (collection_of p) b.collection ≡ true = lies (collection_of p) b.collection (in_through (collection_of p) c b.collection i h.0) in cc (f, x)

shut_end : (c : Path) (next : Option Path) (bs : List Block) → IsTrue (bytes_eq (belongs bs next) (innermost bs)) → Shut c next bs → Shut c next (drop 1 bs)
shut_end c next bs e (inl h) = inl h
shut_end c next [] e (inr h) = absurd h
shut_end c next (b ∷ bs) e (inr (inl h)) = inl (ended_below c next b bs (same_path (belongs (b ∷ bs) next) b.collection e) h)
shut_end c next (b ∷ bs) e (inr (inr h)) = inr h

-- ---- an item begins

not_not : (t : Bool) → not t ≡ false → IsTrue t
not_not true e = refl
not_not false e = cc e

module _ (p c : Path) (i : In p c) (next : Option Path) where
  -- an item with a collection in it, and another item: the collection is in the item
  in_item : (n : ℕ) (d o : Path) → o ≡ n ∷ d → In p o → In c d → length d < length c → In c o
  in_item n d o e j k l = let u : length o ≡ suc (length d) = ap length e in in_by_length p c o i j (omega (arith, u, l))

  -- where such an item is over, so is the collection
  over_past : (o : Path) → In c o → (next : Option Path) → is_over (Some o) next ≡ true → Past c next
  over_past o j None h = tt
  over_past o j (Some x) h = λ k.
      let y : lies_in x o ≡ true = lies x o (in_through x (collection_of x) o (in_collection x) (in_through (collection_of x) c o k j)) in
      let z : not (lies_in x o) ≡ true = h in
      cc (y, z)

  module _ (bs : List Block) (rest : Within c bs → Shut c next (advance p next bs)) where
    kept_shut : (t : Bool) (b : Block) (o : Path) → is_over (Some o) next ≡ t → Below c b → In c o → Shut c next (if t then advance p next bs else b ∷ advance p next bs)
    kept_shut true b o e h j = inl (over_past o j next e)
    kept_shut false b o e h j = inr (inl h)

    more_shut : (t : Bool) (b : Block) → Shut c next (advance p next bs) → Shut c next (if t then advance p next bs else b ∷ advance p next bs)
    more_shut true b h = h
    more_shut false b (inl h) = inl h
    more_shut false b (inr h) = inr (inr h)

    module _ (past : List Event) where
      shut_first : (b : Block) (z : Bool) (o : Option Path) → OneIn b.collection z o → OfOne (Numbered past) o → (z && is_over o (Some p)) ≡ false →
          ((z && not (is_some o)) ≡ true → (n : ℕ) × (p ≡ n ∷ b.collection)) → Within c (flagged b z o ∷ bs) → Shut c next (advance p next (flagged b z o ∷ bs))
      shut_first b false o a f v g (inl h) = inr (inl h)
      shut_first b false o a f v g (inr h) = more_shut false (flagged b false o) (rest h)
      shut_first b true None a f v g (inl h) =
          kept_shut (is_over (Some p) next) (flagged b true (Some p)) p refl h (let y = g refl in in_item y.0 b.collection p y.1 (in_itself p) h.0 h.1)
      shut_first b true None a f v g (inr h) = more_shut (is_over (Some p) next) (flagged b true (Some p)) (rest h)
      shut_first b true (Some x) a f v g (inl h) =
          kept_shut (is_over (Some x) next) (flagged b true (Some x)) x refl h
          (in_item f.0 b.collection x (f.2 ∙ ap (λ (d : Path). f.0 ∷ d) (sym (ap collection_of f.2) ∙ a.1)) (lain p x (not_not (lies_in p x) v)) h.0 h.1)
      shut_first b true (Some x) a f v g (inr h) = more_shut (is_over (Some x) next) (flagged b true (Some x)) (rest h)

shut_advance : (p c : Path) (i : In p c) (next : Option Path) (past : List Event) (bs : List Block) → p ≡ so_far (collection_of p) past ∷ collection_of p → OnesIn bs → Ones (Numbered past) bs → NoneOver (Some p) bs →
    WaitIn (collection_of p) bs → Within c bs → Shut c next (advance p next bs)
shut_advance p c i next past [] e a f v g h = absurd h
shut_advance p c i next past (b ∷ bs) e a f v g h =
    shut_first p c i next bs (shut_advance p c i next past bs e a.1 f.1 v.1 g.1) past b b.for_one b.one a.0 f.0 v.0
    (λ x. (so_far (collection_of p) past, e ∙ ap (λ (d : Path). so_far (collection_of p) past ∷ d) (sym (g.0 x)))) h

-- ---- which collections are in an item of a block

root_clear : (all past : List Event) → Began (Numbered all) past → is_in_block [] past ≡ false
root_clear all [] n = refl
root_clear all (begins x k l ∷ es) n = ap (λ (t : Bool). t && not (no_block (open_blocks es (Some x))) || is_in_block [] es) (by (lies_in [] x) refl) ∙ root_clear all es n.1
  where
    by : (t : Bool) → lies_in [] x ≡ t → lies_in [] x ≡ false
    by true e =
        let l : length x ≤ 0 = in_length [] x (lain [] x e) in
        let u : length x ≡ suc (length n.0.1) = ap length n.0.2 in
        absurd (omega (arith, l, u))
    by false e = e
root_clear all (beside x k b l s ∷ es) n = root_clear all es n
root_clear all (says l s ∷ es) n = root_clear all es n

-- an item that comes is in an item of a block where its collection is
in_block_new : (all : List Event) (p : Path) → p ≡ so_far (collection_of p) all ∷ collection_of p → (past : List Event) → Began (Numbered all) past → IsTrue (is_in_block p past) → IsTrue (is_in_block (collection_of p) past)
in_block_new all p e [] n h = h
in_block_new all p e (begins x k l ∷ es) n h = by (lies_in p x) (not (no_block (open_blocks es (Some x)))) refl refl h (in_block_new all p e es n.1)
  where
    by : (t u : Bool) → lies_in p x ≡ t → not (no_block (open_blocks es (Some x))) ≡ u → IsTrue (t && u || is_in_block p es) → (IsTrue (is_in_block p es) → IsTrue (is_in_block (collection_of p) es)) →
        IsTrue (lies_in (collection_of p) x && not (no_block (open_blocks es (Some x))) || is_in_block (collection_of p) es)
    by true true a f g up =
        let y : lies_in (collection_of p) x ≡ true = lies (collection_of p) x (collection_in p x (is_new all x p n.0 e) (lain p x a)) in
        or_left (lies_in (collection_of p) x && not (no_block (open_blocks es (Some x)))) (is_in_block (collection_of p) es) (ap (λ (t : Bool). t && not (no_block (open_blocks es (Some x)))) y ∙ f)
    by true false a f g up = or_right (lies_in (collection_of p) x && not (no_block (open_blocks es (Some x)))) (is_in_block (collection_of p) es) (up g)
    by false u a f g up = or_right (lies_in (collection_of p) x && not (no_block (open_blocks es (Some x)))) (is_in_block (collection_of p) es) (up g)
in_block_new all p e (beside x k b l s ∷ es) n h = in_block_new all p e es n h
in_block_new all p e (says l s ∷ es) n h = in_block_new all p e es n h

-- ---- all that is known at a place

-- each collection in an item of a block is in one of an open block, or is over
abbrev AllShut : (q : Path) → (past : List Event) → (next : Option Path) → List Block → Type 0
AllShut q past next bs = (c : Path) → In q c → IsTrue (is_in_block c past) → Shut c next bs

module _ (file : ℕ) where
  pub record There (q : Path) (past : List Event) (es : List Event) (bs : List Open) : Type 0 where
    pub standing : Standing q past (next_item es) bs
    pub orderly : Orderly q past es
    pub sound : NoneWrong file past es
    pub fine : Fine (next_item es) (open_blocks past (next_item es))
    pub shut : AllShut q past (next_item es) (open_blocks past (next_item es))

  -- ---- an item begins

  module _ (q p : Path) (k : ItemKind) (l : ℕ) (past es : List Event) (bs : List Open) (h : There q past (begins p k l ∷ es) bs) where
    stays : IsTrue (stays_within (open_blocks past (Some p)) p)
    stays = none_true (stays_within (open_blocks past (Some p)) p) _ h.sound.0

    now : open_blocks (begins p k l ∷ past) (next_item es) ≡ advance p (next_item es) (open_blocks past (Some p))
    now = behind_begins q p k l past (next_item es) bs h.standing (coming_next p (begins p k l ∷ past) es h.orderly.2)

    longer : length p ≡ suc (length (collection_of p))
    longer = ap length h.orderly.1

    -- the collection of the item
    outer_shut : IsTrue (is_in_block (collection_of p) past) → Within (collection_of p) (open_blocks past (Some p))
    outer_shut e = by (h.shut (collection_of p) (lain q (collection_of p) h.orderly.0) e)
      where
        by : Shut (collection_of p) (Some p) (open_blocks past (Some p)) → Within (collection_of p) (open_blocks past (Some p))
        by (inl x) = absurd (x (in_itself (collection_of p)))
        by (inr x) = x

    inner_within : (bs : List Block) → Within (collection_of p) bs → Within p bs
    inner_within [] x = x
    inner_within (b ∷ bs) (inl x) = inl (in_through p (collection_of p) b.collection (in_collection p) x.0, omega (arith, longer, x.1))
    inner_within (b ∷ bs) (inr x) = inr (inner_within bs x)

    in_head : (bs : List Block) → IsTrue (stays_within bs p) → IsTrue (not (no_block bs)) → Within p bs
    in_head [] w e = cc e
    in_head (b ∷ bs) w e =
        let i : In (collection_of p) b.collection = lain (collection_of p) b.collection w in
        inl (in_through p (collection_of p) b.collection (in_collection p) i, omega (arith, longer, in_length (collection_of p) b.collection i))

    item_within : (t u : Bool) → not (no_block (open_blocks past (Some p))) ≡ u → IsTrue (t && u || is_in_block p past) → Within p (open_blocks past (Some p))
    item_within t true e f = in_head (open_blocks past (Some p)) stays e
    item_within true false e f = inner_within (open_blocks past (Some p)) (outer_shut (in_block_new past p h.orderly.1 past h.standing.numbered f))
    item_within false false e f = inner_within (open_blocks past (Some p)) (outer_shut (in_block_new past p h.orderly.1 past h.standing.numbered f))

    outer_within : (c : Path) → In (collection_of p) c → (t u : Bool) → lies_in c p ≡ t → IsTrue (t && u || is_in_block c past) → Within c (open_blocks past (Some p))
    outer_within c i true u e f = let x : length p ≤ length c = in_length c p (lain c p e) in absurd (omega (arith, longer, x, in_length (collection_of p) c i))
    outer_within c i false u e f = by (h.shut c (in_through q (collection_of p) c (lain q (collection_of p) h.orderly.0) i) f)
      where
        by : Shut c (Some p) (open_blocks past (Some p)) → Within c (open_blocks past (Some p))
        by (inl x) = absurd (x i)
        by (inr x) = x

    begins_within : (c : Path) → In p c → IsTrue (is_in_block c (begins p k l ∷ past)) → Within c (open_blocks past (Some p))
    begins_within c i e = by (inside_split (so_far (collection_of p) past) (collection_of p) c (subst (λ (x : Path). In x c) h.orderly.1 i))
      where
        by : (c ≡ so_far (collection_of p) past ∷ collection_of p) ⊎ In (collection_of p) c → Within c (open_blocks past (Some p))
        by (inl s) =
            let r : p ≡ c = h.orderly.1 ∙ sym s in
            subst (λ (x : Path). Within x (open_blocks past (Some p))) r
            (item_within (lies_in p p) (not (no_block (open_blocks past (Some p)))) refl (subst (λ (x : Path). IsTrue (is_in_block x (begins p k l ∷ past))) (sym r) e))
        by (inr j) = outer_within c j (lies_in c p) (not (no_block (open_blocks past (Some p)))) refl e

    there_begins : There p (begins p k l ∷ past) es (behind bs (level_at (next_item es)) (length past) (row_of (begins p k l)))
    there_begins = record {
      standing = standing_step file q past (begins p k l) es bs h.standing h.sound.0 h.orderly;
      orderly = h.orderly.2;
      sound = h.sound.1;
      fine = subst (Fine (next_item es)) (sym now) (fine_begins p (next_item es) (open_blocks past (Some p)) h.fine stays);
      shut = λ c i e. subst (Shut c (next_item es)) (sym now)
          (shut_advance p c i (next_item es) past (open_blocks past (Some p)) h.orderly.1 h.fine.ones (ones_open q past (Some p) bs h.standing)
          (left_none_over (Some p) (unclosed (Some p) false 0 false past)) (wait_in p (open_blocks past (Some p)) h.fine.waits stays) (begins_within c i e));
    }

  -- ---- something is said

  there_beside : (q p : Path) (k : ItemKind) (b : Bool) (l : ℕ) (s : Said) (past es : List Event) (bs : List Open) → There q past (beside p k b l s ∷ es) bs → There q (beside p k b l s ∷ past) es bs
  there_beside q p k b l s past es bs h = record {
    standing = standing_step file q past (beside p k b l s) es bs h.standing h.sound.0 h.orderly;
    orderly = h.orderly;
    sound = h.sound.1;
    fine = h.fine;
    shut = h.shut;
  }

  module _ (q : Path) (past es : List Event) (l : ℕ) (bs : List Open) where
    abbrev opened : Header → Bool → Block
    opened x z = record { collection = belongs (open_blocks past (next_item es)) (next_item es); header = x; for_one = z; line = l; one = None; has_else = false; before = length past }

    more_open : (c : Path) (b : Block) (xs : List Block) → Shut c (next_item es) xs → Shut c (next_item es) (b ∷ xs)
    more_open c b xs (inl x) = inl x
    more_open c b xs (inr x) = inr (inr x)

    same_else : (c : Path) (xs : List Block) → Shut c (next_item es) xs → Shut c (next_item es) (with_else xs)
    same_else c xs (inl x) = inl x
    same_else c xs (inr x) = inr (within_else c xs x)

    shut_said : (s : Said) → There q past (says l s ∷ es) bs → EndsClear past (says l s ∷ es) → AllShut q (says l s ∷ past) (next_item es) (open_blocks (says l s ∷ past) (next_item es))
    shut_said (opens x true) h e c i f = more_open c (opened x true) (open_blocks past (next_item es)) (h.shut c i f)
    shut_said (opens x false) h e c i f = more_open c (opened x false) (open_blocks past (next_item es)) (h.shut c i f)
    shut_said otherwise h e c i f =
        subst (Shut c (next_item es)) (sym (behind_otherwise file past (next_item es) l h.sound.0)) (same_else c (open_blocks past (next_item es)) (h.shut c i f))
    shut_said closes h e c i f =
        subst (Shut c (next_item es)) (sym (behind_closes file past (next_item es) l h.sound.0)) (shut_end c (next_item es) (open_blocks past (next_item es)) e.0 (h.shut c i f))
    shut_said ignored h e c i f = h.shut c i f
    shut_said (a_note x vs) h e c i f = h.shut c i f
    shut_said (a_value x) h e c i f = h.shut c i f
    shut_said (statements is) h e c i f = h.shut c i f
    shut_said (elif x) h e c i f = h.shut c i f

    there_says : (s : Said) → There q past (says l s ∷ es) bs → EndsClear past (says l s ∷ es) → There q (says l s ∷ past) es (behind bs (level_at (next_item es)) (length past) (row.says l s))
    there_says s h e = record {
      standing = standing_step file q past (says l s) es bs h.standing h.sound.0 h.orderly;
      orderly = h.orderly;
      sound = h.sound.1;
      fine = fine_said file past es l s h.fine h.sound.0;
      shut = shut_said s h e;
    }

    ends_behind : (s : Said) → EndsClear past (says l s ∷ es) → EndsClear (says l s ∷ past) es
    ends_behind closes e = e.1
    ends_behind ignored e = e
    ends_behind (a_note x vs) e = e
    ends_behind (a_value x) e = e
    ends_behind (statements is) e = e
    ends_behind (opens x z) e = e
    ends_behind (elif x) e = e
    ends_behind otherwise e = e

    returns_behind : (s : Said) → AllReturnsClear past (says l s ∷ es) → AllReturnsClear (says l s ∷ past) es
    returns_behind (statements is) e = e.1
    returns_behind ignored e = e
    returns_behind (a_note x vs) e = e
    returns_behind (a_value x) e = e
    returns_behind (opens x z) e = e
    returns_behind (elif x) e = e
    returns_behind otherwise e = e
    returns_behind closes e = e

  -- what stands outside every block is in no item of a block
  outside_clear : (q : Path) (past : List Event) (next : Option Path) (bs : List Open) → Standing q past next bs → AllShut q past next (open_blocks past next) → IsTrue (no_block (open_blocks past next)) →
      IsTrue (not (is_in_block (belongs (open_blocks past next) next) past))
  outside_clear q past next bs s h n = by (is_in_block (belongs (open_blocks past next) next) past) refl
    where
      none : (xs : List Block) (next : Option Path) → IsTrue (no_block xs) → Shut (belongs xs next) next xs → IsTrue (is_in_block (belongs xs next) past) → ⊥
      none [] None e x f = let r : is_in_block [] past ≡ false = root_clear past past s.numbered in cc (r, f)
      none [] (Some p) e (inl x) f = x (in_itself (collection_of p))
      none [] (Some p) e (inr x) f = x
      none (b ∷ xs) next e x f = cc e

      by : (t : Bool) → is_in_block (belongs (open_blocks past next) next) past ≡ t → IsTrue (not t)
      by false e = refl
      by true e =
          absurd (none (open_blocks past next) next n (h (belongs (open_blocks past next) next) (belongs_lies q past (length q) (open_blocks past next) next s.around s.coming) e) e)

  statements_clear : (past : List Event) (bs : List Block) (c : Path) (is : List Instruction) → (IsTrue (no_block bs) → IsTrue (not (is_in_block c past))) → statements_fault bs c is ≡ None → ReturnsClear bs c is → StatementsClear past bs c is
  statements_clear past bs c [] h f g = tt
  statements_clear past bs c (statement (return p e) ∷ is) h f g = (g.0, statements_clear past bs c is h (both_none (statement_fault bs c (return p e)) (statements_fault bs c is) f).1 g.1)
  statements_clear past bs c (statement (load p path xs) ∷ is) h f g =
      let x = both_none (statement_fault bs c (load p path xs)) (statements_fault bs c is) f in (h (none_true (no_block bs) _ x.0), statements_clear past bs c is h x.1 g)
  statements_clear past bs c (statement s ∷ is) h f g = (tt, statements_clear past bs c is h (both_none (statement_fault bs c s) (statements_fault bs c is) f).1 g)
  statements_clear past bs c (i ∷ is) h f g = statements_clear past bs c is h f g

  pub uncrossed : (q : Path) (past es : List Event) (bs : List Open) → There q past es bs → AllReturnsClear past es → EndsClear past es → Uncrossed past es
  uncrossed q past [] bs h a e = tt
  uncrossed q past (begins p k l ∷ es) bs h a e =
      uncrossed p (begins p k l ∷ past) es (behind bs (level_at (next_item es)) (length past) (row_of (begins p k l))) (there_begins q p k l past es bs h) a e
  uncrossed q past (beside p k b l s ∷ es) bs h a e = uncrossed q (beside p k b l s ∷ past) es bs (there_beside q p k b l s past es bs h) a e
  uncrossed q past (says l s ∷ es) bs h a e =
      by s h a (uncrossed q (says l s ∷ past) es (behind bs (level_at (next_item es)) (length past) (row.says l s)) (there_says q past es l bs s h e) (returns_behind q past es l bs s a) (ends_behind q past es l bs s e))
    where
      by : (s : Said) → There q past (says l s ∷ es) bs → AllReturnsClear past (says l s ∷ es) → Uncrossed (says l s ∷ past) es → Uncrossed past (says l s ∷ es)
      by (statements is) h a up = (
        statements_clear past (open_blocks past (next_item es)) (belongs (open_blocks past (next_item es)) (next_item es)) is (outside_clear q past (next_item es) bs h.standing h.shut)
            (then_said file (open_blocks past (next_item es)) (next_item es) l (statements is) h.sound.0) a.0,
        up,
      )
      by ignored h a up = up
      by (a_note x vs) h a up = up
      by (a_value x) h a up = up
      by (opens x z) h a up = up
      by (elif x) h a up = up
      by otherwise h a up = up
      by closes h a up = up

  -- ---- where nothing is wrong

  both_hold : (x y : Bool) → IsTrue (x && y) → IsTrue y
  both_hold true y h = h
  both_hold false y h = cc h

  returns_here : (bs : List Block) (c : Path) (is : List Instruction) → statements_fault bs c is ≡ None → ReturnsClear bs c is
  returns_here bs c [] f = tt
  returns_here bs c (statement (return p e) ∷ is) f =
      let x = both_none (statement_fault bs c (return p e)) (statements_fault bs c is) f in (none_true (is_collection_of c (innermost_def bs)) _ x.0, returns_here bs c is x.1)
  returns_here bs c (statement s ∷ is) f = returns_here bs c is (both_none (statement_fault bs c s) (statements_fault bs c is) f).1
  returns_here bs c (i ∷ is) f = returns_here bs c is f

  ends_here : (bs : List Block) (next : Option Path) → IsTrue (takes_end bs next) → IsTrue (bytes_eq (belongs bs next) (innermost bs))
  ends_here [] next h = cc h
  ends_here (b ∷ bs) next h = both_hold (not b.for_one) (bytes_eq (belongs (b ∷ bs) next) b.collection) h

  pub returns_clear : (past es : List Event) → NoneWrong file past es → AllReturnsClear past es
  returns_clear past [] w = tt
  returns_clear past (says l (statements is) ∷ es) w = (
    returns_here (open_blocks past (next_item es)) (belongs (open_blocks past (next_item es)) (next_item es)) is (then_said file (open_blocks past (next_item es)) (next_item es) l (statements is) w.0),
    returns_clear (says l (statements is) ∷ past) es w.1,
  )
  returns_clear past (e ∷ es) w = returns_clear (e ∷ past) es w.1

  pub ends_clear : (past es : List Event) → NoneWrong file past es → EndsClear past es
  ends_clear past [] w = tt
  ends_clear past (says l closes ∷ es) w = (
    ends_here (open_blocks past (next_item es)) (next_item es)
        (none_true (takes_end (open_blocks past (next_item es)) (next_item es)) (fault_on file kind.BlockStray l) (then_said file (open_blocks past (next_item es)) (next_item es) l closes w.0)),
    ends_clear (says l closes ∷ past) es w.1,
  )
  ends_clear past (e ∷ es) w = ends_clear (e ∷ past) es w.1
