-- What stands in a collection is its items with its marks between them, each mark behind so many items.
use Rattle.std.proofs.Common.{◌≡◌, ℕ, suc, ◌<◌, Bool, true, false, ◌&&◌, ◌==◌, List, [], ◌∷◌, ◌++◌, bytes_eq, drop, Option, Some, None, refl, sym, ◌∙◌, ap, arith, ne_eqb, eq-eqb, if◌then◌else◌}
use Rattle.code_spec.specs.Program.{ItemKind}
use Rattle.template_spec.specs.Comments.{Said, ignored, a_note, a_value, statements, opens, elif, otherwise, closes}
use Rattle.template_spec.specs.Events.{Path, Event, begins, beside, says}
use Rattle.template_spec.specs.OpenBlocks.{collection_of, so_far}
use Rattle.template_spec.specs.Nesting.{Mark, Part, a_node, a_mark, mark, mark_in, marks, marks_at}
use Rattle.template_spec.specs.Template.{Item}
use Rattle.template_pass.specs.Building.{Before, Slot, waiting, with_beside, with_part, item_with}
use Rattle.template_pass.specs.Rows as row
use Rattle.template_pass.specs.Rows.{Start}
use Rattle.template_pass.proofs.ByPath.{PathPut, changed_if, node_if, nodes_of, slot_of}
use Rattle.template_pass.proofs.Counted.{so_far-more}
use Rattle.template_pass.proofs.EventPuts.{first_start, marked, path_puts, place_of}
use Rattle.template_pass.proofs.Inside.{same_path, path_same}

-- items from a number on, with the marks before each and behind all
abbrev pub weave : Path → (number : ℕ) → List Mark → List Item → List Part
weave c n ms [] = marks_at c n ms []
weave c n ms (x ∷ xs) = marks_at c n ms (a_node x ∷ weave c (suc n) ms xs)

-- ---- marks

abbrev mark_of : Option Path → (past : List Event) → (line : ℕ) → Said → List Mark
mark_of None past l s = []
mark_of (Some c) past l s = mark_in c past l s

mark_is : (past coming : List Event) (l : ℕ) (s : Said) → mark past coming l s ≡ mark_of (place_of past coming s) past l s
mark_is past coming l ignored = refl
mark_is past coming l (a_note x es) = refl
mark_is past coming l (a_value e) = refl
mark_is past coming l (statements is) = refl
mark_is past coming l (opens h z) = refl
mark_is past coming l (elif e) = refl
mark_is past coming l otherwise = refl
mark_is past coming l closes = refl

abbrev mark_if : Bool → Mark → List Part → List Part
mark_if b m ps = if b then a_mark m.line m.said ∷ ps else ps

here : (c : Path) (n : ℕ) (m : Mark) → m.collection ≡ c → m.number ≡ n → (bytes_eq m.collection c && m.number == n) ≡ true
here c n m e f =
    ap (λ (b : Bool). b && m.number == n) (path_same m.collection c e) ∙ eq-eqb m.number n f

elsewhere : (c : Path) (n : ℕ) (m : Mark) → (m.collection ≡ c → m.number ≡ n → ⊥) → (bytes_eq m.collection c && m.number == n) ≡ false
elsewhere c n m h = by (bytes_eq m.collection c) refl
  where
    by : (b : Bool) → bytes_eq m.collection c ≡ b → (b && m.number == n) ≡ false
    by true e = ne_eqb m.number n (h (same_path m.collection c e))
    by false e = refl

skipped : (c : Path) (n : ℕ) (m : Mark) (ms : List Mark) (ps : List Part) → (m.collection ≡ c → m.number ≡ n → ⊥) → marks_at c n (m ∷ ms) ps ≡ marks_at c n ms ps
skipped c n m ms ps h = ap (λ (b : Bool). mark_if b m (marks_at c n ms ps)) (elsewhere c n m h)

taken : (c : Path) (n : ℕ) (m : Mark) (ms : List Mark) (ps : List Part) → m.collection ≡ c → m.number ≡ n → marks_at c n (m ∷ ms) ps ≡ a_mark m.line m.said ∷ marks_at c n ms ps
taken c n m ms ps e f = ap (λ (b : Bool). mark_if b m (marks_at c n ms ps)) (here c n m e f)

-- a mark before these items is none of theirs
passed : (c : Path) (n : ℕ) (m : Mark) (ms : List Mark) (xs : List Item) → (m.collection ≡ c → m.number < n) → weave c n (m ∷ ms) xs ≡ weave c n ms xs
passed c n m ms [] h = skipped c n m ms [] (λ e f. let l : m.number < n = h e in omega (arith, l, f))
passed c n m ms (x ∷ xs) h =
    skipped c n m ms (a_node x ∷ weave c (suc n) (m ∷ ms) xs) (λ e f. let l : m.number < n = h e in omega (arith, l, f))
    ∙ ap (λ (ps : List Part). marks_at c n ms (a_node x ∷ ps)) (passed c (suc n) m ms xs (λ e. let l : m.number < n = h e in omega (arith, l)))

standing : (c : Path) (n : ℕ) (m : Mark) (ms : List Mark) (xs : List Item) → m.collection ≡ c → m.number ≡ n → weave c n (m ∷ ms) xs ≡ a_mark m.line m.said ∷ weave c n ms xs
standing c n m ms [] e f = taken c n m ms [] e f
standing c n m ms (x ∷ xs) e f =
    taken c n m ms (a_node x ∷ weave c (suc n) (m ∷ ms) xs) e f
    ∙ ap (λ (ps : List Part). a_mark m.line m.said ∷ marks_at c n ms (a_node x ∷ ps)) (passed c (suc n) m ms xs (λ g. omega (arith, f)))

none_behind_mark : (c : Path) (n : ℕ) (o : Option Path) (past : List Event) (l : ℕ) (s : Said) (ms : List Mark) (ps : List Part) → n < so_far c past →
    marks_at c n (mark_of o past l s ++ ms) ps ≡ marks_at c n ms ps
none_behind_mark c n None past l s ms ps h = refl
none_behind_mark c n (Some d) past l s ms ps h =
    skipped c n (record { collection = d; number = so_far d past; line = l; said = s }) ms ps
    (λ e f. let g : so_far d past ≡ so_far c past = ap (λ (x : Path). so_far x past) e in omega (arith, g, f, h))

-- no mark behind a place stands before the items that have begun by then
none_behind : (c : Path) (n : ℕ) (past es : List Event) (ps : List Part) → n < so_far c past → marks_at c n (marks past es) ps ≡ ps
none_behind c n past [] ps h = refl
none_behind c n past (begins p k l ∷ es) ps h = none_behind c n (begins p k l ∷ past) es ps (omega (arith, h, so_far-more p c k l past))
none_behind c n past (beside p k b l s ∷ es) ps h = none_behind c n (beside p k b l s ∷ past) es ps h
none_behind c n past (says l s ∷ es) ps h =
    ap (λ (ms : List Mark). marks_at c n (ms ++ marks (says l s ∷ past) es) ps) (mark_is past es l s)
    ∙ none_behind_mark c n (place_of past es s) past l s (marks (says l s ∷ past) es) ps h
    ∙ none_behind c n (says l s ∷ past) es ps h

-- ---- the parts of a slot

pub beside_parts : (file l : ℕ) (s : Said) (b : Bool) (t : Slot) → (changed_if b (with_beside file l s) t).parts ≡ t.parts
beside_parts file l s false t = refl
beside_parts file l ignored true t = refl
beside_parts file l (a_note x es) true t = refl
beside_parts file l (a_value e) true t = refl
beside_parts file l (statements is) true t = refl
beside_parts file l (opens h z) true t = refl
beside_parts file l (elif e) true t = refl
beside_parts file l otherwise true t = refl
beside_parts file l closes true t = refl

item_woven : (c : Path) (p : Path) (k : ItemKind) (l : ℕ) (past es : List Event) (x : Item) (xs : List Item) (t : Slot) (b : Bool) → bytes_eq (collection_of p) c ≡ b →
    t.parts ≡ weave c (so_far c (begins p k l ∷ past)) (marks (begins p k l ∷ past) es) xs →
    (changed_if b (with_part (a_node x)) t).parts ≡ weave c (so_far c past) (marks (begins p k l ∷ past) es) (node_if b x xs)
item_woven c p k l past es x xs t true e up =
    let n : so_far c (begins p k l ∷ past) ≡ suc (so_far c past) = ap (λ (b : Bool). if b then suc (so_far c past) else so_far c past) e in
    ap (λ (ps : List Part). a_node x ∷ ps) (up ∙ ap (λ (m : ℕ). weave c m (marks (begins p k l ∷ past) es) xs) n)
    ∙ sym (none_behind c (so_far c past) (begins p k l ∷ past) es (a_node x ∷ weave c (suc (so_far c past)) (marks (begins p k l ∷ past) es) xs) (omega (arith, n)))
item_woven c p k l past es x xs t false e up =
    let n : so_far c (begins p k l ∷ past) ≡ so_far c past = ap (λ (b : Bool). if b then suc (so_far c past) else so_far c past) e in
    up ∙ ap (λ (m : ℕ). weave c m (marks (begins p k l ∷ past) es) xs) n

mark_woven : (file : ℕ) (c : Path) (o : Option Path) (past : List Event) (l : ℕ) (s : Said) (ms : List Mark) (qs : List PathPut) →
    (slot_of file c qs).parts ≡ weave c (so_far c past) ms (nodes_of file c qs) →
    (slot_of file c (marked o l s qs)).parts ≡ weave c (so_far c past) (mark_of o past l s ++ ms) (nodes_of file c (marked o l s qs))
mark_woven file c None past l s ms qs up = up
mark_woven file c (Some d) past l s ms qs up = by (bytes_eq d c) refl
  where
    m : Mark
    m = record { collection = d; number = so_far d past; line = l; said = s }

    by : (b : Bool) → bytes_eq d c ≡ b → (changed_if b (with_part (a_mark l s)) (slot_of file c qs)).parts ≡ weave c (so_far c past) (m ∷ ms) (nodes_of file c qs)
    by true e =
        ap (λ (ps : List Part). a_mark l s ∷ ps) up
        ∙ sym (standing c (so_far c past) m ms (nodes_of file c qs) (same_path d c e) (ap (λ (x : Path). so_far x past) (same_path d c e)))
    by false e = up ∙ sym (passed c (so_far c past) m ms (nodes_of file c qs) (λ f. let t : bytes_eq d c ≡ true = path_same d c f in cc (e, t)))

pub woven : (file : ℕ) (c : Path) (past : List Event) (ns : List Before) (es : List Event) (ss : List Start) →
    (slot_of file c (path_puts past ns es ss)).parts ≡ weave c (so_far c past) (marks past es) (nodes_of file c (path_puts past ns es ss))
woven file c past ns [] ss = refl
woven file c past ns (begins p k l ∷ es) ss =
    item_woven c p k l past es (item_with file k l (first_start ss).key (first_start ss).written ns (slot_of file p (path_puts (begins p k l ∷ past) [] es (drop 1 ss))))
    (nodes_of file c (path_puts (begins p k l ∷ past) [] es (drop 1 ss))) (slot_of file c (path_puts (begins p k l ∷ past) [] es (drop 1 ss)))
    (bytes_eq (collection_of p) c) refl (woven file c (begins p k l ∷ past) [] es (drop 1 ss))
woven file c past ns (beside p k b l s ∷ es) ss =
    beside_parts file l s (bytes_eq p c) (slot_of file c (path_puts (beside p k b l s ∷ past) ns es ss)) ∙ woven file c (beside p k b l s ∷ past) ns es ss
woven file c past ns (says l s ∷ es) ss =
    mark_woven file c (place_of past es s) past l s (marks (says l s ∷ past) es) (path_puts (says l s ∷ past) (waiting ns (row.says l s)) es ss)
    (woven file c (says l s ∷ past) (waiting ns (row.says l s)) es ss)
    ∙ ap (λ (ms : List Mark). weave c (so_far c past) (ms ++ marks (says l s ∷ past) es) (nodes_of file c (marked (place_of past es s) l s (path_puts (says l s ∷ past) (waiting ns (row.says l s)) es ss))))
    (sym (mark_is past es l s))
