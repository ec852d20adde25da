-- The slots by levels are the slots by paths, for each collection that the last item is in.
use Rattle.std.proofs.Common.{◌≡◌, ℕ, suc, ◌<◌, ◌≤◌, Bool, List, [], ◌∷◌, length, take, bytes_eq, map as each, ◌⊎◌, inl, inr, refl, sym, ◌∙◌, ap, subst, arith}
use Rattle.std.proofs.lemmas.Bool.{cases_lt}
use Rattle.code_spec.specs.Program.{ItemKind}
use Rattle.template_spec.specs.Events.{Path, Event, begins}
use Rattle.template_spec.specs.OpenBlocks.{collection_of, so_far}
use Rattle.template_spec.specs.Nesting.{a_node, a_mark}
use Rattle.template_pass.specs.Building.{Slot, fresh, slot_at, changed, with_part, with_beside, item_with, built}
use Rattle.template_pass.proofs.ByPath.{PathPut, item_put, beside_put, mark_put, by_level, changed_if, slot_of, Ordered}
use Rattle.template_pass.proofs.Counted.{Latest, Gone, gone_outside, gone_still, latest_item, gone_item}
use Rattle.template_pass.proofs.Inside.{inside_more, inside_at, path_same, path_other, path_cases}
use Rattle.template_pass.proofs.Paths.{In, in_itself, in_through, in_by_length, same_by_length}
use Rattle.template_pass.proofs.Slots.{slot_at-none, slot_at-changed, slot_at-other, slot_at-kept, slot_at-left}

-- ---- nothing is put into a collection that is over

pub unchanged : (d c : Path) (f : Slot → Slot) (s : Slot) → (d ≡ c → ⊥) → changed_if (bytes_eq d c) f s ≡ s
unchanged d c f s h = ap (λ (b : Bool). changed_if b f s) (path_other d c h)

outside_gone : (q d c : Path) (past : List Event) → Latest q past → Gone past c → In q d → d ≡ c → ⊥
outside_gone q d c past h g i e = gone_outside q c past h g (inside_at q d c (sym e) i)

pub slot_gone : (file : ℕ) (q : Path) (past : List Event) (qs : List PathPut) → Ordered q past qs → Latest q past → (c : Path) → Gone past c → slot_of file c qs ≡ fresh
slot_gone file q past [] o h c g = refl
slot_gone file q past (item_put p k l key w ns ∷ qs) o h c g =
    unchanged (collection_of p) c (with_part (a_node (item_with file k l key w ns (slot_of file p qs)))) (slot_of file c qs) (outside_gone q (collection_of p) c past h g o.0)
    ∙ slot_gone file p (begins p k l ∷ past) qs o.2 (latest_item q p k l past o.1 h o.0) c (gone_still p c k l past g)
slot_gone file q past (beside_put p l s ∷ qs) o h c g =
    unchanged p c (with_beside file l s) (slot_of file c qs) (outside_gone q p c past h g o.0) ∙ slot_gone file q past qs o.2 h c g
slot_gone file q past (mark_put d l s ∷ qs) o h c g =
    unchanged d c (with_part (a_mark l s)) (slot_of file c qs) (outside_gone q d c past h g o.0) ∙ slot_gone file q past qs o.1 h c g

-- ---- one change at a level that the last item is in

abbrev pub AsByPath : (file : ℕ) → (last : Path) → List PathPut → List Slot → Type 0
AsByPath file q qs ss = (c : Path) → In q c → slot_at (length c) ss ≡ slot_of file c qs

one_changed : (file : ℕ) (q d : Path) (qs : List PathPut) (ss : List Slot) (f : Slot → Slot) → AsByPath file q qs ss → In q d →
    (c : Path) → In q c → slot_at (length c) (changed (length d) f ss) ≡ changed_if (bytes_eq d c) f (slot_of file c qs)
one_changed file q d qs ss f up i c j = by (path_cases d c)
  where
    by : (d ≡ c) ⊎ (d ≡ c → ⊥) → slot_at (length c) (changed (length d) f ss) ≡ changed_if (bytes_eq d c) f (slot_of file c qs)
    by (inl e) =
        ap (λ (x : Path). slot_at (length c) (changed (length x) f ss)) e ∙ slot_at-changed (length c) f ss ∙ ap f (up c j)
        ∙ ap (λ (b : Bool). changed_if b f (slot_of file c qs)) (sym (path_same d c e))
    by (inr h) =
        slot_at-other (length d) (length c) f ss (λ e. h (same_by_length q d c i j e)) ∙ up c j ∙ sym (unchanged d c f (slot_of file c qs) h)

-- an item begins
item_changed : (file : ℕ) (q p : Path) (past : List Event) (k : ItemKind) (l : ℕ) (f : Slot → Slot) (qs : List PathPut) (ss : List Slot) →
    p ≡ so_far (collection_of p) past ∷ collection_of p → Latest q past → In q (collection_of p) → Ordered p (begins p k l ∷ past) qs → AsByPath file p qs ss →
    (c : Path) → In q c → slot_at (length c) (changed (length (collection_of p)) f (take (suc (length (collection_of p))) ss)) ≡ changed_if (bytes_eq (collection_of p) c) f (slot_of file c qs)
item_changed file q p past k l f qs ss e h i o up c j = by (path_cases d c)
  where
    d : Path
    d = collection_of p

    below : In p d
    below = subst (λ (x : Path). In x d) (sym e) (inside_more (so_far d past) d d (in_itself d))

    kept : (x : Path) → In q x → length x ≤ length d → slot_at (length x) (take (suc (length d)) ss) ≡ slot_of file x qs
    kept x y s = slot_at-kept (suc (length d)) (length x) ss (omega (arith, s)) ∙ up x (in_through p d x below (in_by_length q d x i y s))

    apart : (d ≡ c → ⊥) → (length d < length c) ⊎ (length c ≤ length d) → slot_at (length c) (changed (length d) f (take (suc (length d)) ss)) ≡ slot_of file c qs
    apart n (inl s) =
        slot_at-other (length d) (length c) f (take (suc (length d)) ss) (λ z. omega (arith, s, z)) ∙ slot_at-left (suc (length d)) (length c) ss s
        ∙ sym (slot_gone file p (begins p k l ∷ past) qs o (latest_item q p k l past e h i) c (gone_item q c p k l past e h j i s))
    apart n (inr s) = slot_at-other (length d) (length c) f (take (suc (length d)) ss) (λ z. n (same_by_length q d c i j z)) ∙ kept c j s

    by : (d ≡ c) ⊎ (d ≡ c → ⊥) → slot_at (length c) (changed (length d) f (take (suc (length d)) ss)) ≡ changed_if (bytes_eq d c) f (slot_of file c qs)
    by (inl z) =
        ap (λ (x : Path). slot_at (length x) (changed (length d) f (take (suc (length d)) ss))) (sym z)
        ∙ slot_at-changed (length d) f (take (suc (length d)) ss) ∙ ap f (kept d i (omega arith))
        ∙ ap (λ (x : Path). f (slot_of file x qs)) z ∙ ap (λ (b : Bool). changed_if b f (slot_of file c qs)) (sym (path_same d c z))
    by (inr n) = apart n (cases_lt (length d) (length c)) ∙ sym (unchanged d c f (slot_of file c qs) n)

item_level : (p : Path) (n : ℕ) → p ≡ n ∷ collection_of p → suc (length (collection_of p)) ≡ length p
item_level p n e = sym (ap length e)

-- ---- all

pub slots_by_path : (file : ℕ) (q : Path) (past : List Event) (qs : List PathPut) → Ordered q past qs → Latest q past → AsByPath file q qs (built file (each by_level qs))
slots_by_path file q past [] o h c i = slot_at-none (length c)
slots_by_path file q past (item_put p k l key w ns ∷ qs) o h c i =
    let ss : List Slot = built file (each by_level qs) in
    let up : AsByPath file p qs ss = slots_by_path file p (begins p k l ∷ past) qs o.2 (latest_item q p k l past o.1 h o.0) in
    let own : slot_at (suc (length (collection_of p))) ss ≡ slot_of file p qs = ap (λ (n : ℕ). slot_at n ss) (item_level p (so_far (collection_of p) past) o.1) ∙ up p (in_itself p) in
    ap (λ (s : Slot). slot_at (length c) (changed (length (collection_of p)) (with_part (a_node (item_with file k l key w ns s))) (take (suc (length (collection_of p))) ss))) own
    ∙ item_changed file q p past k l (with_part (a_node (item_with file k l key w ns (slot_of file p qs)))) qs ss o.1 h o.0 o.2 up c i
slots_by_path file q past (beside_put p l s ∷ qs) o h c i =
    ap (λ (n : ℕ). slot_at (length c) (changed n (with_beside file l s) (built file (each by_level qs)))) o.1
    ∙ one_changed file q p qs (built file (each by_level qs)) (with_beside file l s) (slots_by_path file q past qs o.2 h) o.0 c i
slots_by_path file q past (mark_put d l s ∷ qs) o h c i =
    one_changed file q d qs (built file (each by_level qs)) (with_part (a_mark l s)) (slots_by_path file q past qs o.1 h) o.0 c i
