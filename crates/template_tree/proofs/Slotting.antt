-- Slots, one for each level.
use Rattle.std.proofs.Common.{◌≡◌, ℕ, zero, suc, ◌+◌, ◌<◌, ◌≤◌, List, [], ◌∷◌, ◌++◌, length, take, get_or, set, Option, Some, None, refl, ap, sym, ◌∙◌, append_assoc, arith}
use Rattle.std.proofs.lemmas.List.{length-map, map-append}
use Rattle.std.specs.Prelude.{option_map, OnOk, Result, Ok, Err}
use Rattle.ytt_base.specs.declared.tree.Key.{Key}
use Rattle.ytt_base.specs.Outcomes.{place_at}
use Rattle.ytt_base.specs.View.{key_of}
use Rattle.notes_read.specs.declared.comment.Comment.{Comment}
use Rattle.notes_read.specs.View.{said_of}
use Rattle.star_tree.specs.declared.code.Expr.{Expr}
use Rattle.star_tree.specs.View.{item_kind_of}
use Rattle.template_events.specs.declared.event.Start.{Start}
use Rattle.template_events.specs.View.{shape_of}
use Rattle.star_tree.specs.Whole.{expr_of, exprs_of}
use Rattle.template_pass.specs.Building as build
use Rattle.template_pass.specs.Building.{built, built_step, changed, fresh, notes_then, slot_at}
use Rattle.template_spec.specs.Nesting.{a_node, key_part, value_or}
use Rattle.template_spec.specs.Template.{Content, Item, note}
use Rattle.template_tree.specs.declared.put.Put.{Put}
use Rattle.template_tree.specs.declared.put.Put.TheVariants as put
use Rattle.template_tree.specs.declared.slots.Slot.{Slot}
use Rattle.template_tree.specs.declared.tree.TNote.{TNote}
use Rattle.template_tree.specs.Puts.{befores_of, put_of, puts_of}
use Rattle.template_tree.specs.Slots.{same_slot, slot_of, slots_of}
use Rattle.template_tree.specs.View.{in_content, in_key, notes_of}

-- ---- one slot

pub fresh_past : (d : ℕ) (ss : List build.Slot) → length ss ≤ d → slot_at d ss ≡ fresh
fresh_past zero [] le = refl
fresh_past (suc d) [] le = refl
fresh_past zero (s ∷ ss) le = absurd (omega arith)
fresh_past (suc d) (s ∷ ss) le = fresh_past d ss (omega arith)

pub changed_fresh : (d : ℕ) (f : build.Slot → build.Slot) (ss : List build.Slot) → length ss ≤ d → changed d f (ss ++ fresh ∷ []) ≡ changed d f ss
changed_fresh zero f [] le = refl
changed_fresh (suc d) f [] le = refl
changed_fresh zero f (s ∷ ss) le = absurd (omega arith)
changed_fresh (suc d) f (s ∷ ss) le = ap (λ (ts : List build.Slot). s ∷ ts) (changed_fresh d f ss (omega arith))

pub changed_set : (file d : ℕ) (f : build.Slot → build.Slot) (ss : List Slot) (x y : Slot) → d < length ss → slot_of file x ≡ f (slot_of file (get_or ss d y)) → slots_of file (set ss d x) ≡ changed d f (slots_of file ss)
changed_set file zero f [] x y lt e = absurd (omega arith)
changed_set file (suc d) f [] x y lt e = absurd (omega arith)
changed_set file zero f (s ∷ ss) x y lt e = ap (λ (t : build.Slot). t ∷ slots_of file ss) e
changed_set file (suc d) f (s ∷ ss) x y lt e = ap (λ (ts : List build.Slot). slot_of file s ∷ ts) (changed_set file d f ss x y (omega arith) e)

-- ---- the last slots are taken off

slot_before : (d : ℕ) (ss : List build.Slot) (s : build.Slot) → d < length ss → slot_at d (ss ++ s ∷ []) ≡ slot_at d ss
slot_before zero [] s lt = absurd (omega arith)
slot_before (suc d) [] s lt = absurd (omega arith)
slot_before zero (t ∷ ts) s lt = refl
slot_before (suc d) (t ∷ ts) s lt = slot_before d ts s (omega arith)

slot_last : (d : ℕ) (ss : List build.Slot) (s : build.Slot) → length ss ≡ d → slot_at d (ss ++ s ∷ []) ≡ s
slot_last zero [] s e = refl
slot_last (suc d) [] s e = absurd (omega arith)
slot_last zero (t ∷ ts) s e = absurd (omega arith)
slot_last (suc d) (t ∷ ts) s e = slot_last d ts s (omega arith)

take_before : (d : ℕ) (ss : List build.Slot) (s : build.Slot) → d ≤ length ss → take d (ss ++ s ∷ []) ≡ take d ss
take_before zero ss s le = refl
take_before (suc d) [] s le = absurd (omega arith)
take_before (suc d) (t ∷ ts) s le = ap (λ (us : List build.Slot). t ∷ us) (take_before d ts s (omega arith))

take_short : (d : ℕ) (ss : List build.Slot) → length ss ≤ d → take d ss ≡ ss
take_short zero [] le = refl
take_short (suc d) [] le = refl
take_short zero (s ∷ ss) le = absurd (omega arith)
take_short (suc d) (s ∷ ss) le = ap (λ (ts : List build.Slot). s ∷ ts) (take_short d ss (omega arith))

-- where these slots are left of all, and this one was taken last
pub record IsCut (file d : ℕ) (all left : List Slot) (taken : Slot) : Type 0 where
  pub rest : take d (slots_of file left) ≡ take d (slots_of file all)
  pub there : d < length left → slot_at d (slots_of file left) ≡ slot_at d (slots_of file all)
  pub gone : length left ≤ d → slot_of file taken ≡ slot_at d (slots_of file all)

held_length : (file : ℕ) (ss : List Slot) → length (slots_of file ss) ≡ length ss
held_length file ss = length-map ss (slot_of file)

length_pushed : {A : Type 0} (xs : List A) (x : A) → length (xs ++ x ∷ []) ≡ length xs + 1
length_pushed [] x = refl
length_pushed (y ∷ xs) x = let h : length (xs ++ x ∷ []) ≡ length xs + 1 = length_pushed xs x in omega arith

pub cut_begins : (file d : ℕ) (all : List Slot) (taken : Slot) → slot_of file taken ≡ fresh → IsCut file d all all taken
cut_begins file d all taken e = record {
  rest = refl;
  there = λ lt. refl;
  gone = λ le. let short : length (slots_of file all) ≤ d = omega (arith, held_length file all) in e ∙ sym (fresh_past d (slots_of file all) short);
}

pub cut_goes_on : (file d : ℕ) (all left left2 : List Slot) (taken s : Slot) → IsCut file d all left taken → d < length left → left ≡ left2 ++ s ∷ [] → IsCut file d all left2 s
cut_goes_on file d all left left2 taken s w more e =
    let seen : slots_of file left ≡ slots_of file left2 ++ slot_of file s ∷ [] = ap (slots_of file) e ∙ map-append (slot_of file) left2 (s ∷ []) in
    let one_less : length left ≡ length left2 + 1 = ap length e ∙ length_pushed left2 s in
    record {
      rest = let le : d ≤ length (slots_of file left2) = omega (arith, held_length file left2) in sym (take_before d (slots_of file left2) (slot_of file s) le) ∙ ap (take d) (sym seen) ∙ w.rest;
      there = λ lt. let l : d < length (slots_of file left2) = omega (arith, held_length file left2) in sym (slot_before d (slots_of file left2) (slot_of file s) l) ∙ ap (slot_at d) (sym seen) ∙ w.there more;
      gone = λ le. let l : length (slots_of file left2) ≡ d = omega (arith, held_length file left2) in sym (slot_last d (slots_of file left2) (slot_of file s) l) ∙ ap (slot_at d) (sym seen) ∙ w.there more;
    }

pub cut_ends : (file d : ℕ) (all left : List Slot) (taken : Slot) → IsCut file d all left taken → length left ≤ d → slots_of file left ≡ take d (slots_of file all)
cut_ends file d all left taken w le = let l : length (slots_of file left) ≤ d = omega (arith, held_length file left) in sym (take_short d (slots_of file left) l) ∙ w.rest

-- ---- items

pub notes_join : (file : ℕ) (ns ms : List TNote) → notes_of file (ns ++ ms) ≡ notes_then file (befores_of file ns) (notes_of file ms)
notes_join file [] ms = refl
notes_join file (n ∷ ns) ms = ap (note (place_at file n.line) n.name (exprs_of file n.args)) (notes_join file ns ms)

pub key_is : (k : Option Key) → in_key k ≡ key_part (option_map key_of k)
key_is None = refl
key_is (Some k) = refl

pub value_is : (file : ℕ) (e : Option Expr) (c : Content) → in_content file e c ≡ value_or (option_map (expr_of file) e) c
value_is file None c = refl
value_is file (Some e) c = refl

-- ---- all of what rows put

pub record IsBuilding (file : ℕ) (all left : List Put) (slots : List build.Slot) : Type 0 where
  pub done : List Put
  pub whole : all ≡ left ++ done
  pub is_built : slots ≡ built file (puts_of file done)

append_nil : (ps : List Put) → ps ++ [] ≡ ps
append_nil [] = refl
append_nil (p ∷ ps) = ap (λ qs. p ∷ qs) (append_nil ps)

pub building_begins : (file : ℕ) (all : List Put) (slots : List Slot) → slots ≡ [] → IsBuilding file all all (slots_of file slots)
building_begins file all slots e = record { done = []; whole = sym (append_nil all); is_built = ap (slots_of file) e }

pub building_goes_on : (file : ℕ) (all left left2 : List Put) (p : Put) (slots slots2 : List build.Slot) → IsBuilding file all left slots → left ≡ left2 ++ p ∷ [] → slots2 ≡ built_step file (put_of file p) slots
    → IsBuilding file all left2 slots2
building_goes_on file all left left2 p slots slots2 w e h = record {
  done = p ∷ w.done;
  whole = w.whole ∙ ap (λ (ps : List Put). ps ++ w.done) e ∙ append_assoc left2 (p ∷ []) w.done;
  is_built = h ∙ ap (built_step file (put_of file p)) w.is_built;
}

pub building_ends : (file : ℕ) (all left : List Put) (slots : List build.Slot) → IsBuilding file all left slots → left ≡ [] → slots ≡ built file (puts_of file all)
building_ends file all left slots w e = w.is_built ∙ ap (λ (ps : List Put). built file (puts_of file ps)) (ap (λ (ps : List Put). ps ++ w.done) (sym e) ∙ sym w.whole)

-- ---- slots are added and kept

pub reach_goes_on : (file d : ℕ) (f : build.Slot → build.Slot) (ss ts : List Slot) (s : Slot) → ts ≡ ss ++ s ∷ [] → slot_of file s ≡ fresh → length ss ≤ d → changed d f (slots_of file ts) ≡ changed d f (slots_of file ss)
reach_goes_on file d f ss ts s e h le =
    let short : length (slots_of file ss) ≤ d = omega (arith, held_length file ss) in
    ap (λ (us : List Slot). changed d f (slots_of file us)) e ∙ ap (changed d f) (map-append (slot_of file) ss (s ∷ []) ∙ ap (λ (x : build.Slot). slots_of file ss ++ x ∷ []) h) ∙ changed_fresh d f (slots_of file ss) short

pub same_changed : (file d : ℕ) (ss : List Slot) → d < length ss → changed d same_slot (slots_of file ss) ≡ slots_of file ss
same_changed file d [] lt = absurd (omega arith)
same_changed file zero (s ∷ ss) lt = refl
same_changed file (suc d) (s ∷ ss) lt = ap (λ (ts : List build.Slot). slot_of file s ∷ ts) (same_changed file d ss (omega arith))

pub slot_changed : (file d : ℕ) (f : build.Slot → build.Slot) (ss old : List Slot) (x here : Slot) → d < length ss → here ≡ get_or ss d here → slot_of file x ≡ f (slot_of file here)
    → changed d f (slots_of file ss) ≡ changed d f (slots_of file old) → slots_of file (set ss d x) ≡ changed d f (slots_of file old)
slot_changed file d f ss old x here lt at e same = changed_set file d f ss x here lt (e ∙ ap (λ (s : Slot). f (slot_of file s)) at) ∙ same

-- ---- what a call gives

pub on_ok : {A E : Type 0} (r : Result A E) (P Q : Type 0) → (P → Q) → OnOk r P → OnOk r Q
on_ok (Ok x) P Q f h = f h
on_ok (Err e) P Q f h = tt

pub on_both : {A E : Type 0} (r : Result A E) (P Q S : Type 0) → (P → Q → S) → OnOk r P → OnOk r Q → OnOk r S
on_both (Ok x) P Q S f h k = f h k
on_both (Err e) P Q S f h k = tt

one_more : (d b : ℕ) → b ≡ d + 1 → b ≡ suc d
one_more d b e = omega arith

pub front_item : (file : ℕ) (p : Put) (s : Start) (ns : List TNote) (old cut new : List Slot) (slot : Slot) (below : ℕ) (i : Item) → p ≡ put.Item s ns → below ≡ s.level + 1
    → slot_of file slot ≡ slot_at below (slots_of file old) → slots_of file cut ≡ take below (slots_of file old)
    → i ≡ build.item_with file (item_kind_of s.kind) s.line (option_map key_of s.key) (shape_of s.written) (befores_of file ns) (slot_of file slot)
    → slots_of file new ≡ changed s.level (build.with_part (a_node i)) (slots_of file cut) → slots_of file new ≡ built_step file (put_of file p) (slots_of file old)
front_item file p s ns old cut new slot below i e b h k j m =
    let same = one_more s.level below b in
    let made = ap (build.item_with file (item_kind_of s.kind) s.line (option_map key_of s.key) (shape_of s.written) (befores_of file ns)) (h ∙ ap (λ d. slot_at d (slots_of file old)) same) in
    m ∙ (λ x. changed s.level (build.with_part (a_node ((j ∙ made) x))) ((k ∙ ap (λ d. take d (slots_of file old)) same) x)) ∙ ap (λ (q : Put). built_step file (put_of file q) (slots_of file old)) (sym e)

pub front_beside : (file : ℕ) (p : Put) (level line : ℕ) (comment : Comment) (old new : List Slot) (below : ℕ) → p ≡ put.Beside level line comment → below ≡ level + 1
    → slots_of file new ≡ changed below (build.with_beside file line (said_of file comment)) (slots_of file old) → slots_of file new ≡ built_step file (put_of file p) (slots_of file old)
front_beside file p level line comment old new below e b m =
    m ∙ ap (λ d. changed d (build.with_beside file line (said_of file comment)) (slots_of file old)) (one_more level below b) ∙ ap (λ (q : Put). built_step file (put_of file q) (slots_of file old)) (sym e)
