-- The reader's loop, a token at a time.
use Rattle.std.proofs.Common.{◌≡◌, ℕ, ◌+◌, ◌<◌, ◌≤◌, List, [], ◌∷◌, ◌++◌, length, get_or, drop, take, Some, None, refl, sym, ap, ◌∙◌, subst, inl, inr, arith, add-one, drop-cons}
use Rattle.std.specs.Prelude.{suc, Bool, true, false, if◌then◌else◌}
use Rattle.std.proofs.lemmas.List.{drop_all, take_more, take-append-drop, append_cancel_right}
use Rattle.ll.specs.Grammar.{Parses, Front}
use Rattle.ll.specs.Machine as ll
use Rattle.ll.specs.Machine.{Verdict, Whole, Unfinished, Form, Deep}
use Rattle.ll.proofs.Complete.{took}
use Rattle.ll.proofs.Judge.{Judged, judged, reads_text, refuses_form, refuses_deep}
use Rattle.star_grammar.specs.declared.start.Stand.{Stand}
use Rattle.star_grammar.specs.declared.start.Start.{Start}
use Rattle.star_grammar.specs.declared.start.Start.TheVariants as start
use Rattle.star_grammar.specs.declared.token.Token.{Token}
use Rattle.star_grammar.specs.Language.{language, Value, kind_of_token}
use Rattle.star_grammar.specs.Machine.{tables}
use Rattle.star_grammar.specs.Reading.{max_height, entry_of, empty_of, IsRead, IsFormAt, IsDeepAt, opens_more, too_deep, code_form, Refuses}
use Rattle.star_grammar.specs.Standing.{stands, stand_after, at_first}
use Rattle.star_grammar.specs.Tokens.{ends}
use Rattle.star_grammar.proofs.Checked.{looks, consistent, ended}
use Rattle.star_grammar.proofs.Ending.{is_all}
use Rattle.star_grammar.proofs.Fills.{risen, completes}
use Rattle.star_machine.specs.declared.pending.Item.{Item}
use Rattle.star_read.specs.Answers.{refusal_at}
use Rattle.star_machine.specs.Pending.{begun, item_of, items_of}
use Rattle.star_machine.specs.Turns.{next}
use Rattle.star_read.proofs.Anchored.{Anchored, AnchoredAt, steps, is_unfinished}

abbrev pub read : List Token → List Item → Value → Verdict Token Value
read ts items v = ll.read language tables max_height ts (items_of items) v

-- what the machine answers
abbrev pub read_all : Start → List Token → Verdict Token Value
read_all s ts = read ts (begun s) (empty_of s)

low : (s : Start) → tables.least (items_of (begun s)) (empty_of s) ≤ max_height
low start.Expr = omega arith
low s = omega arith

pub judge : (s : Start) (ts : List Token) → Judged language (entry_of s) max_height ts (read_all s ts)
judge s ts = judged language tables looks consistent risen completes (entry_of s) (ended s) max_height ts (low s)

pub reads : (s : Start) (ts : List Token) (w : Value) → Parses language (entry_of s) max_height ts w → read_all s ts ≡ Whole w
reads s ts w p = reads_text language tables looks consistent risen completes (entry_of s) (ended s) max_height ts w p

-- ---- where a reader stands

stands_more : (s : Start) (st : Stand) (before : List Token) (k : Token) → stands s st (before ++ k ∷ []) ≡ stand_after s (stands s st before) (kind_of_token k.kind) k.line
stands_more s st [] k = refl
stands_more s st (j ∷ js) k = stands_more s (stand_after s st (kind_of_token j.kind) j.line) js k

pub form_refused : (s : Start) (ts before : List Token) (k : Token) (after : List Token) → ts ≡ before ++ k ∷ after → IsFormAt s before k → Refuses s ts (refusal_at (stands s at_first before) k)
form_refused s ts before k after same f = on (opens_more s before k) refl
  where
    on : (b : Bool) → opens_more s before k ≡ b → Refuses s ts (if b then too_deep k.line else code_form k.line)
    on true e = (before, k, after, same, inl (refl, e, f))
    on false e = (before, k, after, same, (refl, e, f))

pub deep_refused : (s : Start) (ts before : List Token) (k : Token) (after : List Token) → ts ≡ before ++ k ∷ after → IsDeepAt s before k
    → Refuses s ts (too_deep (stand_after s (stands s at_first before) (kind_of_token k.kind) k.line).line)
deep_refused s ts before k after same d = (before, k, after, same, inr (ap (λ (st : Stand). st.line) (sym (stands_more s at_first before k)), d))

-- ---- one token

from_here : (xs : List Token) (i : ℕ) (k : Token) → i < length xs → k ≡ get_or xs i k → drop i xs ≡ k ∷ drop (i + 1) xs
from_here xs i k lt e = rw (add-one, drop-cons xs i k lt) (ap (λ x. x ∷ drop (suc i) xs) (sym e))

up_to : (xs : List Token) (i : ℕ) (k : Token) → i < length xs → k ≡ get_or xs i k → take (i + 1) xs ≡ take i xs ++ k ∷ []
up_to xs i k lt e = take_more xs i k lt ∙ ap (λ x. take i xs ++ x ∷ []) (sym e)

around : (xs : List Token) (i : ℕ) (k : Token) → i < length xs → k ≡ get_or xs i k → xs ≡ take i xs ++ k ∷ drop (i + 1) xs
around xs i k lt e = sym (take-append-drop i xs) ∙ ap (λ l. take i xs ++ l) (from_here xs i k lt e)

pub same_head : (a b : Token) (xs ys : List Token) → a ∷ xs ≡ b ∷ ys → (a ≡ b) × (xs ≡ ys)
same_head a b xs ys e = (cc, cc)

module _ (s : Start) (ts : List Token) (i : ℕ) (k : Token) (items : List Item) (v : Value) (lt : i < length ts) (is : k ≡ get_or ts i k) (r : read (drop i ts) items v ≡ read_all s ts) where
  here : read (k ∷ drop (i + 1) ts) items v ≡ read_all s ts
  here = ap (λ l. read l items v) (sym (from_here ts i k lt is)) ∙ r

  pub turn : (after : List Item) (w : Value) → next k items v ≡ Some (ll.state language (items_of after) w) → tables.least (items_of after) w ≤ max_height → read (drop (i + 1) ts) after w ≡ read_all s ts
  turn after w e low = sym (took language tables looks consistent risen max_height k (drop (i + 1) ts) (items_of items) v (ll.state language (items_of after) w) e low) ∙ here

  -- what stands before the refused token
  same_before : (before : List Token) (j : Token) (ks : List Token) → k ∷ drop (i + 1) ts ≡ j ∷ ks → ts ≡ before ++ j ∷ ks → before ≡ take i ts
  same_before before j ks e f = append_cancel_right before (take i ts) (j ∷ ks) (sym f ∙ around ts i k lt is ∙ ap (λ l. take i ts ++ l) e)

  pub is_form : next k items v ≡ None → IsFormAt s (take i ts) k
  is_form e =
      let form : read_all s ts ≡ Form (k ∷ drop (i + 1) ts) = sym here ∙ refuses_form language tables looks consistent risen completes (entry_of s) (ended s) max_height k (drop (i + 1) ts) (items_of items) v e in
      let j : Judged language (entry_of s) max_height ts (Form (k ∷ drop (i + 1) ts)) = subst (Judged language (entry_of s) max_height ts) form (judge s ts) in
      let b : j.0 ≡ take i ts = same_before j.0 j.1 j.2 j.3 j.4 in
      let h : k ≡ j.1 = (same_head k j.1 (drop (i + 1) ts) j.2 j.3).0 in
      subst (λ x. IsFormAt s (take i ts) x) (sym h) (subst (λ l. IsFormAt s l j.1) b j.5)

  pub is_deep : (after : List Item) (w : Value) → next k items v ≡ Some (ll.state language (items_of after) w) → max_height < tables.least (items_of after) w → IsDeepAt s (take i ts) k
  is_deep after w e high =
      let deep : read_all s ts ≡ Deep (k ∷ drop (i + 1) ts) = sym here ∙ refuses_deep language tables looks consistent risen completes (entry_of s) (ended s) max_height k (drop (i + 1) ts) (items_of items) v (ll.state language (items_of after) w) e high in
      let j : Judged language (entry_of s) max_height ts (Deep (k ∷ drop (i + 1) ts)) = subst (Judged language (entry_of s) max_height ts) deep (judge s ts) in
      let b : j.0 ≡ take i ts = same_before j.0 j.1 j.2 j.3 j.4 in
      let h : k ≡ j.1 = (same_head k j.1 (drop (i + 1) ts) j.2 j.3).0 in
      subst (λ x. IsDeepAt s (take i ts) x) (sym h) (subst (λ l. IsDeepAt s l j.1) b j.5)

  pub refused_form : (st : Stand) → st ≡ stands s at_first (take i ts) → next k items v ≡ None → Refuses s ts (refusal_at st k)
  refused_form st at e = subst (λ x. Refuses s ts (refusal_at x k)) (sym at) (form_refused s ts (take i ts) k (drop (i + 1) ts) (around ts i k lt is) (is_form e))

  pub refused_deep : (st : Stand) (after : List Item) (w : Value) → st ≡ stands s at_first (take i ts) → next k items v ≡ Some (ll.state language (items_of after) w) → max_height < tables.least (items_of after) w
      → Refuses s ts (too_deep (stand_after s st (kind_of_token k.kind) k.line).line)
  refused_deep st after w at e high =
      subst (λ x. Refuses s ts (too_deep (stand_after s x (kind_of_token k.kind) k.line).line)) (sym at) (deep_refused s ts (take i ts) k (drop (i + 1) ts) (around ts i k lt is) (is_deep after w e high))

  pub stands_on : (st : Stand) → st ≡ stands s at_first (take i ts) → stand_after s st (kind_of_token k.kind) k.line ≡ stands s at_first (take (i + 1) ts)
  stands_on st at = ap (λ x. stand_after s x (kind_of_token k.kind) k.line) at ∙ sym (stands_more s at_first (take i ts) k) ∙ ap (stands s at_first) (sym (up_to ts i k lt is))

pub still_anchored : (k : Token) (items after : List Item) (v w : Value) → Anchored language (items_of items) → next k items v ≡ Some (ll.state language (items_of after) w) → Anchored language (items_of after)
still_anchored k items after v w a e = subst (AnchoredAt language) e (steps language tables (ll.turns language tables (items_of items)) k (items_of items) v a)

-- ---- the end

at_end : (items : List Item) (v : Value) → read [] items v ≡ ll.finished language tables (items_of items) v
unfolding ll.read
at_end items v = refl

pub whole : (s : Start) (ts : List Token) (i : ℕ) (v : Value) → length ts ≤ i → read (drop i ts) [] v ≡ read_all s ts → IsRead s ts v.parts
whole s ts i v le r =
    let all : read_all s ts ≡ Whole v = sym r ∙ ap (λ l. read l [] v) (drop_all i ts le) ∙ at_end [] v in
    (v, refl, subst (Judged language (entry_of s) max_height ts) all (judge s ts))

never_unfinished : (w : Value) → ◌≡◌ {A = Verdict Token Value} Unfinished (Whole w) → ⊥
never_unfinished w e = cc

pub not_unfinished : (s : Start) (ts : List Token) → ends ts ≡ true → read_all s ts ≡ Unfinished → ⊥
not_unfinished s ts e u =
    let f : Front language (entry_of s) max_height ts = subst (Judged language (entry_of s) max_height ts) u (judge s ts) in
    let w = is_all s max_height ts e f in
    never_unfinished w.0 (sym u ∙ reads s ts w.0 w.1)

pub all_read : (s : Start) (ts : List Token) (i : ℕ) (x : Item) (items : List Item) (v : Value) → ends ts ≡ true → length ts ≤ i → Anchored language (items_of (x ∷ items))
    → read (drop i ts) (x ∷ items) v ≡ read_all s ts → ⊥
all_read s ts i x items v e le a r =
    not_unfinished s ts e (sym r ∙ ap (λ l. read l (x ∷ items) v) (drop_all i ts le) ∙ at_end (x ∷ items) v ∙ is_unfinished language tables (item_of x) (items_of items) v a)
