-- Scalars in quotes line by line.
use Rattle.std.proofs.Common.{◌≡◌, ℕ, ◌≤◌, Bool, false, ◌==◌, List, [], ◌∷◌, length, drop, Ok, Err, refl, sym, ap, ◌∙◌, arith, length-drop}
use Rattle.std.proofs.lemmas.List.Sums.{sum_by-cons}
use Rattle.ytt_base.specs.declared.fault.FaultKind.TheVariants as kind
use Rattle.ytt_base.specs.declared.fault.Place.{Place}
use Rattle.ytt_base.specs.Outcomes.{Outcome, ◌>>=◌}
use Rattle.yaml_spec.specs.Bytes.{quote, first, skip_white}
use Rattle.yaml_spec.specs.Flow.{size}
use Rattle.yaml_spec.specs.Folding.{Part, fold_parts}
use Rattle.yaml_spec.specs.Lines.{Line}
use Rattle.yaml_spec.specs.Quotes.{Cursor, Scan, open_end, closed, wrong, scan, parts, Quote}
use Rattle.yaml_spec.specs.Refusals.{refused}
use Rattle.yaml_quotes.specs.declared.folding.Folded.{Folded}
use Rattle.yaml_quotes.specs.Joining.{with_parts, part_of}
use Rattle.yaml_text.proofs.Whites.{skip_white-length}
use Rattle.ytt_laws.proofs.Chains.{then_same}

-- what the text so far and the parts that are left make
abbrev pub folded_with : Folded → List Part × Cursor → Outcome (List ℕ × Cursor)
folded_with f r = Ok (with_parts f r.0, r.1)

-- At a place, the parts so far are folded, and its text and the lines below it give what the whole quote gives.
pub record IsReading (open_place : Place) (is_double : Bool) (start : Cursor) (folded : Folded) (here : Cursor) : Type 0 where
  pub gives : (parts open_place is_double here.place here.text here.below >>= folded_with folded) ≡ Quote open_place start
  pub within : size here ≤ size start

pub reading-start : (open_place : Place) (is_double : Bool) (start : Cursor) (folded : Folded) (rest : List ℕ) → is_double ≡ (first start.text == quote) → rest ≡ drop 1 start.text
    → ((ps : List Part) → with_parts folded ps ≡ fold_parts ps) → IsReading open_place is_double start folded (record start { text = rest })
unfolding Quote
reading-start open_place is_double start folded rest d b new = record {
  gives =
      rw (d, b)
      (then_same (parts open_place (first start.text == quote) start.place (drop 1 start.text) start.below) (folded_with folded) (λ (r : List Part × Cursor). Ok (fold_parts r.0, r.1)) (λ (r : List Part × Cursor). ap (λ t. Ok (t, r.1)) (new r.0)));
  within = rw b (omega (arith, length-drop {A = ℕ}));
}

parts-wrong : (opener here : Place) (is_double : Bool) (t : List ℕ) (ls : List Line) → scan is_double t ≡ wrong → parts opener is_double here t ls ≡ refused kind.YamlForm here
unfolding parts
parts-wrong opener here is_double t [] h = rw (parts, h) refl
parts-wrong opener here is_double t (l ∷ ls) h = rw (parts, h) refl

parts-closed : (opener here : Place) (is_double : Bool) (t : List ℕ) (ls : List Line) (u rest : List ℕ) → scan is_double t ≡ closed u rest
    → parts opener is_double here t ls ≡ Ok (part_of u false ∷ [], record { place = here; text = rest; below = ls })
unfolding parts
parts-closed opener here is_double t [] u rest h = rw (parts, h) refl
parts-closed opener here is_double t (l ∷ ls) u rest h = rw (parts, h) refl

parts-end : (opener here : Place) (is_double : Bool) (t : List ℕ) (p : Part) → scan is_double t ≡ open_end p → parts opener is_double here t [] ≡ refused kind.YamlForm opener
unfolding parts
parts-end opener here is_double t p h = rw (parts, h) refl

parts-more : (opener here : Place) (is_double : Bool) (t : List ℕ) (p : Part) (l : Line) (ls : List Line) → scan is_double t ≡ open_end p
    → parts opener is_double here t (l ∷ ls) ≡ (parts opener is_double l.place (skip_white l.text) ls >>= (λ r. Ok (p ∷ r.0, r.1)))
unfolding parts
parts-more opener here is_double t p l ls h = rw (parts, h) refl

-- there is a part
on-parts : {B : Type 0} (p : Part) (o : Outcome (List Part × Cursor)) (f g : List Part × Cursor → Outcome B) → ((q : Part) (ps : List Part) (c : Cursor) → f (q ∷ ps, c) ≡ g (q ∷ ps, c))
    → (o >>= (λ r. Ok (p ∷ r.0, r.1)) >>= f) ≡ (o >>= (λ r. Ok (p ∷ r.0, r.1)) >>= g)
on-parts p (Ok r) f g h = h p r.0 r.1
on-parts p (Err e) f g h = refl

some-parts : {B : Type 0} (opener here : Place) (is_double : Bool) (t : List ℕ) (ls : List Line) (f g : List Part × Cursor → Outcome B) → ((q : Part) (ps : List Part) (c : Cursor) → f (q ∷ ps, c) ≡ g (q ∷ ps, c))
    → (parts opener is_double here t ls >>= f) ≡ (parts opener is_double here t ls >>= g)
some-parts {B} opener here is_double t ls f g h = by (scan is_double t) refl ls where
  by : (s : Scan) → scan is_double t ≡ s → (ls : List Line) → (parts opener is_double here t ls >>= f) ≡ (parts opener is_double here t ls >>= g)
  by (open_end p) e [] = rw (parts-end opener here is_double t p e) refl
  by (open_end p) e (l ∷ ls) = rw (parts-more opener here is_double t p l ls e) (on-parts p (parts opener is_double l.place (skip_white l.text) ls) f g h)
  by (closed u rest) e ls = rw (parts-closed opener here is_double t ls u rest e) (h _ _ _)
  by wrong e ls = rw (parts-wrong opener here is_double t ls e) refl

joined-binds : {B : Type 0} (p : Part) (o : Outcome (List Part × Cursor)) (f : List Part × Cursor → Outcome B) → (o >>= (λ r. Ok (p ∷ r.0, r.1)) >>= f) ≡ (o >>= (λ r. f (p ∷ r.0, r.1)))
joined-binds p (Ok r) f = refl
joined-binds p (Err e) f = refl

-- ---- what a line that is read leads to: a fault, an answer, a fault where no line is below, or the next line

module _ {open_place : Place} {is_double : Bool} {start : Cursor} {folded : Folded} (here : Cursor) (r : IsReading open_place is_double start folded here) where
  pub reading-wrong : scan is_double here.text ≡ wrong → Quote open_place start ≡ refused kind.YamlForm here.place
  reading-wrong e = sym r.gives ∙ rw (parts-wrong open_place here.place is_double here.text here.below e) refl

  pub reading-closed : (u rest : List ℕ) → scan is_double here.text ≡ closed u rest → Quote open_place start ≡ Ok (with_parts folded (part_of u false ∷ []), record here { text = rest })
  reading-closed u rest e = sym r.gives ∙ rw (parts-closed open_place here.place is_double here.text here.below u rest e) refl

  pub closed-within : (rest : List ℕ) → length rest ≤ length here.text → size (record here { text = rest }) ≤ size start
  closed-within rest h = omega (arith, h, r.within)

  pub reading-end : (p : Part) → scan is_double here.text ≡ open_end p → here.below ≡ [] → Quote open_place start ≡ refused kind.YamlForm open_place
  reading-end p e none = sym r.gives ∙ rw (none, parts-end open_place here.place is_double here.text p e) refl

  pub reading-more : (p : Part) (l : Line) (ls : List Line) (new : Folded) (next : List ℕ) → scan is_double here.text ≡ open_end p → here.below ≡ l ∷ ls → next ≡ skip_white l.text
      → ((q : Part) (ps : List Part) → with_parts folded (p ∷ q ∷ ps) ≡ with_parts new (q ∷ ps)) → IsReading open_place is_double start new (record { place = l.place; text = next; below = ls })
  reading-more p l ls new next e more n add =
      let gives = rw (more, parts-more open_place here.place is_double here.text p l ls e) at r.gives in
      let within = rw (more, sum_by-cons (λ (k : Line). length k.text) l ls) at r.within in
      record {
        gives =
            rw n
            (sym (joined-binds p (parts open_place is_double l.place (skip_white l.text) ls) (folded_with folded)
            ∙ some-parts open_place l.place is_double (skip_white l.text) ls (λ s. folded_with folded (p ∷ s.0, s.1)) (folded_with new) (λ q ps c. ap (λ t. Ok (t, c)) (add q ps)))
            ∙ gives);
        within = rw n (omega (arith, within, skip_white-length l.text));
      }
