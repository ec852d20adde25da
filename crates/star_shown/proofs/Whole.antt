-- Whole values.
use Rattle.star_steps.proofs.Names.{◌≡◌, ℕ, List, ◌++◌, append_assoc, codes, refl, ap, ◌∙◌, Place, State, Ending, Result, Stop, Meets, meets_same, Value, View, value_of}
use Rattle.value_spec.specs.Values as plain
use Rattle.text_spec.specs.Shown.{repr_of}
use Rattle.star_shown.specs.Pushes.{behind, showing}

abbrev S : Type 0
S = State (Unit {0})

pub repr_showing : (p : Place) (v : plain.Value) (front : List ℕ) (s : S) → behind front (repr_of p v) s ≡ behind front (showing 100 p v) s
unfolding showing
repr_showing p v front s = refl

-- what a value of this kind gives
pub shown_as : (a : View) (n : ℕ) (p : Place) (v w : Value) (front new : List ℕ) (r : Result (Unit {0}) Stop) (t s : S) (o : Ending (Unit {0}) (List ℕ)) →
    v ≡ w → behind front (showing n p (value_of a w)) s ≡ o → Meets (λ u. new) r t o → Meets (λ u. new) r t (behind front (showing n p (value_of a v)) s)
shown_as a n p v w front new r t s o e same m = meets_same (λ u. new) r t o _ (ap (λ v. behind front (showing n p (value_of a v)) s) e ∙ same) m

-- the text of a range, piece by piece
pub range_pieces : (old l m n o p q x y z : List ℕ) → l ≡ old ++ codes "range(" → m ≡ l ++ x → n ≡ m ++ codes ", " → o ≡ n ++ y → p ≡ o ++ z → q ≡ p ++ codes ")" → q ≡ old ++ (codes "range(" ++ (x ++ (codes ", " ++ (y ++ (z ++ codes ")")))))
range_pieces old l m n o p q x y z a b c d e f =
    f ∙ ap (λ t. t ++ codes ")") (e ∙ ap (λ t. t ++ z) (d ∙ ap (λ t. t ++ y) (c ∙ ap (λ t. t ++ codes ", ") (b ∙ ap (λ t. t ++ x) a)))) ∙ simp append_assoc
