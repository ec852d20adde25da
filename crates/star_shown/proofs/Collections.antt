-- Values that hold others, one level down.
use Rattle.star_steps.proofs.Names.{◌≡◌, ℕ, zero, suc, ℤ, List, [], ◌∷◌, ◌++◌, map as each, codes, refl, sym, ap, ◌∙◌, Place, ItemKind, State, done, give, then_do, paid, paid_by, take_steps, then_assoc, range_count, Children, body_paid, children_paid, fragment_body, values_from, closed, list_at, pairs_at}
use Rattle.code_spec.specs.Program.{document_item, pair_item, element_item}
use Rattle.value_spec.specs.Built.{below}
use Rattle.value_spec.specs.Values.{Value, Values, values_in, Fields, fields_in, tuple_value, list_value, dict_value, struct_value, range_value}
use Rattle.text_spec.specs.Shown.{all_shown, field_shown, members_shown, pair_shown, range_text, tuple_end, within}
use Rattle.star_shown.specs.Pushes.{behind, field_pushed, pair_pushed, pushed_within, showing, value_pushed}
use Rattle.star_shown.proofs.Pushing.{field_same, pair_same, value_same, within_same}

abbrev S : Type 0
S = State (Unit {0})

closed_same : (vs : List Value) → closed (values_from vs) ≡ tuple_end vs
closed_same [] = refl
closed_same (v ∷ []) = refl
closed_same (v ∷ w ∷ vs) = refl

pub tuple_below : (n : ℕ) (p : Place) (ms : Values) (vs : List Value) (end front : List ℕ) (s : S) → values_in ms ≡ vs → end ≡ closed (values_from vs) →
    behind front (showing n p (tuple_value ms)) s ≡ below p n (λ m. pushed_within (codes "(") (each (value_pushed m p) vs) end front) s
unfolding showing
tuple_below zero p ms vs end front s e h = refl
tuple_below (suc n) p ms vs end front s e h =
    ap (λ l. behind front (within (codes "(") (tuple_end l) (members_shown (showing n p) p l)) s) e
    ∙ ap (λ l. behind front (within (codes "(") l (members_shown (showing n p) p vs)) s) (sym (h ∙ closed_same vs))
    ∙ sym (within_same (value_pushed n p) (λ v. paid p (showing n p v)) (value_same n p) vs (codes "(") end front s)

pub list_below : (n : ℕ) (p : Place) (r : ℕ) (vs : List Value) (front : List ℕ) (s : S) → list_at r s.store ≡ vs →
    behind front (showing n p (list_value r)) s ≡ below p n (λ m. pushed_within (codes "[") (each (value_pushed m p) vs) (codes "]") front) s
unfolding showing
list_below zero p r vs front s e = refl
list_below (suc n) p r vs front s e =
    ap (λ l. behind front (within (codes "[") (codes "]") (members_shown (showing n p) p l)) s) e
    ∙ sym (within_same (value_pushed n p) (λ v. paid p (showing n p v)) (value_same n p) vs (codes "[") (codes "]") front s)

pub dict_below : (n : ℕ) (p : Place) (r : ℕ) (ps : List (Value × Value)) (front : List ℕ) (s : S) → pairs_at r s.store ≡ ps →
    behind front (showing n p (dict_value r)) s ≡ below p n (λ m. pushed_within (codes "{") (each (pair_pushed m p) ps) (codes "}") front) s
unfolding showing
dict_below zero p r ps front s e = refl
dict_below (suc n) p r ps front s e =
    ap (λ l. behind front (within (codes "{") (codes "}") (all_shown (each (pair_shown (showing n p) p) l))) s) e
    ∙ sym (within_same (pair_pushed n p) (pair_shown (showing n p) p) (pair_same n p) ps (codes "{") (codes "}") front s)

pub struct_below : (n : ℕ) (p : Place) (fs gs : Fields) (front : List ℕ) (s : S) → fs ≡ gs →
    behind front (showing n p (struct_value fs)) s ≡ below p n (λ m. pushed_within (codes "struct(") (each (field_pushed m p) (fields_in gs)) (codes ")") front) s
unfolding showing
struct_below zero p fs gs front s e = refl
struct_below (suc n) p fs gs front s e =
    ap (λ l. behind front (within (codes "struct(") (codes ")") (all_shown (each (field_shown (showing n p) p) (fields_in l)))) s) e
    ∙ sym (within_same (field_pushed n p) (field_shown (showing n p) p) (field_same n p) (fields_in gs) (codes "struct(") (codes ")") front s)

pub range_below : (n : ℕ) (p : Place) (v : Value) (a b d : ℤ) (front : List ℕ) (s : S) → v ≡ range_value a b d →
    behind front (showing n p v) s ≡ below p n (λ m. paid_by (range_count a b d) p (give (front ++ range_text a b d))) s
unfolding showing
range_below n p v a b d front s e = ap (λ v. behind front (showing n p v) s) e ∙ by n where
  by : (n : ℕ) → behind front (showing n p (range_value a b d)) s ≡ below p n (λ m. paid_by (range_count a b d) p (give (front ++ range_text a b d))) s
  by zero = refl
  by (suc n) = then_assoc (take_steps (range_count a b d) p s) (λ u. give (range_text a b d)) (λ t. give (front ++ t))

pub range_ends : (n : ℕ) (p : Place) (a b d : ℤ) (count : ℕ) (front new : List ℕ) (s t : S) → (n ≡ 0 → ⊥) → count ≡ range_count a b d → take_steps count p s ≡ done tt t → new ≡ front ++ range_text a b d →
    below p n (λ m. paid_by (range_count a b d) p (give (front ++ range_text a b d))) s ≡ done new t
range_ends zero p a b d count front new s t some counted taken is = absurd (some refl)
range_ends (suc n) p a b d count front new s t some counted taken is =
    (λ i. paid_by (sym counted i) p (give (sym is i)) s) ∙ ap (λ o. then_do o (λ u. give new)) taken

-- what stands in a fragment, whatever its items are
pub fragment_below : (n : ℕ) (p : Place) (k : ItemKind) (cs : Children) (s : S) → body_paid p n (fragment_body k cs) s ≡ below p n (λ m. children_paid p m cs) s
fragment_below n p document_item cs s = refl
fragment_below n p pair_item cs s = refl
fragment_below n p element_item cs s = refl
