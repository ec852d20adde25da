-- One level less for what stands in values.
use Rattle.star_steps.proofs.Names.{equal_by, range_value, ℤ, ◌≡◌, ℕ, suc, ◌-◌, Bool, true, false, if◌then◌else◌, List, [], ◌∷◌, length, refl, sym, ap, ◌∙◌, eq-eqb, arith, ne_eqb, map as each, length-map, Place, all_found, among, equality, equal_dicts, equal_members, equal_pairs, inside_at, named_values, by_members, each_sized, measured_within, order_within, State, done, give, paid, then_ext, Fields, Store, fields_in, NamedValue}
use Rattle.value_spec.specs.Values.{Value}
use Rattle.star_compare.specs.Alike.{numbers_from, alike, among_by, measure, ordered}

-- where there is a level, there is one less
pub one_less : (n : ℕ) → (n ≡ 0 → ⊥) → n ≡ suc (n - 1)
one_less n some = omega arith

members_below : (n : ℕ) (p : Place) (vs ws : List Value) (s : State (Unit {0})) → (inside_at (suc n) p).members vs ws s ≡ equal_members (alike n p) p vs ws s
unfolding alike
members_below n p vs ws s = refl

pairs_below : (n : ℕ) (p : Place) (ps qs : List (Value × Value)) (s : State (Unit {0})) → (inside_at (suc n) p).pairs ps qs s ≡ equal_dicts (alike n p) p ps qs s
unfolding alike
pairs_below n p ps qs s = refl

sized_below : (r n : ℕ) (p : Place) (vs : List Value) (s : State (Unit {0})) → measured_within r (suc n) p vs s ≡ each_sized (measure r n p) p vs s
unfolding measure
sized_below r n p vs s = refl

ordered_below : (n : ℕ) (store : Store) (vs ws : List Value) → order_within (suc n) store vs ws ≡ by_members (ordered n store) vs ws
unfolding ordered
ordered_below n store vs ws = refl

pub members_next : (n k : ℕ) (p : Place) (vs ws : List Value) (s : State (Unit {0})) → n ≡ suc k → length vs ≡ length ws → (inside_at n p).members vs ws s ≡ equal_pairs (alike k p) p vs ws s
members_next n k p vs ws s e h =
    ap (λ m. (inside_at {H = Unit {0}} m p).members vs ws s) e ∙ members_below k p vs ws s
    ∙ ap (λ b. (if b then equal_pairs (alike k p) p vs ws else give false) s) (eq-eqb _ _ h)

pub pairs_next : (n k : ℕ) (p : Place) (ps qs : List (Value × Value)) (s : State (Unit {0})) → n ≡ suc k → length ps ≡ length qs → (inside_at n p).pairs ps qs s ≡ all_found (alike k p) p ps qs s
pairs_next n k p ps qs s e h =
    ap (λ m. (inside_at {H = Unit {0}} m p).pairs ps qs s) e ∙ pairs_below k p ps qs s
    ∙ ap (λ b. (if b then all_found (alike k p) p ps qs else give false) s) (eq-eqb _ _ h)

pub sized_next : (r n k : ℕ) (p : Place) (vs : List Value) (s : State (Unit {0})) → n ≡ suc k → measured_within r n p vs s ≡ each_sized (measure r k p) p vs s
sized_next r n k p vs s e = ap (λ m. measured_within {H = Unit {0}} r m p vs s) e ∙ sized_below r k p vs s

pub ordered_next : (n k : ℕ) (store : Store) (vs ws : List Value) → n ≡ suc k → order_within n store vs ws ≡ by_members (ordered k store) vs ws
ordered_next n k store vs ws e = ap (λ m. order_within m store vs ws) e ∙ ordered_below k store vs ws

-- the numbers of ranges
pub ranges_next : (n : ℕ) (p : Place) (v w : Value) (q r : ℤ × ℤ × ℤ) (s : State (Unit {0})) → (n ≡ 0 → ⊥) → v ≡ range_value q.0 q.1 q.2 → w ≡ range_value r.0 r.1 r.2 →
    equal_by (inside_at n p) p v w s ≡ equal_members (alike (n - 1) p) p (numbers_from q) (numbers_from r) s
ranges_next n p v w q r s some e f =
    (λ i. equal_by {H = Unit {0}} (inside_at n p) p (e i) (f i) s)
    ∙ ap (λ m. (inside_at {H = Unit {0}} m p).members (numbers_from q) (numbers_from r) s) (one_less n some) ∙ members_below (n - 1) p (numbers_from q) (numbers_from r) s

-- ---- as many

pub as_many : {A B : Type 0} (f : A → B) (vs ws : List A) → length vs ≡ length ws → length (each f vs) ≡ length (each f ws)
as_many f vs ws h = length-map vs f ∙ h ∙ sym (length-map ws f)

field_count : (held : List Value) (fs : List NamedValue) → length (named_values (fields_in held fs)) ≡ length fs
field_count held [] = refl
field_count held (f ∷ fs) = ap suc (field_count held fs)

-- the fields of structs with as many
pub structs_next : (n k : ℕ) (p : Place) (held : List Value) (x y : Fields) (fs gs : List NamedValue) (s : State (Unit {0})) → n ≡ suc k → length fs ≡ length gs → x ≡ fields_in held fs → y ≡ fields_in held gs →
    (inside_at n p).pairs (named_values x) (named_values y) s ≡ all_found (alike k p) p (named_values (fields_in held fs)) (named_values (fields_in held gs)) s
structs_next n k p held x y fs gs s e h d b =
    (λ i. (inside_at {H = Unit {0}} n p).pairs (named_values (d i)) (named_values (b i)) s)
    ∙ pairs_next n k p (named_values (fields_in held fs)) (named_values (fields_in held gs)) s e (field_count held fs ∙ h ∙ sym (field_count held gs))

-- fields of structs that aren't as many
pub structs_unlike : (n k : ℕ) (p : Place) (held : List Value) (x y : Fields) (fs gs : List NamedValue) (s : State (Unit {0})) → n ≡ suc k → (length fs ≡ length gs → ⊥) → x ≡ fields_in held fs → y ≡ fields_in held gs →
    (inside_at n p).pairs (named_values x) (named_values y) s ≡ done false s
structs_unlike n k p held x y fs gs s e h d b =
    let ps = named_values (fields_in held fs) in
    let qs = named_values (fields_in held gs) in
    (λ i. (inside_at {H = Unit {0}} (e i) p).pairs (named_values (d i)) (named_values (b i)) s) ∙ pairs_below k p ps qs s
    ∙ ap (λ b. (if b then all_found (alike k p) p ps qs else give false) s) (ne_eqb _ _ (λ e. h (sym (field_count held fs) ∙ e ∙ field_count held gs)))

-- ---- the equality of values

pub alike_values : (p : Place) (v w : Value) (s : State (Unit {0})) → equality p v w s ≡ alike 100 p v w s
unfolding alike
alike_values p v w s = refl

choice : {A B : Type 0} (b : Bool) (g x y : A → B) (t : A) → x t ≡ y t → (if b then g else x) t ≡ (if b then g else y) t
choice true g x y t h = refl
choice false g x y t h = h

pub among_values : (p : Place) (v : Value) (vs : List Value) (s : State (Unit {0})) → among p v vs s ≡ among_by (alike 100 p) p v vs s
unfolding alike
among_values p v [] s = refl
among_values p v (w ∷ ws) s = then_ext (paid p (equality p w v) s) _ _ (λ b t. choice b (give true) (among p v ws) (among_by (alike 100 p) p v ws) t (among_values p v ws t))
