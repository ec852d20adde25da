-- Where an item is put.
use Rattle.std.proofs.Common.{◌≡◌, ℕ, zero, suc, ◌+◌, ◌<◌, Bool, true, false, ◌||◌, List, [], ◌∷◌, ◌++◌, length, drop, get_or, slice_set, Option, Some, None, bytes_eq, codes, if◌then◌else◌, refl, sym, ap, ◌∙◌, rules, arith}
use Rattle.ytt_base.specs.declared.fault.Place.{Place}
use Rattle.ytt_base.specs.Trees.{Scalar}
use Rattle.value_spec.specs.Outcomes.{State, Ending, done, then_do, give, ◌>>=◌}
use Rattle.value_spec.specs.Values as plain
use Rattle.value_spec.specs.Values.{Child, Children, a_child}
use Rattle.template_meaning.specs.Adding.{add_child, in_place_if, keys_equal, overrides}
use Rattle.star_fragments.proofs.Views.{child_in-item}
use Rattle.star_values.specs.View.{built_in, child_in, notes_in, scalar_key}
use Rattle.star_values.specs.declared.value.BuiltItem.{BuiltItem}
use Rattle.star_values.specs.declared.value.BuiltNote.{BuiltNote}
use Rattle.ytt_laws.proofs.Lists.{dropped}
use Rattle.node_build.specs.Positions.{here_or, position_of}

-- ---- notes that override

abbrev pub override_name : List ℕ
override_name = codes "yaml/map-key-override"

module _ (held : List plain.Value) where
  overrides_next : (ns : List BuiltNote) (j : ℕ) (n : BuiltNote) → j < length ns → n ≡ get_or ns j n → overrides (notes_in held (drop j ns)) ≡ bytes_eq n.name override_name || overrides (notes_in held (drop (j + 1) ns))
  overrides_next ns j n lt is = ap (λ l. overrides (notes_in held l)) (dropped ns j n lt is)

  pub overrides_here : (ns : List BuiltNote) (j : ℕ) (n : BuiltNote) (name : List ℕ) → j < length ns → n ≡ get_or ns j n → name ≡ n.name → overrides (notes_in held ns) ≡ overrides (notes_in held (drop j ns)) → true ≡ bytes_eq name override_name → true ≡ overrides (notes_in held ns)
  overrides_here ns j n name lt is e h f =
      ap (λ b. b || overrides (notes_in held (drop (j + 1) ns))) f ∙ ap (λ t. bytes_eq t override_name || overrides (notes_in held (drop (j + 1) ns))) e ∙ sym (overrides_next ns j n lt is) ∙ sym h

  pub overrides_later : (ns : List BuiltNote) (j : ℕ) (n : BuiltNote) (name : List ℕ) → j < length ns → n ≡ get_or ns j n → name ≡ n.name → overrides (notes_in held ns) ≡ overrides (notes_in held (drop j ns)) → false ≡ bytes_eq name override_name → overrides (notes_in held ns) ≡ overrides (notes_in held (drop (j + 1) ns))
  overrides_later ns j n name lt is e h f =
      h ∙ overrides_next ns j n lt is ∙ ap (λ t. bytes_eq t override_name || overrides (notes_in held (drop (j + 1) ns))) (sym e) ∙ ap (λ b. b || overrides (notes_in held (drop (j + 1) ns))) (sym f)

-- ---- adding

module _ (held : List plain.Value) (item : BuiltItem) where
  -- the item in the place of one, where its notes say so
  abbrev put : Children → State (Unit {0}) → Ending (Unit {0}) Children
  put cs = in_place_if (overrides (notes_in held item.notes)) item.place (scalar_key item.key) cs

  abbrev added_by : Bool → BuiltItem → List BuiltItem → State (Unit {0}) → Ending (Unit {0}) Children
  added_by b i is = if b then put (a_child (child_in held item) (built_in held is)) else (add_child (built_in held is) (child_in held item) >>= λ all. give (a_child (child_in held i) all))

  add_step : (i : BuiltItem) (is : List BuiltItem) (s : State (Unit {0})) → add_child (built_in held (i ∷ is)) (child_in held item) s ≡ added_by (keys_equal (scalar_key i.key) (scalar_key item.key)) i is s
  add_step i is s =
      (λ j. add_child (a_child (child_in-item held i j) (built_in held is)) (child_in-item held item j) s)
      ∙ (λ j. (if keys_equal (scalar_key i.key) (scalar_key item.key) then put (a_child (sym (child_in-item held item) j) (built_in held is)) else (add_child (built_in held is) (sym (child_in-item held item) j) >>= λ all. give (a_child (sym (child_in-item held i) j) all))) s)

  none_here : (b : Bool) (o : Option ℕ) → here_or b o ≡ None → (b ≡ false) × (o ≡ None)
  none_here true o e = absurd (search (rules, e))
  none_here false None e = (refl, refl)
  none_here false (Some n) e = absurd (search (rules, e))

  -- behind the others, where none has the key
  pub add_last : (items : List BuiltItem) → position_of (scalar_key item.key) items ≡ None → (s : State (Unit {0})) → add_child (built_in held items) (child_in held item) s ≡ done (built_in held (items ++ item ∷ [])) s
  add_last [] e s = refl
  add_last (i ∷ is) e s =
      let h = none_here (keys_equal (scalar_key i.key) (scalar_key item.key)) (position_of (scalar_key item.key) is) e in
      add_step i is s ∙ ap (λ b. added_by b i is s) h.0 ∙ ap (λ o. then_do o (λ all. give (a_child (child_in held i) all))) (add_last is h.1 s)

  -- in the place of the first that has the key
  in_place_on : (b : Bool) (p : Place) (x : Option Scalar) (c : Child) (cs : Children) (s : State (Unit {0})) → then_do (in_place_if b p x cs s) (λ all. give (a_child c all)) ≡ in_place_if b p x (a_child c cs) s
  in_place_on true p x c cs s = refl
  in_place_on false p x c cs s = refl

  abbrev AtPlace : List BuiltItem → ℕ → State (Unit {0}) → Type 0
  AtPlace items n s = add_child (built_in held items) (child_in held item) s ≡ put (built_in held (slice_set items n item)) s

  at_place : (i : BuiltItem) (is : List BuiltItem) (b : Bool) (o : Option ℕ) (n : ℕ) → keys_equal (scalar_key i.key) (scalar_key item.key) ≡ b → position_of (scalar_key item.key) is ≡ o → here_or b o ≡ Some n → (s : State (Unit {0})) →
      ((m : ℕ) → position_of (scalar_key item.key) is ≡ Some m → AtPlace is m s) → AtPlace (i ∷ is) n s
  at_place i is true o zero f g e s more = add_step i is s ∙ ap (λ b. added_by b i is s) f
  at_place i is true o (suc n) f g e s more = absurd (search (rules, e))
  at_place i is false None n f g e s more = absurd (search (rules, e))
  at_place i is false (Some m) n f g e s more =
      let same : 1 + m ≡ n = search (rules, e) in
      let place : suc m ≡ n = omega (arith, same) in
      add_step i is s ∙ ap (λ b. added_by b i is s) f
      ∙ ap (λ o. then_do o (λ all. give (a_child (child_in held i) all))) (more m g)
      ∙ in_place_on (overrides (notes_in held item.notes)) item.place (scalar_key item.key) (child_in held i) (built_in held (slice_set is m item)) s
      ∙ ap (λ k. put (built_in held (slice_set (i ∷ is) k item)) s) place

  pub add_at : (items : List BuiltItem) (n : ℕ) → position_of (scalar_key item.key) items ≡ Some n → (s : State (Unit {0})) → AtPlace items n s
  add_at [] n e s = absurd (search (rules, e))
  add_at (i ∷ is) n e s = at_place i is _ _ n refl refl e s (λ m h. add_at is m h s)
