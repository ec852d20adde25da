-- Names that are gone through, and put behind others where they are new.
use Rattle.std.proofs.Common.{◌≡◌, ℕ, ◌+◌, ◌<◌, ◌≤◌, Bool, true, false, ◌||◌, List, [], ◌∷◌, ◌++◌, length, drop, get_or, Option, Some, None, cond, is_some, not, if◌then◌else◌, refl, sym, ap, ◌∙◌, append_assoc, append-nil}
use Rattle.std.proofs.lemmas.List.{drop_more, drop_all}
use Rattle.std.proofs.lemmas.List.Folds.{list_any-append}
use Rattle.std.specs.List.{list_any, position}
use Rattle.std.specs.Prelude.{bytes_eq}
use Rattle.code_spec.specs.Code.{Name}
use Rattle.code_spec.specs.Scopes.{binds}
use Rattle.star_resolve.specs.Frames.{added}
use Rattle.star_resolve.specs.Variables.{each_once, number_in, with_name}
use Rattle.star_resolve.proofs.Found.{bytes_eq-sym, position_is}

number_by : (b c : Bool) (n : ℕ) → is_some (cond b (Some n) None) ≡ not c → b ≡ not c
number_by true c n h = h
number_by false c n h = h

bound : (x : Name) (ks : List Name) → list_any (bytes_eq x) ks ≡ binds x ks
bound x [] = refl
bound x (k ∷ ks) = λ i. bytes_eq-sym x k i || bound x ks i

-- whether a name is among others, by the number that it has
pub is_bound : (x : Name) (known : List Name) (o : Option ℕ) (c : Bool) → o ≡ position (bytes_eq x) (each_once known) → is_some o ≡ not c → list_any (bytes_eq x) known ≡ not c
is_bound x known o c e h = bound x known ∙ number_by (binds x known) c (number_in known x) (sym (ap is_some (e ∙ position_is x known)) ∙ h)

module _ (known now : List Name) (x : Name) where
  abbrev Same : List Name → List Name → Type 0
  Same next ys = next ++ added (known ++ next) ys ≡ now ++ added (known ++ now) (x ∷ ys)

  abbrev added_if : List Name → Bool → List Name
  added_if ys b = if b then added (known ++ now) ys else x ∷ added ((known ++ now) ++ x ∷ []) ys

  -- a name that is known is left out
  pub left_out : list_any (bytes_eq x) known ≡ true → (ys : List Name) → Same now ys
  left_out h ys = ap (λ l. now ++ l) (sym (ap (added_if ys) (list_any-append (bytes_eq x) known now ∙ ap (λ b. b || list_any (bytes_eq x) now) h)))

  put_if : (b : Bool) → list_any (bytes_eq x) (known ++ now) ≡ b → (ys : List Name) → Same (if b then now else now ++ x ∷ []) ys
  put_if true e ys = ap (λ l. now ++ l) (sym (ap (added_if ys) e))
  put_if false e ys =
      append_assoc now (x ∷ []) (added (known ++ (now ++ x ∷ [])) ys)
      ∙ ap (λ ks. now ++ x ∷ added ks ys) (sym (append_assoc known now (x ∷ [])))
      ∙ ap (λ l. now ++ l) (sym (ap (added_if ys) e))

  -- any other name is put behind, if it is new
  pub put_new : list_any (bytes_eq x) known ≡ false → (ys : List Name) → Same (with_name now x) ys
  put_new h = put_if (list_any (bytes_eq x) now) (list_any-append (bytes_eq x) known now ∙ ap (λ b. b || list_any (bytes_eq x) now) h)

  -- one more turn of a loop
  pub added_turn : (all next names : List Name) (j : ℕ) → j < length names → x ≡ get_or names j x → ((ys : List Name) → Same next ys) →
      now ++ added (known ++ now) (drop j names) ≡ all → next ++ added (known ++ next) (drop (j + 1) names) ≡ all
  added_turn all next names j lt e same h =
      same (drop (j + 1) names)
      ∙ ap (λ ys. now ++ added (known ++ now) ys) (ap (λ y. y ∷ drop (j + 1) names) e ∙ sym (drop_more names j x lt))
      ∙ h

-- at the end of a loop
pub added_done : (known now all names : List Name) (j : ℕ) → length names ≤ j → now ++ added (known ++ now) (drop j names) ≡ all → now ≡ all
added_done known now all names j le h = sym (append-nil now) ∙ ap (λ ys. now ++ added (known ++ now) ys) (sym (drop_all j names le)) ∙ h
