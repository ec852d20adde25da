-- The boxes of the names of scopes.
use Rattle.std.proofs.Common.{◌≡◌, ℕ, Bool, true, false, ◌||◌, List, [], ◌∷◌, ◌++◌, length, Option, Some, None, is_some, if◌then◌else◌, refl, sym, ap, ◌∙◌, map as each}
use Rattle.std.proofs.Math.Bool.{or-false, or-true, or_assoc}
use Rattle.std.proofs.lemmas.Slice.Eq.{bytes_eq-Decides}
use Rattle.std.specs.Prelude.{bytes_eq}
use Rattle.code_spec.specs.Allowed.{parameter_names}
use Rattle.value_spec.specs.Binding.{bound_values}
use Rattle.star_spec.specs.Binding.{boxes_for}
use Rattle.code_spec.specs.Code.{Name}
use Rattle.code_spec.specs.Options.{further, or_else}
use Rattle.star_spec.specs.Names.{box_of, with_box, with_boxes}
use Rattle.value_spec.specs.Outcomes.{State, Ending, done, asks, bad, then_do, give}
use Rattle.code_spec.specs.Scopes.{Around, home_by, binds, outward}
use Rattle.value_spec.specs.Values.{Value, Env}
use Rattle.star_spec.proofs.BoundNames.{bound_count, names_boxed, same_end}
use Rattle.star_resolve.specs.Environments.{BoxesOf, CallScopes, NamesHaveTheirBoxes, NewScopes, Parts, box_at_home, has_box, joined}

-- ---- look-ups

or_box : (c : Bool) (r : ℕ) (ab a b : Option ℕ) → ab ≡ or_else a b → (if c then Some r else ab) ≡ or_else (if c then Some r else a) b
or_box true r ab a b e = refl
or_box false r ab a b e = e

in_either : (x : Name) (a b : Env) → box_of x (a ++ b) ≡ or_else (box_of x a) (box_of x b)
in_either x [] b = refl
in_either x (p ∷ a) b = or_box (bytes_eq p.0 x) p.1 (box_of x (a ++ b)) (box_of x a) (box_of x b) (in_either x a b)

no_box : (o : Option ℕ) → is_some o ≡ false → o ≡ None
no_box None h = refl
no_box (Some r) h = cc

a_box : (o other : Option ℕ) → is_some o ≡ true → or_else o other ≡ o
a_box None other h = cc
a_box (Some r) other h = refl

-- the box of a name of the file
file_box : (x : Name) (file : Env) (g b : Bool) → is_some (box_of x file) ≡ g →
    (box_of x file ≡ box_at_home (home_by None g b) x [] file) × (is_some (box_of x file) ≡ has_box (home_by None g b))
file_box x file true b h = (refl, h)
file_box x file false true h = (no_box (box_of x file) h, h)
file_box x file false false h = (no_box (box_of x file) h, h)

-- one part further out
part_behind : (x : Name) (own : Env) (more : List Env) (file : Env) (o : Option ℕ) (g b : Bool) → box_at_home (home_by o g b) x more file ≡ box_at_home (home_by (further o) g b) x (own ∷ more) file
part_behind x own more file (Some k) g b = refl
part_behind x own more file None true b = refl
part_behind x own more file None false true = refl
part_behind x own more file None false false = refl

boxes_behind : (o : Option ℕ) (g b : Bool) → has_box (home_by o g b) ≡ has_box (home_by (further o) g b)
boxes_behind (Some k) g b = refl
boxes_behind None true b = refl
boxes_behind None false true = refl
boxes_behind None false false = refl

next_part : (x : Name) (own : Env) (more : List Env) (file : Env) (o : Option ℕ) (g b c : Bool) → is_some (box_of x own) ≡ c →
    (box_of x (joined more file) ≡ box_at_home (home_by o g b) x more file) × (is_some (box_of x (joined more file)) ≡ has_box (home_by o g b)) →
    (box_of x (own ++ joined more file) ≡ box_at_home (home_by (if c then Some 0 else further o) g b) x (own ∷ more) file)
    × (is_some (box_of x (own ++ joined more file)) ≡ has_box (home_by (if c then Some 0 else further o) g b))
next_part x own more file o g b true h k =
    let here : box_of x (own ++ joined more file) ≡ box_of x own = in_either x own (joined more file) ∙ a_box (box_of x own) (box_of x (joined more file)) h in
    (here, ap is_some here ∙ h)
next_part x own more file o g b false h k =
    let behind : box_of x (own ++ joined more file) ≡ box_of x (joined more file) =
    in_either x own (joined more file) ∙ ap (λ r. or_else r (box_of x (joined more file))) (no_box (box_of x own) h)
    in
    (behind ∙ k.0 ∙ part_behind x own more file o g b, ap is_some behind ∙ k.1 ∙ boxes_behind o g b)

boxes_found : (x : Name) (around : Around) (parts : List Env) (file : Env) (g b : Bool) → Parts around parts → is_some (box_of x file) ≡ g →
    (box_of x (joined parts file) ≡ box_at_home (home_by (outward x around) g b) x parts file) × (is_some (box_of x (joined parts file)) ≡ has_box (home_by (outward x around) g b))
boxes_found x [] [] file g b h k = file_box x file g b k
boxes_found x [] (own ∷ more) file g b h k = absurd h
boxes_found x (names ∷ around) [] file g b h k = absurd h
boxes_found x (names ∷ around) (own ∷ more) file g b h k =
    next_part x own more file (outward x around) g b (binds x names) (h.0 x) (boxes_found x around more file g b h.1 k)

pub names_have_their_boxes : NamesHaveTheirBoxes
names_have_their_boxes globals builtins u parts file h k = boxes_found u.name u.around parts file (binds u.name globals) (binds u.name builtins) h (k u.name)

-- ---- new boxes

known_box : (x y : Name) (env : Env) (r : ℕ) (more : Bool) (c : Bool) → bytes_eq y x ≡ c → box_of y env ≡ Some r → (is_some (box_of x env) || more) ≡ (is_some (box_of x env) || (c || more))
known_box x y env r more true e h =
    let same : y ≡ x = (bytes_eq-Decides y x).0 e in
    let there : is_some (box_of x env) ≡ true = ap (λ z. is_some (box_of z env)) (sym same) ∙ ap is_some h in
    ap (λ b. b || more) there ∙ ap (λ b. b || true) (sym there)
known_box x y env r more false e h = refl

fresh_box : (o : Option ℕ) (r : ℕ) (more c : Bool) → (is_some (if c then Some r else o) || more) ≡ (is_some o || (c || more))
fresh_box o r more true = sym (or-true (is_some o))
fresh_box o r more false = refl

-- ---- names in environments

pub binds_either : (x : Name) (a b : List Name) → binds x (a ++ b) ≡ (binds x a || binds x b)
binds_either x [] b = refl
binds_either x (y ∷ a) b = ap (λ c. bytes_eq y x || c) (binds_either x a b) ∙ sym (or_assoc (bytes_eq y x) (binds x a) (binds x b))

first_box : (c : Bool) (r : ℕ) (o : Option ℕ) → is_some (if c then Some r else o) ≡ (c || is_some o)
first_box true r o = refl
first_box false r o = refl

-- an environment has the boxes of its names
pub own_names : (x : Name) (env : Env) → is_some (box_of x env) ≡ binds x (each (λ (b : Name × ℕ). b.0) env)
own_names x [] = refl
own_names x (b ∷ env) = first_box (bytes_eq b.0 x) b.1 (box_of x env) ∙ ap (λ c. bytes_eq b.0 x || c) (own_names x env)

module _ {H : Type 0} where
  one_name : (y : Name) (ys : List Name) (env own : Env) (s t : State H) (o : Option ℕ) → box_of y env ≡ o → then_do (with_box y env o s) (with_boxes ys) ≡ done own t →
      ((before : Env) (u : State H) → with_boxes ys before u ≡ done own t → (x : Name) → is_some (box_of x own) ≡ (is_some (box_of x before) || binds x ys)) →
      (x : Name) → is_some (box_of x own) ≡ (is_some (box_of x env) || (bytes_eq y x || binds x ys))
  one_name y ys env own s t (Some r) h e more x = more env s e x ∙ known_box x y env r (binds x ys) (bytes_eq y x) refl h
  one_name y ys env own s t None h e more x =
      more ((y, length s.store) ∷ env) _ e x ∙ fresh_box (box_of x env) (length s.store) (binds x ys) (bytes_eq y x)

  pub more_boxes : (names : List Name) (env own : Env) (s t : State H) → with_boxes names env s ≡ done own t → (x : Name) → is_some (box_of x own) ≡ (is_some (box_of x env) || binds x names)
  more_boxes [] env own s t e x = ap (λ all. is_some (box_of x all)) (sym (same_end env own s t e)) ∙ sym (or-false (is_some (box_of x env)))
  more_boxes (y ∷ ys) env own s t e x = one_name y ys env own s t (box_of y env) refl e (λ before u. more_boxes ys before own u t) x

  pub new_scopes : NewScopes H
  new_scopes names env s t e x = more_boxes names [] env s t e x

  -- ---- calls

  -- where there is a value for each name, these are the names that have boxes
  pub filled_boxes : (xs : List Name) (vs : List Value) (own : Env) (s t : State H) → length vs ≡ length xs → boxes_for xs vs s ≡ done own t → BoxesOf xs own
  filled_boxes xs vs own s t n e x = own_names x own ∙ ap (binds x) (names_boxed xs vs own s t n e)

  block_boxes : (around env : Env) (t : State H) (names : List Name) (all : Ending H Env) → then_do all (λ own. give (own ++ around)) ≡ done env t →
      ((own : Env) (u : State H) → all ≡ done own u → BoxesOf names own) → (own : Env) × (env ≡ own ++ around) × BoxesOf names own
  block_boxes around env t names (done own u) e more = (own, sym (same_end (own ++ around) env u t e), more own u refl)
  block_boxes around env t names (bad f u) e more = cc
  block_boxes around env t names (asks q u k) e more = cc

  parameter_boxes : (around env : Env) (t : State H) (parameters names : List Name) (first : Ending H Env) →
      then_do first (λ own. λ u. then_do (with_boxes names own u) (λ all. give (all ++ around))) ≡ done env t →
      ((own : Env) (u : State H) → first ≡ done own u → BoxesOf parameters own) → (own : Env) × (env ≡ own ++ around) × BoxesOf (parameters ++ names) own
  parameter_boxes around env t parameters names (done own u) e more =
      block_boxes around env t (parameters ++ names) (with_boxes names own u) e
      (λ all w h x. more_boxes names own all u w h x ∙ ap (λ b. b || binds x names) (more own u refl x) ∙ sym (binds_either x parameters names))
  parameter_boxes around env t parameters names (bad f u) e more = cc
  parameter_boxes around env t parameters names (asks q u k) e more = cc

  value_boxes : (around env : Env) (t : State H) (parameters names : List Name) (first : Ending H (List Value)) →
      then_do first (λ all. λ r. then_do (boxes_for parameters all r) (λ own. λ u. then_do (with_boxes names own u) (λ scope. give (scope ++ around)))) ≡ done env t →
      ((values : List Value) (r : State H) → first ≡ done values r → length values ≡ length parameters) → (own : Env) × (env ≡ own ++ around) × BoxesOf (parameters ++ names) own
  value_boxes around env t parameters names (done values r) e count =
      parameter_boxes around env t parameters names (boxes_for parameters values r) e (λ own u. filled_boxes parameters values own r u (count values r refl))
  value_boxes around env t parameters names (bad f r) e count = cc
  value_boxes around env t parameters names (asks q r k) e count = cc

  pub call_scopes : CallScopes H
  call_scopes p ps names ds vs around env s t e =
      value_boxes around env t (parameter_names ps) names (bound_values p ps ds vs s) e (λ values r. bound_count p ps ds vs values s r)
