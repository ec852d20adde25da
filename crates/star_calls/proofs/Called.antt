-- The scope of a call, box by box.
use Rattle.std.proofs.Common.{◌≡◌, ◌++◌, ℕ, suc, List, [], ◌∷◌, length, Some, None, Result, Err, slice_get, slice_set, refl, sym, ap, subst, ◌∙◌, append-nil, append_assoc}
use Rattle.ytt_base.specs.declared.fault.Place.{Place}
use Rattle.ytt_base.specs.declared.fault.Stop.{Stop}
use Rattle.ytt_base.specs.declared.fault.Stop.TheVariants as stop
use Rattle.code_spec.specs.Allowed.{parameter_names}
use Rattle.code_spec.specs.Code.{Name, Parameters}
use Rattle.value_spec.specs.Outcomes.{Computation, Ending, State, asks, bad, done, give, on_store, then_do, ◌>>=◌}
use Rattle.value_spec.specs.Store.{change, changed, object, with_contents, with_object}
use Rattle.value_spec.specs.Values as plain
use Rattle.value_spec.specs.Values.{Arguments, Env, Store, of_box}
use Rattle.value_spec.proofs.Computations.{then_assoc, then_ext}
use Rattle.value_spec.specs.Binding.{bound_values}
use Rattle.star_spec.specs.Binding.{boxes_for, scope_of_call}
use Rattle.star_spec.specs.Names.{with_boxes}
use Rattle.star_spec.proofs.BoundNames.{bound_count}
use Rattle.star_resolve.specs.Frames.{added, boxed, unset_boxes, with_unset}
use Rattle.star_resolve.proofs.Frames.{others_made}
use Rattle.star_steps.specs.Meets.{Meets, state_in}
use Rattle.star_values.specs.Objects.{env_in, variable_in}
use Rattle.star_values.specs.Owns.{Grows, OwnsEnv, OwnsVariable}
use Rattle.star_values.specs.View.{View, values_of}
use Rattle.star_values.specs.declared.object.NamedBox.{NamedBox}
use Rattle.star_values.specs.declared.value.Value.{Value}
use Rattle.star_values.proofs.Growing.{each_joined}
use Rattle.star_calls.specs.Scope.{GivesScope}
use Rattle.star_calls.proofs.Kept.{env_kept}

abbrev Here : Type 0
Here = State (Unit {0})

-- ---- a new box with a value

last_there : (st : Store) (o : plain.Object) → slice_get (st ++ o ∷ []) (length st) ≡ Some o
last_there [] o = refl
last_there (s ∷ st) o = last_there st o

last_set : (st : Store) (o p : plain.Object) → slice_set (st ++ o ∷ []) (length st) p ≡ st ++ p ∷ []
last_set [] o p = refl
last_set (s ∷ st) o p = ap (λ l. s ∷ l) (last_set st o p)

filled : (st : Store) (v : plain.Value) → change (with_contents (of_box (Some v))) (length st) (st ++ unset_boxes 1) ≡ with_object (of_box (Some v)) st
filled st v =
    let o = object (of_box None) in
    ap (changed (with_contents (of_box (Some v))) (st ++ o ∷ []) (length st)) (last_there st o)
    ∙ last_set st o (object (of_box (Some v)))

pub box_filled : (st bs cs : Store) (at : ℕ) (v w : plain.Value) → bs ≡ st ++ unset_boxes 1 → at ≡ length st → w ≡ v → cs ≡ change (with_contents (of_box (Some w))) at bs → cs ≡ with_object (of_box (Some v)) st
box_filled st bs cs at v w e n same c = c ∙ (λ i. change (with_contents (of_box (Some (same i)))) (n i) (e i)) ∙ filled st v

pub variable_at : (held now : List plain.Value) (b : NamedBox) (x : Name) (n : ℕ) → now ≡ held → variable_in held b ≡ (x, n) → variable_in now b ≡ (x, n)
variable_at held now b x n e v = ap (λ h. variable_in h b) e ∙ v

-- ---- boxes of parameters

env_joined : (held : List plain.Value) (bs cs : List NamedBox) → env_in held (bs ++ cs) ≡ env_in held bs ++ env_in held cs
env_joined held [] cs = refl
env_joined held (b ∷ bs) cs = ap (λ l. variable_in held b ∷ l) (env_joined held bs cs)

pub none_boxed : (r : Ending (Unit {0}) Env) → r ≡ then_do r (λ more. give ([] ++ more))
none_boxed (done env s) = refl
none_boxed (bad f s) = refl
none_boxed (asks q s k) = λ i. asks q s (λ got t. none_boxed (k got t) i)

pub box_next : (x : Name) (xs names : List Name) (v : plain.Value) (vs values : List plain.Value) (env new : Env) (s t : Here) → names ≡ x ∷ xs → values ≡ v ∷ vs → new ≡ env ++ (x, length s.store) ∷ [] → t ≡ on_store (with_object (of_box (Some v))) s →
    then_do (boxes_for names values s) (λ more. give (env ++ more)) ≡ then_do (boxes_for xs vs t) (λ more. give (new ++ more))
box_next x xs names v vs values env new s t e f n g =
    let r = length s.store in
    let u = on_store (with_object (of_box (Some v))) s in
    (λ i. then_do (boxes_for (e i) (f i) s) (λ more. give (env ++ more)))
    ∙ then_assoc (boxes_for xs vs u) (λ own. give ((x, r) ∷ own)) (λ more. give (env ++ more))
    ∙ then_ext (boxes_for xs vs u) (λ own. give (env ++ (x, r) ∷ own)) (λ more. give ((env ++ (x, r) ∷ []) ++ more)) (λ more w. ap (λ l. done l w) (sym (append_assoc env ((x, r) ∷ []) more)))
    ∙ (λ i. then_do (boxes_for xs vs (sym g i)) (λ more. give (sym n i ++ more)))

pub state_boxed : (a b : View) (n : ℕ) (v : plain.Value) → b.store ≡ with_object (of_box (Some v)) a.store → state_in b n ≡ on_store (with_object (of_box (Some v))) (state_in a n)
state_boxed a b n v e = λ i. record { store = e i; steps = n; host = tt }

-- no value is left, or no name
pub values_end : (names : List Name) (values : List plain.Value) (env : Env) (s : Here) → values ≡ [] → then_do (boxes_for names values s) (λ more. give (env ++ more)) ≡ done env s
values_end names values env s e = ap (λ vs. then_do (boxes_for names vs s) (λ more. give (env ++ more))) e ∙ by names where
  by : (names : List Name) → then_do (boxes_for names [] s) (λ more. give (env ++ more)) ≡ done env s
  by [] = ap (λ l. done l s) (append-nil env)
  by (x ∷ xs) = ap (λ l. done l s) (append-nil env)

pub names_end : (names : List Name) (values : List plain.Value) (env : Env) (s : Here) → names ≡ [] → then_do (boxes_for names values s) (λ more. give (env ++ more)) ≡ done env s
names_end names values env s e = ap (λ ns. then_do (boxes_for ns values s) (λ more. give (env ++ more))) e ∙ ap (λ l. done l s) (append-nil env)

pub one_boxed : (b c : View) (made new : List NamedBox) (n : NamedBox) (x : Name) → Grows b c → OwnsEnv b made → variable_in c.held n ≡ (x, length b.store) → OwnsVariable c n → new ≡ made ++ n ∷ [] →
    OwnsEnv c new × (env_in c.held new ≡ env_in b.held made ++ (x, length b.store) ∷ [])
one_boxed b c made new n x g w v o e =
    let kept = env_kept b c made g w in (
      subst (OwnsEnv c) (sym e) (each_joined (OwnsVariable c) made (n ∷ []) kept.0 (o, tt)),
      ap (env_in c.held) e ∙ env_joined c.held made (n ∷ []) ∙ (λ i. kept.1 i ++ v i ∷ []),
    )

-- ---- new boxes in front

boxed_front : (n : ℕ) (xs : List Name) (env own : Env) → boxed n xs (env ++ own) ≡ boxed n xs env ++ own
boxed_front n [] env own = refl
boxed_front n (x ∷ xs) env own = boxed_front (suc n) xs ((x, n) ∷ env) own

-- the scope of a call of boxes in a row
pub scope_joined : (a b : View) (opened own around first scope : List NamedBox) (n : ℕ) (names : List Name) → Grows a b → OwnsEnv a own → OwnsEnv a around → OwnsEnv b opened → env_in b.held opened ≡ boxed n names [] → first ≡ opened ++ own → scope ≡ first ++ around →
    OwnsEnv b scope × (env_in b.held scope ≡ boxed n names (env_in a.held own) ++ env_in a.held around)
scope_joined a b opened own around first scope n names g o r w e f s =
    let mine = env_kept a b own g o in
    let outer = env_kept a b around g r in
    let front : first ≡ opened ++ own = f in (
      subst (OwnsEnv b) (sym (s ∙ ap (λ l. l ++ around) front)) (each_joined (OwnsVariable b) (opened ++ own) around (each_joined (OwnsVariable b) opened own w mine.0) outer.0),
      ap (env_in b.held) (s ∙ ap (λ l. l ++ around) front) ∙ env_joined b.held (opened ++ own) around
          ∙ ap (λ l. l ++ env_in b.held around) (env_joined b.held opened own)
          ∙ (λ i. (e i ++ mine.1 i) ++ outer.1 i)
          ∙ ap (λ l. l ++ env_in a.held around) (sym (boxed_front n names [] (env_in a.held own))),
    )

-- ---- calls

abbrev with_own : (names : List Name) → Env → Env → Computation (Unit {0}) Env
with_own names env own = with_boxes names own >>= λ scope. give (scope ++ env)

abbrev with_values : Parameters → (names : List Name) → Env → List plain.Value → Computation (Unit {0}) Env
with_values ps names env all = boxes_for (parameter_names ps) all >>= with_own names env

pub called : (p : Place) (ps : Parameters) (names others : List Name) (ds : List plain.Value) (vs : Arguments) (env own scope : Env) (all : List plain.Value) (s r t u : Here) →
    bound_values p ps ds vs s ≡ done all r → boxes_for (parameter_names ps) all r ≡ done own t → others ≡ added (parameter_names ps) names → scope ≡ boxed (length t.store) others own ++ env → u ≡ with_unset (length others) t →
    scope_of_call p ps names ds vs env s ≡ done scope u
called p ps names others ds vs env own scope all s r t u h made e f g =
    ap (λ o. then_do o (with_values ps names env)) h
    ∙ ap (λ o. then_do o (with_own names env)) made
    ∙ ap (λ o. then_do o (λ scope. give (scope ++ env))) (others_made (parameter_names ps) names all own r t (bound_count p ps ds vs all s r h) made)
    ∙ (λ i. done (boxed (length t.store) (sym e i) own ++ env) (with_unset (length (sym e i)) t))
    ∙ (λ i. done (sym f i) (sym g i))

-- ---- what a call returns

pub called_scope : (p : Place) (n : ℕ) (ps : Parameters) (names others : List Name) (g : plain.Function) (ds : List plain.Value) (vs : Arguments) (outer own : Env) (scope : List NamedBox) (all : List plain.Value) (a b c d : View) →
    ds ≡ g.defaults → outer ≡ g.env → bound_values p ps ds vs (state_in a n) ≡ done all (state_in b n) → boxes_for (parameter_names ps) all (state_in b n) ≡ done own (state_in c n) → others ≡ added (parameter_names ps) names →
    env_in d.held scope ≡ boxed (length c.store) others own ++ outer → d.store ≡ c.store ++ unset_boxes (length others) → scope_of_call p ps names g.defaults vs g.env (state_in a n) ≡ done (env_in d.held scope) (state_in d n)
called_scope p n ps names others g ds vs outer own scope all a b c d de oe h made e f st =
    called p ps names others g.defaults vs g.env own (env_in d.held scope) all (state_in a n) (state_in b n) (state_in c n) (state_in d n)
    ((λ i. bound_values p ps (sym de i) vs (state_in a n)) ∙ h) made e (f ∙ ap (λ env. boxed (length c.store) others own ++ env) oe) (λ i. record { store = st i; steps = n; host = tt })

-- the arguments are refused
pub values_stopped : (p : Place) (n : ℕ) (ps : Parameters) (names : List Name) (g : plain.Function) (ds : List plain.Value) (vs : Arguments) (e : Stop) (r : Result (List NamedBox) Stop) (a b : View) → ds ≡ g.defaults → r ≡ Err e →
    Meets {A = List Value} (values_of b) (Err e) (state_in b n) (bound_values p ps ds vs (state_in a n)) → Grows a b → GivesScope (scope_of_call p ps names g.defaults vs g.env (state_in a n)) r a b n
values_stopped p n ps names g ds vs e r a b de is m grown = subst (λ r. GivesScope (scope_of_call p ps names g.defaults vs g.env (state_in a n)) r a b n) (sym is) (by e m) where
  by : (e : Stop) → Meets {A = List Value} (values_of b) (Err e) (state_in b n) (bound_values p ps ds vs (state_in a n)) → GivesScope (scope_of_call p ps names g.defaults vs g.env (state_in a n)) (Err e) a b n
  by (stop.Fault f) m = record { meaning = ap (λ o. then_do o (with_values ps names g.env)) ((λ i. bound_values p ps (sym de i) vs (state_in a n)) ∙ m); owns = tt; grows = grown }
  by stop.Memory m = record { meaning = tt; owns = tt; grows = grown }

-- a box of a parameter is
pub own_stopped : (p : Place) (n : ℕ) (ps : Parameters) (names : List Name) (g : plain.Function) (ds all : List plain.Value) (vs : Arguments) (e : Stop) (r : Result (List NamedBox) Stop) (a b c : View) → ds ≡ g.defaults → r ≡ Err e →
    bound_values p ps ds vs (state_in a n) ≡ done all (state_in b n) → Meets {A = List NamedBox} (env_in c.held) (Err e) (state_in c n) (boxes_for (parameter_names ps) all (state_in b n)) → Grows a c → GivesScope (scope_of_call p ps names g.defaults vs g.env (state_in a n)) r a c n
own_stopped p n ps names g ds all vs e r a b c de is h m grown = subst (λ r. GivesScope (scope_of_call p ps names g.defaults vs g.env (state_in a n)) r a c n) (sym is) (by e m) where
  bound : bound_values p ps g.defaults vs (state_in a n) ≡ done all (state_in b n)
  bound = (λ i. bound_values p ps (sym de i) vs (state_in a n)) ∙ h

  by : (e : Stop) → Meets {A = List NamedBox} (env_in c.held) (Err e) (state_in c n) (boxes_for (parameter_names ps) all (state_in b n)) → GivesScope (scope_of_call p ps names g.defaults vs g.env (state_in a n)) (Err e) a c n
  by (stop.Fault f) m = record { meaning = ap (λ o. then_do o (with_values ps names g.env)) bound ∙ ap (λ o. then_do o (with_own names g.env)) m; owns = tt; grows = grown }
  by stop.Memory m = record { meaning = tt; owns = tt; grows = grown }

-- memory is wanting
pub scope_wanting : (o : Ending (Unit {0}) Env) (r : Result (List NamedBox) Stop) (a b : View) (n : ℕ) → r ≡ Err stop.Memory → Grows a b → GivesScope o r a b n
scope_wanting o r a b n is grown = subst (λ r. GivesScope o r a b n) (sym is) (record { meaning = tt; owns = tt; grows = grown })
