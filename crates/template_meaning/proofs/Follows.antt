-- Parts of blocks that do the same over what they build: g takes what the one builds to what the other builds.
use Rattle.std.proofs.Common.{◌≡◌, List, [], ◌∷◌, Option, Some, None, Bool, true, false, if◌then◌else◌, refl, ap, ◌∙◌}
use Rattle.ytt_base.specs.declared.fault.Place.{Place}
use Rattle.code_spec.specs.Code.{Expr}
use Rattle.value_spec.specs.Values.{Value, Env}
use Rattle.value_spec.specs.Outcomes.{State, Ending, done, asks, bad, then_do, Computation, ◌>>=◌, give, take_steps, paid, finally, on_store}
use Rattle.value_spec.specs.Store.{begin_loop, end_loop}
use Rattle.star_spec.specs.Language.{Call, Language, Word, breaks, continues, returns}
use Rattle.value_spec.specs.Members.{walked_in}
use Rattle.star_spec.specs.Flow.{Flow, on, out, Part, worded, plain, when, next_turn, turns, walk, loop}

abbrev pub flow_map : {K L : Type 0} → (K → L) → Flow K → Flow L
flow_map g (on k) = on (g k)
flow_map g (out w k) = out w (g k)

abbrev pub mapped : {H K L : Type 0} → (K → L) → Ending H (Flow K) → Ending H (Flow L)
mapped g r = then_do r (λ f. give (flow_map g f))

pub record Follows {H K L : Type 0} (g : K → L) (a : Part H K) (b : Part H L) : Type 0 where
  pub by : (k : K) (s : State H) → b (g k) s ≡ mapped g (a k s)

-- a value, and then parts that follow
pub value_follows : {H A K L : Type 0} (g : K → L) (r : Ending H A) (f : A → Computation H (Flow K)) (f' : A → Computation H (Flow L)) → ((a : A) (s : State H) → f' a s ≡ mapped g (f a s)) → then_do r f' ≡ mapped g (then_do r f)
value_follows g (done a s) f f' h = h a s
value_follows g (bad e s) f f' h = refl
value_follows g (asks q s k) f f' h = λ i. asks q s (λ got t. value_follows g (k got t) f f' h i)

pub paid_follows : {H K L : Type 0} (g : K → L) (p : Place) (m : Computation H (Flow K)) (m' : Computation H (Flow L)) (s : State H) → ((s : State H) → m' s ≡ mapped g (m s)) → paid p m' s ≡ mapped g (paid p m s)
paid_follows g p m m' s h = value_follows g (take_steps 1 p s) (λ u. m) (λ u. m') (λ u s. h s)

worded_map : {H K L : Type 0} (g : K → L) (w : Option Word) (s : State H) (k : K) → done (worded (g k) w) s ≡ done (flow_map g (worded k w)) s
worded_map g None s k = refl
worded_map g (Some w) s k = refl

pub plain_follows : {H K L : Type 0} (g : K → L) (m : Computation H (Option Word)) → Follows g (plain m) (plain m)
plain_follows g m = record { by = λ k s. value_follows g (m s) (λ w. give (worded k w)) (λ w. give (worded (g k) w)) (λ w s. worded_map g w s k) }

pub choice_follows : {H K L : Type 0} (g : K → L) (b : Bool) (x y : Part H K) (x' y' : Part H L) → Follows g x x' → Follows g y y' → Follows g (if b then x else y) (if b then x' else y')
choice_follows g true x y x' y' hx hy = hx
choice_follows g false x y x' y' hx hy = hy

pub when_follows : {H K L : Type 0} (g : K → L) (test : Computation H Bool) (x y : Part H K) (x' y' : Part H L) → Follows g x x' → Follows g y y' → Follows g (when test x y) (when test x' y')
when_follows g test x y x' y' hx hy = record { by = λ k s. value_follows g (test s) _ _ (λ v s. (choice_follows g v x y x' y' hx hy).by k s) }

next_follows : {H K L : Type 0} (g : K → L) (x : Part H K) (x' : Part H L) → Follows g x x' → (f : Flow K) (s : State H) → next_turn x' (flow_map g f) s ≡ mapped g (next_turn x f s)
next_follows g x x' h (on k) s = h.by k s
next_follows g x x' h (out breaks k) s = refl
next_follows g x x' h (out continues k) s = h.by k s
next_follows g x x' h (out (returns v) k) s = refl

-- an act that follows, and then what follows of its flow
flow_follows : {H K L : Type 0} (g : K → L) (r : Ending H (Flow K)) (f : Flow K → Computation H (Flow K)) (f' : Flow L → Computation H (Flow L)) → ((a : Flow K) (s : State H) → f' (flow_map g a) s ≡ mapped g (f a s)) → then_do (mapped g r) f' ≡ mapped g (then_do r f)
flow_follows g (done a s) f f' h = h a s
flow_follows g (bad e s) f f' h = refl
flow_follows g (asks q s k) f f' h = λ i. asks q s (λ got t. flow_follows g (k got t) f f' h i)

pub turns_follow : {H K L : Type 0} (g : K → L) (p : Place) (x : Value → Part H K) (x' : Value → Part H L) → ((v : Value) → Follows g (x v) (x' v)) → (vs : List Value) → Follows g (turns p x vs) (turns p x' vs)
turns_follow g p x x' h [] = record { by = λ k s. refl }
turns_follow g p x x' h (v ∷ vs) = record {
  by = λ k s.
      ap (λ r. then_do r (next_turn (turns p x' vs))) (paid_follows g p (x v k) (x' v (g k)) s (λ s. (h v).by k s))
      ∙ flow_follows g (paid p (x v k) s) (next_turn (turns p x vs)) (next_turn (turns p x' vs)) (next_follows g (turns p x vs) (turns p x' vs) (turns_follow g p x x' h vs));
}

finally_mapped : {H K L : Type 0} (g : K → L) (r : Ending H (Flow K)) (f : State H → State H) → finally (mapped g r) f ≡ mapped g (finally r f)
finally_mapped g (done a s) f = refl
finally_mapped g (bad e s) f = refl
finally_mapped g (asks q s k) f = λ i. asks q s (λ got t. finally_mapped g (k got t) f i)

pub walk_follows : {H K L : Type 0} (g : K → L) (v : Value) (x : Part H K) (x' : Part H L) → Follows g x x' → Follows g (walk v x) (walk v x')
walk_follows g v x x' h = record {
  by = λ k s.
      ap (λ r. finally r (on_store (end_loop (walked_in v)))) (h.by k (on_store (begin_loop (walked_in v)) s))
      ∙ finally_mapped g (x k (on_store (begin_loop (walked_in v)) s)) (on_store (end_loop (walked_in v)));
}

pub loop_follows : {H K L : Type 0} (g : K → L) (language : Language H) (call : Call H) (p : Place) (x e : Expr) (env : Env) (b : Part H K) (b' : Part H L) → Follows g b b' → Follows g (loop language call p x e env b) (loop language call p x e env b')
loop_follows g language call p x e env b b' h = record {
  by = λ k s. paid_follows g p _ _ s (λ s.
      value_follows g (language.eval call e env s) _ _ (λ v s.
      value_follows g (language.members p v s) _ _ (λ vs s.
      (walk_follows g v _ _ (turns_follow g p (λ w j. language.assign call p x w env >>= λ u. b j) (λ w j. language.assign call p x w env >>= λ u. b' j)
      (λ w. record { by = λ j s. value_follows g (language.assign call p x w env s) _ _ (λ u s. h.by j s) }) vs)).by k s)));
}
