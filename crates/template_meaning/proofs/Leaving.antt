-- In a template whose control words stand where they may, none leaves a node.
use Rattle.std.proofs.Common.{ℕ, List, [], ◌∷◌, Option, Some, None, Result, Bool, true, false, if◌then◌else◌}
use Rattle.ytt_base.specs.declared.fault.Fault.{Fault}
use Rattle.ytt_base.specs.declared.fault.Place.{Place}
use Rattle.code_spec.specs.Code.{Name, Expr, Parameters, Statement, evaluate, assign, augment, load, return, break, continue, pass}
use Rattle.template_spec.specs.Template.{Item, node, code, if_block, for_block, def_block, Items, no_items, an_item, Branches, no_branch, else_branch, elif_branch}
use Rattle.value_spec.specs.Values.{Value, Children, Env}
use Rattle.value_spec.specs.Outcomes.{State, Reply, Ending, done, asks, bad, then_do, Computation, ◌>>=◌, give, take_steps, paid, finally, on_store}
use Rattle.value_spec.specs.Store.{begin_loop, end_loop}
use Rattle.star_spec.specs.Language.{Call, Language, new_function, execute, define, Word, breaks, continues, returns}
use Rattle.value_spec.specs.Members.{walked_in}
use Rattle.star_spec.specs.Flow.{Flow, on, out, Part, go_on, worded, plain, test_of, next_turn, turns, loop}
use Rattle.template_meaning.specs.Build.{notes_meaning, build, builds, choose, content, key_meaning}
use Rattle.template_meaning.specs.Adding.{add_taken}
use Rattle.template_spec.specs.ControlWords.{Around, free, in_loop, in_node, within_loop, MayStand, ItemWordsStand, WordsStand, BranchWordsStand}

-- a fact of the value, if there is one
abbrev pub IfDone : {H A : Type 0} → (A → Type 0) → Ending H A → Type 0
IfDone P (done a s) = P a
IfDone P (bad e s) = Unit {0}
IfDone {H = H} P (asks q s k) = (got : Result Reply Fault) (t : State H) → IfDone P (k got t)

pub record OnDone {H A : Type 0} (P : A → Type 0) (r : Ending H A) : Type 0 where
  pub by : IfDone P r

on_then : {H A B : Type 0} (P : A → Type 0) (Q : B → Type 0) (r : Ending H A) (k : A → Computation H B) → OnDone P r → ((a : A) (s : State H) → P a → OnDone Q (k a s)) → OnDone Q (then_do r k)
on_then P Q (done a s) k h f = f a s h.by
on_then P Q (bad e s) k h f = record { by = tt }
on_then P Q (asks q s n) k h f = record { by = λ got t. (on_then P Q (n got t) k (record { by = h.by got t }) f).by }

any_then : {H A B : Type 0} (Q : B → Type 0) (r : Ending H A) (k : A → Computation H B) → ((a : A) (s : State H) → OnDone Q (k a s)) → OnDone Q (then_do r k)
any_then Q (done a s) k f = f a s
any_then Q (bad e s) k f = record { by = tt }
any_then Q (asks q s n) k f = record { by = λ got t. (any_then Q (n got t) k f).by }

on_paid : {H A : Type 0} (P : A → Type 0) (p : Place) (m : Computation H A) (s : State H) → ((s : State H) → OnDone P (m s)) → OnDone P (paid p m s)
on_paid P p m s h = any_then P (take_steps 1 p s) (λ u. m) (λ u s. h s)

on_finally : {H A : Type 0} (P : A → Type 0) (r : Ending H A) (f : State H → State H) → OnDone P r → OnDone P (finally r f)
on_finally P (done a s) f h = record { by = h.by }
on_finally P (bad e s) f h = record { by = tt }
on_finally P (asks q s n) f h = record { by = λ got t. (on_finally P (n got t) f (record { by = h.by got t })).by }

-- the words that may leave
abbrev pub WordFits : Around → Word → Type 0
WordFits free w = Unit {0}
WordFits in_loop (returns v) = ⊥
WordFits in_loop _ = Unit {0}
WordFits in_node w = ⊥

abbrev pub Fits : {K : Type 0} → Around → Flow K → Type 0
Fits w (on k) = Unit {0}
Fits w (out x k) = WordFits w x

abbrev pub OptFits : Around → Option Word → Type 0
OptFits w None = Unit {0}
OptFits w (Some x) = WordFits w x

-- what gives no word leaves none
no_word : {H A : Type 0} (w : Around) (r : Ending H A) → OnDone (OptFits w) (then_do r (λ u. give None))
no_word w (done a s) = record { by = tt }
no_word w (bad e s) = record { by = tt }
no_word w (asks q s n) = record { by = λ got t. (no_word w (n got t)).by }

execute_fits : {H : Type 0} (language : Language H) (call : Call H) (w : Around) (x : Statement) (env : Env) (s : State H) → MayStand w x → OnDone (OptFits w) (execute language call x env s)
execute_fits language call w (evaluate p e) env s h = on_paid (OptFits w) p _ s (λ s. no_word w (language.eval call e env s))
execute_fits language call w (assign p x e) env s h = on_paid (OptFits w) p _ s (λ s. any_then (OptFits w) (language.eval call e env s) _ (λ v s. no_word w (language.assign call p x v env s)))
execute_fits language call w (augment p o q x e) env s h = on_paid (OptFits w) p _ s (λ s. no_word w (language.augment call p o q x e env s))
execute_fits language call w (load p path xs) env s h = on_paid (OptFits w) p _ s (λ s. record { by = tt })
execute_fits language call w (pass p) env s h = on_paid (OptFits w) p _ s (λ s. record { by = tt })
execute_fits language call free (return p e) env s h = on_paid (OptFits free) p _ s (λ s. any_then (OptFits free) (language.eval call e env s) _ (λ v s. record { by = tt }))
execute_fits language call in_loop (return p e) env s h = absurd h
execute_fits language call in_node (return p e) env s h = absurd h
execute_fits language call free (break p) env s h = on_paid (OptFits free) p _ s (λ s. record { by = tt })
execute_fits language call in_loop (break p) env s h = on_paid (OptFits in_loop) p _ s (λ s. record { by = tt })
execute_fits language call in_node (break p) env s h = absurd h
execute_fits language call free (continue p) env s h = on_paid (OptFits free) p _ s (λ s. record { by = tt })
execute_fits language call in_loop (continue p) env s h = on_paid (OptFits in_loop) p _ s (λ s. record { by = tt })
execute_fits language call in_node (continue p) env s h = absurd h

worded_fits : {K : Type 0} (w : Around) (k : K) (o : Option Word) → OptFits w o → Fits w (worded k o)
worded_fits w k None h = h
worded_fits w k (Some x) h = h

plain_good : {H K : Type 0} (w : Around) (m : Computation H (Option Word)) → ((s : State H) → OnDone (OptFits w) (m s)) → (k : K) (s : State H) → OnDone (Fits w) (plain m k s)
plain_good w m h k s = on_then (OptFits w) (Fits w) (m s) (λ o. give (worded k o)) (h s) (λ o s e. record { by = worded_fits w k o e })

define_fits : {H : Type 0} (language : Language H) (call : Call H) (w : Around) (p : Place) (n : ℕ) (x : Name) (ps : Parameters) (env : Env) (s : State H) → OnDone (OptFits w) (define language call p n x ps env s)
define_fits language call w p n x ps env s = on_paid (OptFits w) p _ s (λ s. any_then (OptFits w) (new_function language call p x n ps env s) _ (λ f s. no_word w (language.bind_name p x f env s)))

go_fits : {H K : Type 0} (w : Around) (b : Part H K) → ((k : K) (s : State H) → OnDone (Fits w) (b k s)) → (f : Flow K) (s : State H) → Fits w f → OnDone (Fits w) (go_on b f s)
go_fits w b h (on k) s e = h k s
go_fits w b h (out x k) s e = record { by = e }

choice_good : {H K : Type 0} (w : Around) (b : Bool) (x y : Part H K) → ((k : K) (s : State H) → OnDone (Fits w) (x k s)) → ((k : K) (s : State H) → OnDone (Fits w) (y k s)) → (k : K) (s : State H) → OnDone (Fits w) ((if b then x else y) k s)
choice_good w true x y hx hy = hx
choice_good w false x y hx hy = hy

turn_fits : {H K : Type 0} (w : Around) (b : Part H K) → ((k : K) (s : State H) → OnDone (Fits w) (b k s)) → (f : Flow K) (s : State H) → Fits (within_loop w) f → OnDone (Fits w) (next_turn b f s)
turn_fits w b h (on k) s e = h k s
turn_fits w b h (out breaks k) s e = record { by = tt }
turn_fits w b h (out continues k) s e = h k s
turn_fits free b h (out (returns v) k) s e = record { by = tt }
turn_fits in_loop b h (out (returns v) k) s e = absurd e
turn_fits in_node b h (out (returns v) k) s e = absurd e

turns_good : {H K : Type 0} (w : Around) (p : Place) (b : Value → Part H K) → ((v : Value) (k : K) (s : State H) → OnDone (Fits (within_loop w)) (b v k s)) → (vs : List Value) (k : K) (s : State H) → OnDone (Fits w) (turns p b vs k s)
turns_good w p b h [] k s = record { by = tt }
turns_good w p b h (v ∷ vs) k s = on_then (Fits (within_loop w)) (Fits w) (paid p (b v k) s) (next_turn (turns p b vs)) (on_paid (Fits (within_loop w)) p (b v k) s (h v k)) (turn_fits w (turns p b vs) (turns_good w p b h vs))

loop_good : {H K : Type 0} (w : Around) (language : Language H) (call : Call H) (p : Place) (x e : Expr) (env : Env) (b : Part H K) → ((k : K) (s : State H) → OnDone (Fits (within_loop w)) (b k s)) → (k : K) (s : State H) → OnDone (Fits w) (loop language call p x e env b k s)
loop_good w language call p x e env b h k s = on_paid (Fits w) p _ s (λ s. any_then (Fits w) (language.eval call e env s) _ (λ v s. any_then (Fits w) (language.members p v s) _ (λ vs s.
    on_finally (Fits w) (turns p (λ v j. language.assign call p x v env >>= λ u. b j) vs k (on_store (begin_loop (walked_in v)) s)) (on_store (end_loop (walked_in v)))
    (turns_good w p (λ v j. language.assign call p x v env >>= λ u. b j) (λ v j s. any_then (Fits (within_loop w)) (language.assign call p x v env s) _ (λ u s. h j s)) vs k (on_store (begin_loop (walked_in v)) s)))))

four_fit : {H A B C K : Type 0} (w : Around) (n : Computation H C) (a : Computation H A) (b : Computation H B) (c : C → A → B → Computation H K) (s : State H) → OnDone (Fits w) (then_do (n s) (λ m. a >>= λ x. b >>= λ y. c m x y >>= λ z. give (on z)))
four_fit w n a b c s = any_then (Fits w) (n s) (λ m. a >>= λ x. b >>= λ y. c m x y >>= λ z. give (on z)) (λ m s. any_then (Fits w) (a s) (λ x. b >>= λ y. c m x y >>= λ z. give (on z)) (λ x s.
    any_then (Fits w) (b s) (λ y. c m x y >>= λ z. give (on z)) (λ y s. any_then (Fits w) (c m x y s) (λ z. give (on z)) (λ z s. record { by = tt }))))

module _ {H : Type 0} (language : Language H) where
  mutual
    item_good : (call : Call H) (n : ℕ) (w : Around) (i : Item) (env : Env) → ItemWordsStand w i → (k : Children) (s : State H) → OnDone (Fits w) (build language call n i env k s)
    item_good call n w (node p j ns x c) env h k s = on_paid (Fits w) p _ s (four_fit w (notes_meaning language call ns env) (key_meaning language call p x env) (content language call n p j c env) (λ notes key got. add_taken k p notes key got))
    item_good call n w (code x) env h k s = plain_good w (execute language call x env) (λ s. execute_fits language call w x env s h) k s
    item_good call n w (if_block p e body more) env h k s =
        on_paid (Fits w) p _ s (λ s. any_then (Fits w) (test_of language call e env s) _ (λ v s. choice_good w v (builds language call n body env) (choose language call n more env) (items_good call n w body env h.0) (branches_good call n w more env h.1) k s))
    item_good call n w (for_block p x e body) env h k s = loop_good w language call p x e env (builds language call n body env) (items_good call n (within_loop w) body env h) k s
    item_good call n w (def_block p m x ps j body) env h k s = plain_good w (define language call p m x ps env) (define_fits language call w p m x ps env) k s

    pub items_good : (call : Call H) (n : ℕ) (w : Around) (t : Items) (env : Env) → WordsStand w t → (k : Children) (s : State H) → OnDone (Fits w) (builds language call n t env k s)
    items_good call n w no_items env h k s = record { by = tt }
    items_good call n w (an_item i is) env h k s = on_then (Fits w) (Fits w) (build language call n i env k s) (go_on (builds language call n is env)) (item_good call n w i env h.0 k s) (go_fits w (builds language call n is env) (items_good call n w is env h.1))

    branches_good : (call : Call H) (n : ℕ) (w : Around) (b : Branches) (env : Env) → BranchWordsStand w b → (k : Children) (s : State H) → OnDone (Fits w) (choose language call n b env k s)
    branches_good call n w no_branch env h k s = record { by = tt }
    branches_good call n w (else_branch p is) env h k s = items_good call n w is env h k s
    branches_good call n w (elif_branch p e is more) env h k s =
        any_then (Fits w) (test_of language call e env s) _ (λ v s. choice_good w v (builds language call n is env) (choose language call n more env) (items_good call n w is env h.0) (branches_good call n w more env h.1) k s)
