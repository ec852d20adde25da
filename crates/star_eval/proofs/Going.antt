-- Calls that go on to what a computation comes to.
use Rattle.std.proofs.Common.{◌≡◌, Bor, ℕ, ◌-◌, nat_le, true, List, Some, Result, Ok, Err, IfOk, ap, subst, sym, ◌∙◌}
use Rattle.ytt_base.specs.declared.fault.Place.{Place}
use Rattle.ytt_base.specs.declared.fault.Stop.{Stop}
use Rattle.ytt_base.specs.declared.fault.Stop.TheVariants as stop
use Rattle.ytt_base.specs.declared.text.Memory.{Memory}
use Rattle.code_spec.specs.Code as plain_code
use Rattle.value_spec.specs.Outcomes.{Ending, Computation, done, then_do, give, ◌>>=◌}
use Rattle.value_spec.specs.Values as plain
use Rattle.node_build.specs.View.{OwnsNodes, nodes_of}
use Rattle.node_build.specs.declared.builder.Builder.{Builder}
use Rattle.star_blocks.specs.Nested.{ops_of}
use Rattle.star_blocks.specs.declared.block.Op.{Op}
use Rattle.star_spec.specs.Flow.{Flow, Part, on}
use Rattle.star_steps.specs.Meets.{Meets, state_in}
use Rattle.star_values.specs.declared.value.Value.{Value}
use Rattle.star_values.specs.declared.value.Work.{Work}
use Rattle.star_values.specs.declared.value.Value.TheVariants as value
use Rattle.star_values.proofs.Growing.{grows_same, grows_then}
use Rattle.star_values.specs.Owns.{Grows, Owns}
use Rattle.star_values.specs.View.{View, value_of}
use Rattle.star_eval.specs.declared.frame.Control.{Control}
use Rattle.star_eval.specs.declared.frame.Control.TheVariants as control
use Rattle.star_eval.specs.declared.frame.Flow.TheVariants as flow
use Rattle.star_eval.specs.declared.frame.Machine.{Machine}
use Rattle.star_eval.specs.declared.session.Session.{Session}
use Rattle.star_eval.specs.Frames.{Goes, GoesToFlow, GoesToValue, Known, around_flow, around_value}
use Rattle.star_eval.specs.Meets.{Acts, GivesFrom, Here, state_of}
use Rattle.star_eval.specs.Doing.{Nodes, acted, concluded, evaluated, place_in, through}
use Rattle.star_eval.specs.Settled.{Settles, SettlesFlow, SettlesNone, SettlesRun}
use Rattle.star_eval.specs.View.{Sound, arena_in, nodes_in, setting_of, waiting_in}
use Rattle.star_eval.specs.Waiting.{Final, unwind_flow, unwind_value, with_none}
use Rattle.star_eval.proofs.Growing.{Kept, kept}
use Rattle.star_eval.proofs.Rows.{step_taken}
use Rattle.star_eval.proofs.Says.{acts_as}

-- what went on from one thing goes on from what is the same
pub goes : {E : Type 0} (a : View) (r : Result Control E) (m : Machine) {b d : Final} → b ≡ d → IfOk r (λ c. Goes a m c b) → IfOk r (λ c. Goes a m c d)
goes a (Ok c) m e h = record { same = h.same ∙ e; sound = h.sound; owned = h.owned; grows = h.grows }
goes a (Err x) m e h = tt

-- from an arena that has grown
pub goes_after : {E : Type 0} (a b : View) (r : Result Control E) (m : Machine) {before after : Final} → Grows a b → after ≡ before → IfOk r (λ c. Goes b m c after) → IfOk r (λ c. Goes a m c before)
goes_after a b (Ok c) m g e h = record { same = h.same ∙ e; sound = h.sound; owned = h.owned; grows = grows_then a b (arena_in m) g h.grows }
goes_after a b (Err x) m g e h = tt

-- ---- endings in a machine that is kept

module _ (m n : Machine) (k : Kept m n) where
  pub value_after : (r o : Ending Here plain.Value) → o ≡ r → around_value n (waiting_in n) r ≡ around_value m (waiting_in m) o
  value_after r o e = (λ i. unwind_value (k.setting i) (k.nodes i) (k.waiting i) r) ∙ ap (around_value m (waiting_in m)) (sym e)

  pub flow_after : (r o : Ending Here (Flow Nodes)) → o ≡ r → around_flow n (waiting_in n) r ≡ around_flow m (waiting_in m) o
  flow_after r o e = (λ i. unwind_flow (k.setting i) (k.waiting i) r) ∙ ap (around_flow m (waiting_in m)) (sym e)

  one_control : (c d : Control) (before : Final) → c ≡ d → Goes (arena_in m) n d before → Goes (arena_in m) n c before
  one_control c d before e g = subst (λ x. Goes (arena_in m) n x before) (sym e) g

-- ---- calls that give a value, or nothing

module _ (m : Machine) (s : Session) (sound : Sound m) where
  abbrev After : Machine
  After = record m { session = s }

  pub gives_on : (f : Computation Here plain.Value) (given : Result Value Stop) (r : Result Control Memory) → GivesFrom f given s m.session → Settles given r → GoesToValue r After m f
  gives_on f (Ok v) (Ok c) g e =
      let k = kept m s g.grows sound in
      one_control m After k c (control.Gave v) _ e (record { same = value_after m After k _ _ g.meaning; sound = k.sound; owned = g.owns; grows = k.grows })
  gives_on f (Err (stop.Fault d)) (Ok c) g e =
      let k = kept m s g.grows sound in
      one_control m After k c (control.Failed d) _ e (record { same = value_after m After k _ _ g.meaning; sound = k.sound; owned = tt; grows = k.grows })
  gives_on f (Err stop.Memory) (Ok c) g e = elim e [ ]
  gives_on f given (Err x) g e = tt

  then_none : (f : Computation Here Here) (u : Here) → f (state_of m.session) ≡ done u (state_of s) → with_none f (state_of m.session) ≡ done plain.none_value (state_of s)
  then_none f u e = ap (λ o. then_do o (λ u. give plain.none_value)) e

  pub acts_on : (f : Computation Here Here) (given : Result Here Stop) (r : Result Control Memory) → Acts f given s m.session → SettlesNone given r → GoesToValue r After m (with_none f)
  acts_on f (Ok u) (Ok c) g e =
      let k = kept m s g.grows sound in
      one_control m After k c (control.Gave value.None) _ e (record { same = value_after m After k _ _ (then_none f u g.meaning); sound = k.sound; owned = tt; grows = k.grows })
  acts_on f (Err (stop.Fault d)) (Ok c) g e =
      let k = kept m s g.grows sound in
      one_control m After k c (control.Failed d) _ e (record { same = value_after m After k _ _ (ap (λ o. then_do o (λ u. give plain.none_value)) g.meaning); sound = k.sound; owned = tt; grows = k.grows })
  acts_on f (Err stop.Memory) (Ok c) g e = elim e [ ]
  acts_on f given (Err x) g e = tt

  -- the same at the end of a statement
  pub ends_on : (f : Computation Here Here) (given : Result Here Stop) (r : Result Control Memory) → Acts f given s m.session → SettlesFlow given r → GoesToFlow r After m (concluded f (nodes_in m))
  ends_on f (Ok u) (Ok c) g e =
      let k = kept m s g.grows sound in
      one_control m After k c (control.Went flow.On) _ e (record {
        same = (λ i. unwind_flow (k.setting i) (k.waiting i) (done (on (k.nodes i)) (state_of s))) ∙ ap (around_flow m (waiting_in m)) (sym (ap (λ o. then_do o (λ u. give (on (nodes_in m)))) g.meaning));
        sound = k.sound;
        owned = tt;
        grows = k.grows;
      })
  ends_on f (Err (stop.Fault d)) (Ok c) g e =
      let k = kept m s g.grows sound in
      one_control m After k c (control.Left d) _ e (record { same = flow_after m After k _ _ (ap (λ o. then_do o (λ u. give (on (nodes_in m)))) g.meaning); sound = k.sound; owned = tt; grows = k.grows })
  ends_on f (Err stop.Memory) (Ok c) g e = elim e [ ]
  ends_on f given (Err x) g e = tt

  -- the same, with a block that runs then
  abbrev Block : Bor (List Op) → Machine → Computation Here (Flow Nodes)
  Block body n = through (setting_of n) (ops_of m.code.file body.now) (nodes_in n)

  pub runs_on : (body : Bor (List Op)) (f : Computation Here Here) (given : Result Here Stop) (r : Result Control Memory) → Acts f given s m.session → SettlesRun body given r → GoesToFlow r After m (f >>= λ u. Block body m)
  runs_on body f (Ok u) (Ok c) g e =
      let k = kept m s g.grows sound in
      one_control m After k c (control.Run body) _ e (record {
        same = (λ i. unwind_flow (k.setting i) (k.waiting i) (through (k.setting i) (ops_of m.code.file body.now) (k.nodes i) (state_of s))) ∙ ap (around_flow m (waiting_in m)) (sym (ap (λ o. then_do o (λ u. Block body m)) g.meaning));
        sound = k.sound;
        owned = tt;
        grows = k.grows;
      })
  runs_on body f (Err (stop.Fault d)) (Ok c) g e =
      let k = kept m s g.grows sound in
      one_control m After k c (control.Left d) _ e (record { same = flow_after m After k _ _ (ap (λ o. then_do o (λ u. Block body m)) g.meaning); sound = k.sound; owned = tt; grows = k.grows })
  runs_on body f (Err stop.Memory) (Ok c) g e = elim e [ ]
  runs_on body f given (Err x) g e = tt

-- ---- values that are known

-- a number, or a name whose box has a value, after its step
pub known_by : (m : Machine) (e : plain_code.Expr) (p : Place) (v : Value) (left : ℕ) → place_in e ≡ Some p → nat_le 1 m.session.work.steps ≡ true → m.session.work.steps - 1 ≡ left → Owns (arena_in m) v →
    acted (setting_of m) p e (state_in (arena_in m) left) ≡ done (value_of (arena_in m) v) (state_in (arena_in m) left) → Known m e (v, left)
known_by m e p v left place some less owned is = record {
  value = (λ i. sym (acts_as (setting_of m) e p place) i (state_of m.session)) ∙ step_taken p (acted (setting_of m) p e) (state_of m.session) some ∙ (λ i. acted (setting_of m) p e (state_in (arena_in m) (less i))) ∙ is;
  owned = owned;
}

-- what follows from one follows from the expression
pub known_then : {E : Type 0} (m n : Machine) (e : plain_code.Expr) (found : Value × ℕ) (r : Result Control E) (f : plain.Value → Computation Here plain.Value) → Known m e found →
    IfOk r (λ c. Goes (arena_in m) n c (around_value m (waiting_in m) (f (value_of (arena_in m) found.0) (state_in (arena_in m) found.1)))) → GoesToValue r n m (λ s. then_do (evaluated (setting_of m) e s) f)
known_then m n e found r f k h = goes (arena_in m) r n (ap (around_value m (waiting_in m)) (sym (ap (λ o. then_do o f) k.value))) h

-- ---- calls that change the open nodes

pub nodes_on : (m : Machine) (b : Builder) (w : Work) (f : Part Here Nodes) (given : Result Here Stop) (r : Result Control Memory) → Sound m →
    Meets (λ u. on (nodes_of (arena_in m) b)) given (state_in (arena_in m) w.steps) (f (nodes_in m) (state_of m.session)) → OwnsNodes (arena_in m) b → SettlesFlow given r →
    GoesToFlow r (record m { nodes = b; session = record m.session { work = w } }) m (f (nodes_in m))
nodes_on m b w f (Ok u) (Ok c) sound g owned e =
    let n = record m { nodes = b; session = record m.session { work = w } } in
    subst (λ x. Goes (arena_in m) n x (around_flow m (waiting_in m) (f (nodes_in m) (state_of m.session)))) (sym e)
    (record { same = ap (around_flow m (waiting_in m)) (sym g); sound = record { scope = sound.scope; nodes = owned; frames = sound.frames }; owned = tt; grows = grows_same (arena_in m) })
nodes_on m b w f (Err (stop.Fault d)) (Ok c) sound g owned e =
    let n = record m { nodes = b; session = record m.session { work = w } } in
    subst (λ x. Goes (arena_in m) n x (around_flow m (waiting_in m) (f (nodes_in m) (state_of m.session)))) (sym e)
    (record { same = ap (around_flow m (waiting_in m)) (sym g); sound = record { scope = sound.scope; nodes = owned; frames = sound.frames }; owned = tt; grows = grows_same (arena_in m) })
nodes_on m b w f (Err stop.Memory) (Ok c) sound g owned e = elim e [ ]
nodes_on m b w f given (Err x) sound g owned e = tt
