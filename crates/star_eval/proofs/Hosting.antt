-- Natives of a host: what they are asked, what they ask for, and what follows from an answer.
use Rattle.std.proofs.Common.{◌≡◌, ℕ, zero, suc, ◌-◌, [], ◌∷◌, ◌++◌, Result, Ok, Err, IfOk, true, arith, refl, ap, subst, sym, ◌∙◌}
use Rattle.std.proofs.lemmas.List.{reverse-append}
use Rattle.ytt_base.specs.declared.fault.Fault.{Fault}
use Rattle.ytt_base.specs.declared.fault.FaultKind.TheVariants as kind
use Rattle.ytt_base.specs.declared.fault.Place.{Place}
use Rattle.ytt_base.specs.declared.fault.Stop.{Stop}
use Rattle.ytt_base.specs.declared.fault.Stop.TheVariants as stop
use Rattle.ytt_base.specs.declared.text.Memory.{Memory}
use Rattle.ytt_base.specs.Outcomes.{fault_at}
use Rattle.code_spec.specs.Code.{Name}
use Rattle.star_spec.specs.Calls.{asking, resumed_with}
use Rattle.star_spec.specs.Hosts.{Answers}
use Rattle.star_spec.specs.Language.{Call}
use Rattle.star_values.proofs.Growing.{each_joined, grows_same, grows_then}
use Rattle.star_values.specs.Owns.{Grows, Owns, OwnsArguments}
use Rattle.star_values.specs.View.{arguments_in, value_of}
use Rattle.star_values.specs.declared.value.CallArgs.{CallArgs}
use Rattle.star_values.specs.declared.value.Ref.{Ref}
use Rattle.star_values.specs.declared.value.Reply as held
use Rattle.star_values.specs.declared.value.Reply.TheVariants as reply
use Rattle.star_values.specs.declared.value.Value.{Value}
use Rattle.star_values.specs.declared.value.Value.TheVariants as value
use Rattle.value_spec.specs.Outcomes.{Ending, State, answer, bad, call_then, give, paid, then_do}
use Rattle.value_spec.specs.Values as plain
use Rattle.value_spec.specs.Values.{Arguments, Values}
use Rattle.star_eval.specs.declared.frame.Asking.{Asking}
use Rattle.star_eval.specs.declared.frame.Control.{Control}
use Rattle.star_eval.specs.declared.frame.Control.TheVariants as control
use Rattle.star_eval.specs.declared.frame.Frame.TheVariants as frame
use Rattle.star_eval.specs.declared.frame.Machine.{Machine}
use Rattle.star_eval.specs.declared.frame.Pending.{Pending}
use Rattle.star_eval.specs.declared.frame.Question.{Question}
use Rattle.star_eval.specs.declared.frame.Question.TheVariants as question
use Rattle.star_eval.specs.declared.session.Session.{Session}
use Rattle.star_eval.specs.Calling.{after_replied, calls_from}
use Rattle.star_eval.specs.Frames.{Goes, GoesToValue, Waits, after_answer, around_value, inside, means}
use Rattle.star_eval.specs.Hosted.{Comes, hosted_at}
use Rattle.star_steps.specs.Replies.{OwnsGot, OwnsReply, reply_of}
use Rattle.star_eval.specs.Hosts.{HostGives, OwnsHosted, answer_of, host_held, host_name, is_hosted, native_at, question_of}
use Rattle.star_eval.specs.Meets.{Here, arena_of, state_of}
use Rattle.star_eval.specs.View.{OwnsFrame, OwnsPending, Sound, arena_in, frames_of, native_frame, nodes_in, setting_of, waiting_in}
use Rattle.star_eval.proofs.Asks.{answered_at, value_out}
use Rattle.star_eval.proofs.Calling.{by_host}
use Rattle.star_eval.proofs.Going.{value_after}
use Rattle.star_eval.proofs.Growing.{hosted_kept, kept, native_kept}

-- a call of a native of a host is a question
pub asked_host : (m : Machine) (left : ℕ) (p : Place) (r : Ref) (args : CallArgs) → Sound m → Owns (arena_in m) (value.Native r) → is_hosted (native_at (arena_in m) r) ≡ true → OwnsArguments (arena_in m) args →
    Goes (arena_in m) m (control.Ask (record { left = left; place = p; native = r }) (question.Called args)) (around_value m (waiting_in m) (calls_from (setting_of m).function left p (value_of (arena_in m) (value.Native r)) (arguments_in (arena_in m).held args) (state_of m.session)))
asked_host m left p r args sound owned is given = record {
  same = ap (around_value m (waiting_in m)) (sym (by_host (setting_of m).function left p (arguments_in (arena_in m).held args) (state_of m.session) (native_at (arena_in m) r) is));
  sound = sound;
  owned = ((owned, is), given);
  grows = grows_same (arena_in m);
}

-- ---- replies

module _ (f : Call Here) (p : Place) (x : Name) (held_values : Values) where
  value_replied : (left : ℕ) (v : plain.Value) → after_replied f left p x held_values (answer v) ≡ give v
  unfolding after_replied
  value_replied left v = refl

  pub call_refused : (left : ℕ) (g : plain.Value) (vs : Arguments) (tag : ℕ) (s : State Here) → left ≡ 0 → after_replied f left p x held_values (call_then g vs tag) s ≡ bad (fault_at kind.Steps p) s
  unfolding after_replied
  call_refused zero g vs tag s e = refl
  call_refused (suc left) g vs tag s e = absurd (omega (arith, e))

  pub call_asked : (left : ℕ) (g : plain.Value) (vs : Arguments) (tag : ℕ) → (left ≡ 0 → ⊥) →
      after_replied f left p x held_values (call_then g vs tag) ≡ paid p (λ s. then_do (resumed_with asking p x held_values tag (calls_from f (left - 1) p g vs s)) (after_replied f (left - 1) p x held_values))
  unfolding after_replied calls_from
  call_asked zero g vs tag e = absurd (e refl)
  call_asked (suc left) g vs tag e =
      let less : left ≡ suc left - 1 = omega arith in
      next ∙ (λ i. paid p (λ s. then_do (resumed_with asking p x held_values tag (calls_from f (less i) p g vs s)) (after_replied f (less i) p x held_values)))
    where
      next : after_replied f (suc left) p x held_values (call_then g vs tag) ≡ paid p (λ s. then_do (resumed_with asking p x held_values tag (calls_from f left p g vs s)) (after_replied f left p x held_values))
      next = refl

-- a value that a native answers is given
pub value_answered : (m : Machine) (k : Asking) (v : Value) (r : held.Reply) → r ≡ reply.Value v → Sound m → OwnsReply (arena_in m) r → Goes (arena_in m) m (control.Gave v) (around_value m (waiting_in m) (after_answer m k (reply_of (arena_in m) r) (state_of m.session)))
value_answered m k v r is sound owned =
    let x = native_at (arena_in m) k.native in
    subst (λ r. Goes (arena_in m) m (control.Gave v) (around_value m (waiting_in m) (after_answer m k (reply_of (arena_in m) r) (state_of m.session)))) (sym is) (record {
      same = λ i. around_value m (waiting_in m) (sym (value_replied (setting_of m).function k.place (host_name x) (host_held x) k.left (value_of (arena_in m) v)) i (state_of m.session));
      sound = sound;
      owned = subst (OwnsReply (arena_in m)) is owned;
      grows = grows_same (arena_in m);
    })

-- ---- a native waits for the call that it asked for

module _ (m n : Machine) (k : Asking) (tag : ℕ) (o : Waits k tag m n) (sound : Sound m) (native : OwnsHosted (arena_in m) k.native) where
  abbrev Held : Pending
  Held = record { asking = k; tag = tag; nodes = m.nodes }

  abbrev pub Begun : Machine
  Begun = record m { nodes = o.nodes; frames = m.frames ++ frame.Native Held ∷ [] }

  begun_sound : Sound Begun
  begun_sound = record { scope = sound.scope; nodes = o.owned (arena_in m); frames = each_joined (OwnsFrame (arena_in m)) m.frames (frame.Native Held ∷ []) sound.frames ((native, sound.nodes), tt) }

  begun_waits : waiting_in Begun ≡ native_frame (arena_in m) Held ∷ waiting_in m
  begun_waits = ap (frames_of (arena_in m) m.code) (reverse-append m.frames (frame.Native Held ∷ []))

  pub waits_sound : Sound n
  waits_sound = subst Sound (sym o.is) begun_sound

  pub waits_grows : Grows (arena_in m) (arena_in n)
  waits_grows = subst (λ (x : Machine). Grows (arena_in m) (arena_in x)) (sym o.is) (grows_same (arena_in m))

  pub waits_value : (f : Machine → Ending Here plain.Value) → around_value n (waiting_in n) (f n) ≡
      around_value m (waiting_in m) (then_do (resumed_with asking k.place (host_name (native_at (arena_in m) k.native)) (host_held (native_at (arena_in m) k.native)) tag (f Begun)) (after_answer m k))
  waits_value f = ap (λ (x : Machine). around_value x (waiting_in x) (f x)) o.is ∙ ap (λ ws. around_value Begun ws (f Begun)) begun_waits

-- it is told of what the call came to
pub told : (m : Machine) (p : Pending) (got : Result Value Fault) → Sound m → OwnsPending (arena_in m) p → OwnsGot (arena_in m) got →
    Goes (arena_in m) (record m { nodes = p.nodes }) (control.Ask p.asking (question.Resumed p.tag got)) (inside m (native_frame (arena_in m) p ∷ waiting_in m) (answer_of got))
told m p (Ok v) sound owned given = record { same = refl; sound = record { scope = sound.scope; nodes = owned.1; frames = sound.frames }; owned = (owned.0, given); grows = grows_same (arena_in m) }
told m p (Err e) sound owned given = record { same = refl; sound = record { scope = sound.scope; nodes = owned.1; frames = sound.frames }; owned = (owned.0, given); grows = grows_same (arena_in m) }

-- ---- the host has answered

module _ {H : Type 0} (answers : Answers H) (m : Machine) (k : Asking) (q : Question) (s : Session) (now then : H) (sound : Sound m) (native : OwnsHosted (arena_in m) k.native) where
  abbrev After : Machine
  After = record m { session = s }

  abbrev Gives : Result held.Reply Stop → Type 0
  Gives r = HostGives answers (question_of (arena_in m) k q) r s m.session now then

  module _ (r : held.Reply) (h : Gives (Ok r)) where
    pub reply_sound : Sound After
    reply_sound = (kept m s h.grows sound).sound

    pub reply_hosted : OwnsHosted (arena_of s) k.native
    reply_hosted = hosted_kept (arena_in m) (arena_of s) k.native h.grows native

    -- what follows from the answer comes of the question
    pub reply_comes : (result : Result Control Memory) (n : Machine) → GoesToValue result n After (after_answer After k (reply_of (arena_of s) r)) → IfOk result (λ c. Comes answers (arena_in m) n c now (hosted_at answers (means m (control.Ask k q)) then))
    reply_comes (Err e) n g = tt
    reply_comes (Ok c) n g =
        let keeps = kept m s h.grows sound in
        let x = native_kept (arena_in m) (arena_of s) k.native h.grows native in
        let f = (setting_of m).function in
        let y = reply_of (arena_of s) r in
        record {
          same = ap (λ e. hosted_at answers e now) (g.same ∙ value_after m After keeps _ _ (λ i. after_replied f k.left k.place (host_name (sym x i)) (host_held (sym x i)) y (state_of s)))
              ∙ answered_at answers (question_of (arena_in m) k q) (state_of m.session) (state_of s) _ _ (Ok y) then now (value_out (question_of (arena_in m) k q) (state_of m.session) (setting_of m) (nodes_in m) (waiting_in m) _) h.meaning;
          sound = g.sound;
          owned = g.owned;
          grows = grows_then (arena_in m) (arena_of s) (arena_in n) h.grows g.grows;
        }

  pub fault_comes : (d : Fault) → Gives (Err (stop.Fault d)) → Comes answers (arena_in m) After (control.Failed d) now (hosted_at answers (means m (control.Ask k q)) then)
  fault_comes d h =
      let keeps = kept m s h.grows sound in
      record {
        same = ap (λ e. hosted_at answers e now) (value_after m After keeps _ _ refl)
            ∙ answered_at answers (question_of (arena_in m) k q) (state_of m.session) (state_of s) _ _ (Err d) then now (value_out (question_of (arena_in m) k q) (state_of m.session) (setting_of m) (nodes_in m) (waiting_in m) _) h.meaning;
        sound = keeps.sound;
        owned = tt;
        grows = h.grows;
      }
