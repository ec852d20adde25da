-- What natives answer or ask for, and the keys of members, one after another.
use Rattle.std.proofs.Common.{◌≡◌, ◌+◌, ℕ, List, [], ◌∷◌, ◌++◌, drop, length, Some, None, option_map, Result, Ok, Err, slice_get, refl, ap, subst, sym, ◌∙◌}
use Rattle.std.proofs.lemmas.List.{append-nil, append_assoc, length-append, length-map, reverse-append}
use Rattle.std.proofs.lemmas.Option.{slice_get-map}
use Rattle.ytt_base.specs.declared.fault.Fault.{Fault}
use Rattle.ytt_base.specs.declared.fault.Place.{Place}
use Rattle.ytt_base.specs.declared.fault.Stop.{Stop}
use Rattle.ytt_base.specs.declared.fault.Stop.TheVariants as stop
use Rattle.builtin_spec.specs.Sorting.{Keyed, asks_keys, wanted_row, without_keys}
use Rattle.builtin_spec.specs.Sorting as spec
use Rattle.star_builtins.specs.Asked.{GivesAsked, OwnsAsked}
use Rattle.star_builtins.specs.declared.asked.Asked.{Asked}
use Rattle.star_builtins.specs.declared.asked.Asked.TheVariants as asked
use Rattle.star_calls.proofs.Opened.{none_left, split_at}
use Rattle.star_sorting.specs.View.{wanted_of}
use Rattle.star_sorting.specs.declared.wanted.Wanted.{Wanted}
use Rattle.star_spec.specs.Calls.{keys_by}
use Rattle.star_values.specs.View.{View, value_in, value_of, values_of}
use Rattle.star_values.specs.declared.value.Value.{Value}
use Rattle.value_spec.specs.Outcomes.{Computation, Ending, State, asks, bad, done, give, then_do, ◌>>=◌}
use Rattle.value_spec.specs.Values as plain
use Rattle.value_spec.specs.Values.{one_value}
use Rattle.star_eval.specs.declared.frame.Control.TheVariants as control
use Rattle.star_eval.specs.declared.frame.Frame.{Frame}
use Rattle.star_eval.specs.declared.frame.Frame.TheVariants as frame
use Rattle.star_eval.specs.declared.frame.InValue.{InValue}
use Rattle.star_eval.specs.declared.frame.Machine.{Machine}
use Rattle.star_eval.specs.declared.session.Session.{Session}
use Rattle.star_eval.specs.Calling.{calls_from}
use Rattle.star_eval.specs.Doing.{Setting, keys_then}
use Rattle.star_eval.specs.Frames.{Goes, around_value}
use Rattle.star_eval.specs.Meets.{Here, arena_of, state_of}
use Rattle.star_eval.specs.View.{Sound, arena_in, frames_of, setting_of, value_frame, waiting_in}
use Rattle.star_eval.specs.Waiting.{next_key, value_goes}
use Rattle.star_eval.proofs.Going.{value_after}
use Rattle.star_eval.proofs.Growing.{Kept, kept}

-- ---- one key after another

module _ (c : Setting) (left : ℕ) (p : Place) (w : spec.Wanted) (f : plain.Value) (vs ks : List plain.Value) where
  pub none_wanting : (s : State Here) → slice_get vs (length ks) ≡ None → keys_then c left p w f vs ks s ≡ wanted_row p w vs ks s
  none_wanting s h =
      ap (λ l. then_do (keys_by (calls_from c.function left) p f l s) (λ more. wanted_row p w vs (ks ++ more))) (none_left vs (length ks) h)
      ∙ ap (λ l. wanted_row p w vs l s) (append-nil ks)

  with_first : (k : plain.Value) (e : Ending Here (List plain.Value)) → then_do (then_do e (λ more. give (k ∷ more))) (λ more. wanted_row p w vs (ks ++ more)) ≡ then_do e (λ more. wanted_row p w vs ((ks ++ k ∷ []) ++ more))
  with_first k (done more t) = ap (λ l. wanted_row p w vs l t) (sym (append_assoc ks (k ∷ []) more))
  with_first k (bad d t) = refl
  with_first k (asks q t n) = λ i. asks q t (λ got u. with_first k (n got u) i)

  after_first : (e : Ending Here plain.Value) → then_do (then_do e (λ k. keys_by (calls_from c.function left) p f (drop (length ks + 1) vs) >>= λ more. give (k ∷ more))) (λ more. wanted_row p w vs (ks ++ more)) ≡ then_do e (value_goes c (next_key left p w f vs ks))
  after_first (done k t) =
      with_first k (keys_by (calls_from c.function left) p f (drop (length ks + 1) vs) t)
      ∙ ap (λ n. then_do (keys_by (calls_from c.function left) p f (drop n vs) t) (λ more. wanted_row p w vs ((ks ++ k ∷ []) ++ more))) (sym (length-append ks (k ∷ [])))
  after_first (bad d t) = refl
  after_first (asks q t n) = λ i. asks q t (λ got u. after_first (n got u) i)

  pub first_wanting : (v : plain.Value) (s : State Here) → slice_get vs (length ks) ≡ Some v → keys_then c left p w f vs ks s ≡ then_do (calls_from c.function left p f (one_value v) s) (value_goes c (next_key left p w f vs ks))
  first_wanting v s h =
      ap (λ l. then_do (keys_by (calls_from c.function left) p f l s) (λ more. wanted_row p w vs (ks ++ more))) (split_at vs (length ks) (length ks + 1) v h refl)
      ∙ after_first (calls_from c.function left p f (one_value v) s)

-- the member at the place behind these keys
pub at_next : (a : View) (vs ks : List Value) (i : ℕ) → i ≡ length ks → slice_get (values_of a vs) (length (values_of a ks)) ≡ option_map (value_in a.held) (slice_get vs i)
at_next a vs ks i e = ap (slice_get (values_of a vs)) (length-map ks (value_in a.held) ∙ sym e) ∙ slice_get-map (value_in a.held) vs i

-- a value's frame on the others
pub pushed : (m : Machine) (fs : List Frame) (f : InValue) → fs ≡ m.frames ++ frame.Value f ∷ [] → (r : Ending Here plain.Value) →
    around_value (record m { frames = fs }) (waiting_in (record m { frames = fs })) r ≡ around_value m (waiting_in m) (then_do r (value_goes (setting_of m) (value_frame (arena_in m) m.code.file f)))
pushed m fs f e r =
    ap (λ gs. around_value (record m { frames = gs }) (waiting_in (record m { frames = gs })) r) e
    ∙ ap (λ gs. around_value m (frames_of (arena_in m) m.code gs) r) (reverse-append m.frames (frame.Value f ∷ []))

-- ---- natives

-- f comes to what follows from what g gives or asks for, and what it gives is given
module _ (m : Machine) (s : Session) (sound : Sound m) (f : Computation Here plain.Value) (g : Computation Here Keyed) (k : Keyed → Computation Here plain.Value)
    (same : f (state_of m.session) ≡ then_do (g (state_of m.session)) k) (gives : (v : plain.Value) → k (without_keys v) ≡ give v) where
  abbrev Given : Result Asked Stop → Type 0
  Given r = GivesAsked g r (arena_in m) (arena_of s) m.session.work.steps s.work.steps

  abbrev After : Machine
  After = record m { session = s }

  pub value_given : (v : Value) (r : Result Asked Stop) → r ≡ Ok (asked.Value v) → Given r → Goes (arena_in m) After (control.Gave v) (around_value m (waiting_in m) (f (state_of m.session)))
  value_given v r is h =
      let here = subst Given is h in
      let keeps = kept m s here.grows sound in
      record { same = value_after m After keeps _ _ (same ∙ ap (λ e. then_do e k) here.meaning ∙ ap (λ n. n (state_of s)) (gives (value_of (arena_of s) v))); sound = keeps.sound; owned = here.owns; grows = keeps.grows }

  pub fault_given : (d : Fault) (r : Result Asked Stop) → r ≡ Err (stop.Fault d) → Given r → Goes (arena_in m) After (control.Failed d) (around_value m (waiting_in m) (f (state_of m.session)))
  fault_given d r is h =
      let here = subst Given is h in
      let keeps = kept m s here.grows sound in
      record { same = value_after m After keeps _ _ (same ∙ ap (λ e. then_do e k) here.meaning); sound = keeps.sound; owned = tt; grows = keeps.grows }

  -- what is asked for is owned, and what follows from it is what f comes to
  pub record KeysAsked (w : Wanted) (function : Value) (members : List Value) : Type 0 where
    pub kept : Kept m After
    pub owns : OwnsAsked (arena_of s) (asked.Keys w function members)
    pub meaning : g (state_of m.session) ≡ done (asks_keys (wanted_of w) (value_of (arena_of s) function) (values_of (arena_of s) members)) (state_of s)
    pub follows : around_value After (waiting_in After) (k (asks_keys (wanted_of w) (value_of (arena_of s) function) (values_of (arena_of s) members)) (state_of s)) ≡ around_value m (waiting_in m) (f (state_of m.session))

  pub keys_asked : (w : Wanted) (function : Value) (members : List Value) (r : Result Asked Stop) → r ≡ Ok (asked.Keys w function members) → Given r → KeysAsked w function members
  keys_asked w function members r is h =
      let here = subst Given is h in
      let keeps = kept m s here.grows sound in
      record { kept = keeps; owns = here.owns; meaning = here.meaning; follows = value_after m After keeps _ _ (same ∙ ap (λ e. then_do e k) here.meaning) }
