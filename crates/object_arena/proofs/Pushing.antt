-- A held thing comes to an arena, where none stands that is the same.
use Rattle.std.proofs.Common.{◌≡◌, ◌<◌, ◌∷◌, ◌++◌, if◌then◌else◌}
use Rattle.object_arena.proofs.Names.{inl, inr, ℕ, Bool, true, false, true≢false, List, [], length, get_or, Some, slice_get, refl, sym, ap, subst, ◌∙◌, arith, list_any, list_any_at, get_or_from_slice_get, slice_get-get_or, slice_get_within, insert_key, IsKey, text_value, tuple_value, values_from, Held, Object, held_value, held_of, store_in, view_of, Grows, OwnsHeld, NumberedAt, SameHeld, Sound, MeansSame, View, grows_same, held_kept, same_if_key, IsNew, front_or_last, held_length, view_more_held, grows_more_held, sound_more_held, held_here, some_same}
use Rattle.value_spec.specs.Values as plain
use Rattle.star_values.specs.declared.held.Held.TheVariants as held
use Rattle.star_values.specs.View.{values_in}

-- where a test finds none that is the same, none stands
not_there : (test : Held → Held → Bool) → MeansSame test → (hs : List Held) (h : Held) → list_any (test h) hs ≡ false → (i : ℕ) (g : Held) → slice_get hs i ≡ Some g → SameHeld h g → ⊥
not_there test means hs h none i g at same = true≢false (sym (list_any_at (test h) hs i g (slice_get_within hs i g at) (ap (test h) (get_or_from_slice_get hs i g g at) ∙ (means h g).1 same)) ∙ none)

-- nor the same key
not_key : (test : Held → Held → Bool) → MeansSame test → (hs : List Held) (os : List Object) (h : Held) → Sound (record { held = hs; objects = os }) → OwnsHeld (view_of hs os) h → list_any (test h) hs ≡ false → IsNew (held_of hs) (held_value (held_of hs) h)
not_key test means hs os h s o none i key at =
    let lt : i < length hs = omega (arith, slice_get_within (held_of hs) i (held_value (held_of hs) h) at, held_length hs) in
    let g = get_or hs i h in
    let there = slice_get-get_or hs i h lt in
    let r = held_here hs os i g s there in
    let e : held_value (held_of hs) h ≡ held_value (held_of hs) g = some_same _ _ (sym at ∙ r.0) in
    not_there test means hs h none i g there (same_if_key (view_of hs os) s.once h g o r.1 (subst IsKey e key) e)

-- one that stands before is the same value
old_value : (before : List plain.Value) (i : ℕ) (h k : Held) → SameHeld h k → NumberedAt i k → NumberedAt (length before) h → i < length before → held_value before k ≡ held_value before h
old_value before i (held.Text v) (held.Text w) s n m lt = ap text_value (sym s)
old_value before i (held.Tuple vs) (held.Tuple ws) s n m lt = ap (λ us. tuple_value (values_from (values_in before us))) (sym s)
old_value before i (held.Other p) (held.Other q) s n m lt = absurd (omega (arith, s, n, m, lt))
old_value before i _ _ s n m lt = absurd s

-- ---- a thing that is put where it stands, or behind the others

-- what holds after it
pub record Pushed (hs : List Held) (os : List Object) (h : Held) (more : List Held) : Type 0 where
  pub sound : Sound (record { held = more; objects = os })
  pub grows : Grows (view_of hs os) (view_of more os)
  pub store : store_in (held_of more) os ≡ store_in (held_of hs) os
  pub here : (i : ℕ) (k : Held) → slice_get more i ≡ Some k → SameHeld h k → slice_get (held_of more) i ≡ Some (held_value (held_of hs) h)

by_test : (test : Held → Held → Bool) → MeansSame test → (hs : List Held) (os : List Object) (h : Held) (found : Bool) → list_any (test h) hs ≡ found → Sound (record { held = hs; objects = os }) → OwnsHeld (view_of hs os) h → NumberedAt (length (held_of hs)) h → Pushed hs os h (if found then hs else hs ++ h ∷ [])
by_test test means hs os h true e s o n = record {
  sound = s;
  grows = grows_same (view_of hs os);
  store = refl;
  here = λ i k at same.
      let lt : i < length (held_of hs) = omega (arith, slice_get_within hs i k at, held_length hs) in
      (held_here hs os i k s at).0 ∙ ap Some (old_value (held_of hs) i h k same (held_here hs os i k s at).2 n lt);
}
by_test test means hs os h false e s o n =
    let sound = sound_more_held hs os h s o n (not_key test means hs os h s o e) in
    let grows = grows_more_held hs os h s in
    record {
      sound = sound;
      grows = grows;
      store = ap (λ (v : View). v.store) (view_more_held hs os h s);
      here = λ i k at same.
          let is_it : k ≡ h = elim (front_or_last hs h i k at) [ inl before ↦ absurd (not_there test means hs h e i k before same) | inr last ↦ last.1 ] in
          (held_here (hs ++ h ∷ []) os i k sound at).0
          ∙ ap (λ k. Some (held_value (held_of (hs ++ h ∷ [])) k)) is_it
          ∙ ap Some (held_kept (view_of hs os) (view_of (hs ++ h ∷ []) os) h grows o).1;
    }

pub pushed : (test : Held → Held → Bool) → MeansSame test → (hs : List Held) (os : List Object) (h : Held) → Sound (record { held = hs; objects = os }) → OwnsHeld (view_of hs os) h → NumberedAt (length (held_of hs)) h → Pushed hs os h (insert_key test hs h)
pushed test means hs os h s o n = by_test test means hs os h (list_any (test h) hs) refl s o n
