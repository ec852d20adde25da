-- A machine whose innermost frame is taken.
use Rattle.std.proofs.Common.{◌≡◌, List, [], ◌∷◌, ◌++◌, reverse, ap, subst, ◌∙◌}
use Rattle.std.proofs.lemmas.List.{reverse-append}
use Rattle.star_values.specs.Owns.{Each}
use Rattle.star_eval.specs.declared.frame.Frame.{Frame}
use Rattle.star_eval.specs.declared.frame.Machine.{Machine}
use Rattle.star_eval.specs.View.{OwnsFrame, Sound, arena_in, frames_of, waiting_in, waiting_with}

each_last : {A : Type 0} (P : A → Type 0) (xs : List A) (x : A) → Each P (xs ++ x ∷ []) → Each P xs × P x
each_last P [] x h = (tt, h.0)
each_last P (y ∷ xs) x h = let rest = each_last P xs x h.1 in ((h.0, rest.0), rest.1)

module _ (m : Machine) (fs : List Frame) (f : Frame) (is : m.frames ≡ fs ++ f ∷ []) where
  abbrev pub Popped : Machine
  Popped = record m { frames = fs }

  parted : Sound m → Each (OwnsFrame (arena_in m)) fs × OwnsFrame (arena_in m) f
  parted sound = each_last (OwnsFrame (arena_in m)) fs f (subst (Each (OwnsFrame (arena_in m))) is sound.frames)

  pub popped_sound : Sound m → Sound Popped
  popped_sound sound = record { scope = sound.scope; nodes = sound.nodes; frames = (parted sound).0 }

  pub popped_owned : Sound m → OwnsFrame (arena_in m) f
  popped_owned sound = (parted sound).1

  pub popped_waits : waiting_in m ≡ waiting_with Popped f
  popped_waits = ap (λ l. frames_of (arena_in m) m.code (reverse l)) is ∙ ap (frames_of (arena_in m) m.code) (reverse-append fs (f ∷ []))
