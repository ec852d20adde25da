-- A machine whose session has changed, with one more frame.
use Rattle.std.proofs.Common.{◌≡◌, List, [], ◌∷◌, ◌++◌, reverse, refl, ap, subst, sym, ◌∙◌}
use Rattle.std.proofs.lemmas.List.{reverse-append}
use Rattle.star_values.proofs.Growing.{each_joined, owns_kept}
use Rattle.star_values.specs.Owns.{Each, Grows}
use Rattle.star_values.specs.View.{View, value_in}
use Rattle.star_spec.specs.Flow.{out}
use Rattle.star_spec.specs.Language.{returns}
use Rattle.star_eval.specs.declared.frame.Flow as held
use Rattle.star_eval.specs.declared.frame.Flow.TheVariants as flow
use Rattle.star_eval.specs.declared.frame.Frame.{Frame}
use Rattle.star_eval.specs.declared.frame.Machine.{Machine}
use Rattle.star_eval.specs.declared.session.Session.{Session}
use Rattle.star_eval.specs.Frames.{flow_of}
use Rattle.star_eval.specs.Meets.{arena_of}
use Rattle.star_eval.specs.Doing.{Nodes}
use Rattle.star_eval.specs.View.{OwnsFlow, OwnsFrame, Sound, arena_in, code_under, frame_of, frames_of, waiting_in}
use Rattle.star_eval.proofs.Growing.{Kept, kept}

module _ (m : Machine) (s : Session) (f : Frame) (fs : List Frame) (g : Grows (arena_in m) (arena_of s)) (sound : Sound m) (owned : OwnsFrame (arena_of s) f) (more : fs ≡ m.frames ++ f ∷ []) where
  abbrev pub Pushed : Machine
  Pushed = record m { session = s; frames = fs }

  k : Kept m (record m { session = s })
  k = kept m s g sound

  pub pushed_sound : Sound Pushed
  pushed_sound = record {
    scope = k.sound.scope;
    nodes = k.sound.nodes;
    frames = subst (Each (OwnsFrame (arena_of s))) (sym more) (each_joined (OwnsFrame (arena_of s)) m.frames (f ∷ []) k.sound.frames (owned, tt));
  }

  -- where the frame is no caller
  pub pushed_waits : code_under m.code f ≡ m.code → waiting_in Pushed ≡ frame_of (arena_of s) m.code f ∷ waiting_in m
  pushed_waits e =
      ap (λ l. frames_of (arena_of s) m.code (reverse l)) more ∙ ap (frames_of (arena_of s) m.code) (reverse-append m.frames (f ∷ []))
      ∙ ap (λ c. frame_of (arena_of s) m.code f ∷ frames_of (arena_of s) c (reverse m.frames)) e
      ∙ ap (λ ws. frame_of (arena_of s) m.code f ∷ ws) k.waiting

-- ---- ends of blocks as the arena grows

pub flow_kept : (a b : View) (w : held.Flow) (k : Nodes) → b.held ≡ a.held → flow_of b w k ≡ flow_of a w k
flow_kept a b flow.On k e = refl
flow_kept a b flow.Break k e = refl
flow_kept a b flow.Continue k e = refl
flow_kept a b (flow.Return v) k e = ap (λ h. out (returns (value_in h v)) k) e

pub flow_owned : (a b : View) (w : held.Flow) → Grows a b → OwnsFlow a w → OwnsFlow b w
flow_owned a b flow.On g h = tt
flow_owned a b flow.Break g h = tt
flow_owned a b flow.Continue g h = tt
flow_owned a b (flow.Return v) g h = owns_kept a b v g h
