-- A comprehension has begun: its clauses go on in their scope, and what is around it waits.
use Rattle.std.proofs.Common.{◌≡◌, ◌++◌, ◌∷◌, [], List, ap, sym, ◌∙◌, refl}
use Rattle.code_spec.specs.Code.{Clauses, Expr, for_clause}
use Rattle.code_spec.specs.Names.{clauses_names}
use Rattle.star_resolve.proofs.Frames.{new_frames}
use Rattle.star_values.proofs.Growing.{value_kept}
use Rattle.star_values.specs.Owns.{Owns}
use Rattle.star_values.specs.View.{value_of}
use Rattle.star_values.specs.declared.object.NamedBox.{NamedBox}
use Rattle.star_values.specs.declared.value.Value as held
use Rattle.value_spec.specs.Outcomes.{then_do, ◌>>=◌}
use Rattle.ytt_base.specs.declared.fault.Place.{Place}
use Rattle.star_eval.specs.declared.frame.Bag as held_bag
use Rattle.star_eval.specs.declared.frame.Frame.{Frame}
use Rattle.star_eval.specs.declared.frame.Frame.TheVariants as frame
use Rattle.star_eval.specs.declared.frame.Machine.{Machine}
use Rattle.star_eval.specs.declared.session.Session.{Session}
use Rattle.star_eval.specs.Doing.{Bag, Setting, clause_looped, comprehended, evaluated, first_done, flow_made, in_scope}
use Rattle.star_eval.specs.Frames.{OpensClauses, around_bag, around_value}
use Rattle.star_eval.specs.Meets.{arena_of, state_of}
use Rattle.star_eval.specs.View.{OwnsBag, Sound, arena_in, bag_of, env_of, nodes_in, setting_of, waiting_in}
use Rattle.star_eval.specs.Waiting.{gather, unwind_bag, unwind_value}
use Rattle.star_spec.specs.Names.{with_boxes}
use Rattle.star_eval.proofs.Chaining.{chained}
use Rattle.star_eval.proofs.Growing.{Kept, bag_kept, env_kept, kept}
use Rattle.star_eval.proofs.Walks.{pushed_sound, pushed_waits}

-- the members of the first clause come first
pub comprehended_first : (c : Setting) (p : Place) (x e : Expr) (cs : Clauses) (b : Bag) → comprehended c p (for_clause x e cs) b ≡ (evaluated c e >>= first_done c p (for_clause x e cs) b)
comprehended_first c p x e cs b =
    chained (evaluated c e) (λ v. with_boxes (clauses_names (for_clause x e cs)) [] >>= λ own. clause_looped (in_scope c own) p x cs v b) flow_made
    ∙ (λ i. evaluated c e >>= λ v. chained (with_boxes (clauses_names (for_clause x e cs)) []) (λ own. clause_looped (in_scope c own) p x cs v b) flow_made i)

module _ (m : Machine) (s : Session) (scope : List NamedBox) (fs : List Frame) (x e : Expr) (cs : Clauses) (o : OpensClauses (clauses_names (for_clause x e cs)) (env_of m) m.session s scope) (sound : Sound m) (more : fs ≡ m.frames ++ frame.Gather m.scope ∷ []) where
  abbrev pub Begun : Machine
  Begun = record m { scope = scope; session = s; frames = fs }

  unmoved : Kept m (record m { session = s })
  unmoved = kept m s o.grows sound

  pub begun_sound : Sound Begun
  begun_sound = record {
    scope = o.owned;
    nodes = unmoved.sound.nodes;
    frames = (pushed_sound m s (frame.Gather m.scope) fs o.grows sound unmoved.sound.scope more).frames;
  }

  begun_waits : waiting_in Begun ≡ gather (env_of m) ∷ waiting_in m
  begun_waits =
      pushed_waits m s (frame.Gather m.scope) fs o.grows sound unmoved.sound.scope more refl
      ∙ ap (λ env. gather env ∷ waiting_in m) (env_kept (arena_in m) (arena_of s) m.scope o.grows sound.scope).1

  module _ (p : Place) (w : held.Value) (bag : held_bag.Bag) (value : Owns (arena_in m) w) (owned : OwnsBag (arena_in m) bag) where
    pub begun_same : around_bag Begun (waiting_in Begun) (clause_looped (setting_of Begun) p x cs (value_of (arena_of s) w) (bag_of (arena_of s) m.code.file bag) (state_of s)) ≡
        around_value m (waiting_in m) (first_done (setting_of m) p (for_clause x e cs) (bag_of (arena_in m) m.code.file bag) (value_of (arena_in m) w) (state_of m.session))
    begun_same =
        let names = clauses_names (for_clause x e cs) in
        let v = value_of (arena_in m) w in
        let b = bag_of (arena_in m) m.code.file bag in
        let same = value_kept (arena_in m) (arena_of s) w o.grows value in
        let bags = (bag_kept (arena_in m) (arena_of s) m.code.file o.grows bag owned).1 in
        (λ i. unwind_bag (record (setting_of m) { env = o.env i }) (unmoved.nodes i) (begun_waits i) (clause_looped (record (setting_of m) { env = o.env i }) p x cs (same i) (bags i) (o.state i)))
        ∙ (λ i. unwind_value (setting_of m) (nodes_in m) (waiting_in m) (then_do (sym (new_frames names (state_of m.session)).0 i) (λ own. clause_looped (in_scope (setting_of m) own) p x cs v b >>= flow_made)))
