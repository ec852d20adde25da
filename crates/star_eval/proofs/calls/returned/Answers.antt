use Rattle.std.proofs.Common.{◌≡◌, reverse, sym, subst, ◌∙◌}
use Rattle.node_build.proofs.Growing.{nodes_kept}
use Rattle.star_values.specs.Owns.{Each}
use Rattle.value_spec.specs.Outcomes.{done}
use Rattle.star_eval.specs.declared.frame.Control.TheVariants as control
use Rattle.star_eval.specs.declared.frame.Frame.TheVariants as frame
use Rattle.star_eval.specs.declared.frame.Machine.{Machine}
use Rattle.star_eval.specs.Calling.{functions_at}
use Rattle.star_eval.specs.Frames.{Goes, inside}
use Rattle.star_eval.specs.View.{OwnsFrame, arena_in, frames_of, in_file, waiting_with}
use Rattle.star_eval.specs.Waiting.{setting, unwind_value}
use Rattle.star_eval.proofs.Growing.{env_kept, frames_kept, reversed_each}
use Rattle.star_eval.proofs.calls.returned.Goals as goal

pub returns : goal.returns
returns c =
    let m = c.args.m.now in
    let n = c.result_of.new.m in
    let g = c.in_ok-value.ensures in
    let a = arena_in m in
    let b = arena_in n in
    let caller = c.args.caller in
    let env = env_kept a b caller.scope g.grows c.requires.caller.0 in
    let nodes = nodes_kept a b caller.nodes g.grows c.requires.caller.1 in
    let below = in_file caller.file m.code in
    let waits : frames_of b (in_file caller.file n.code) (reverse n.frames) ≡ frames_of a below (reverse m.frames) =
    (λ i. frames_of b (in_file caller.file (g.code i)) (reverse (g.frames i))) ∙ (frames_kept a b below g.grows (reverse m.frames) (reversed_each (OwnsFrame a) m.frames c.requires.sound.frames)).1 in
    subst (λ (x : Machine). Goes a x (control.Gave c.in_ok-value.value) (inside m (waiting_with m (frame.Call caller)) (control.Went c.args.flow))) (sym c.restore.ensures) (record {
      same = λ i. unwind_value (setting (functions_at (g.code i).functions caller.depth) (env.1 i)) (nodes.1 i) (waits i) (done (g.value i) (g.state i));
      sound = record { scope = env.0; nodes = nodes.0; frames = subst (Each (OwnsFrame b)) (sym g.frames) (frames_kept a b m.code g.grows m.frames c.requires.sound.frames).0 };
      owned = g.owned;
      grows = g.grows;
    })
