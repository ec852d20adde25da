use Rattle.std.proofs.Common.{rules, ◌≡◌, ◌++◌, ◌∷◌, [], ap, sym, ◌∙◌, refl}
use Rattle.star_blocks.specs.Nested.{ops_of}
use Rattle.star_spec.specs.Flow.{turns}
use Rattle.star_tree.specs.Whole.{expr_of}
use Rattle.star_eval.specs.declared.frame.Frame.TheVariants as frame
use Rattle.star_eval.specs.declared.frame.InBlock.TheVariants as in_block_frame
use Rattle.star_eval.specs.Meets.{arena_of}
use Rattle.star_eval.specs.Sources.{left_of}
use Rattle.star_eval.specs.View.{arena_in}
use Rattle.star_eval.specs.Waiting.{turn_of, unwind_flow}
use Rattle.star_eval.proofs.Going.{goes_after}
use Rattle.star_eval.proofs.Growing.{kept, walked_kept}
use Rattle.star_eval.proofs.Walks.{pushed_sound, pushed_waits}
use Rattle.star_eval.proofs.walk.walk_object.Goals as goal

pub turn-requires-clause-sound : goal.turn-requires-clause-sound
turn-requires-clause-sound c =
    let m = c.args.m.now in
    let more : c.push.new.self ≡ m.frames ++ frame.Block (in_block_frame.WalkEnd c.args.object) ∷ [] = search rules in
    let g = c.in_ok-members.ensures.begins.grows in
    pushed_sound m c.begin.new.session (frame.Block (in_block_frame.WalkEnd c.args.object)) c.push.new.self g c.requires.sound (walked_kept (arena_in m) (arena_of c.begin.new.session) c.args.object g c.requires.object) more

pub turn-requires-clause-source : goal.turn-requires-clause-source
turn-requires-clause-source c =
    let m = c.args.m.now in
    rw c.of.ensures c.in_ok-members.ensures.owned

pub returns : goal.returns
returns c =
    let m = c.args.m.now in
    let s = c.begin.new.session in
    let b = c.in_ok-members.ensures.begins in
    let k = kept m s b.grows c.requires.sound in
    let more : c.push.new.self ≡ m.frames ++ frame.Block (in_block_frame.WalkEnd c.args.object) ∷ [] = search rules in
    let waits = pushed_waits m s (frame.Block (in_block_frame.WalkEnd c.args.object)) c.push.new.self b.grows c.requires.sound (walked_kept (arena_in m) (arena_of s) c.args.object b.grows c.requires.object) more refl in
    let members = ap (left_of (arena_of s)) c.of.ensures ∙ sym c.in_ok-members.ensures.members in
    let p = c.args.place in
    let x = expr_of m.code.file c.args.target.now in
    let os = ops_of m.code.file c.args.body.now in
    goes_after (arena_in m) (arena_of s) c.turn.result c.turn.new.m b.grows (λ i. unwind_flow (k.setting i) (waits i) (turns p (turn_of (k.setting i) p x os) (members i) (k.nodes i) (b.state i))) c.turn.ensures
