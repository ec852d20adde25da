use Rattle.std.proofs.Common.{ap, sym, ◌∙◌}
use Rattle.node_build.specs.Parts.{noting}
use Rattle.star_values.specs.View.{arguments_in}
use Rattle.star_values.proofs.Growing.{grows_same}
use Rattle.star_eval.specs.Frames.{around_flow}
use Rattle.star_eval.specs.Meets.{Here, state_of}
use Rattle.star_eval.specs.View.{arena_in, nodes_in, waiting_in}
use Rattle.star_eval.proofs.Arguing.{note_owned}
use Rattle.star_eval.proofs.arguments.noted.Goals as goal

pub returns : goal.returns
returns c =
    let m = c.args.m.now in
    let a = arena_in m in
    let s = state_of m.session in
    let n = c.in_ok-note.ensures in
    record {
      same = ap (around_flow m (waiting_in m)) (sym (ap (λ x. noting {H = Here} x (arguments_in a.held c.args.args) (nodes_in m) s) (sym c.in_ok-name.ensures) ∙ n.meaning a s));
      sound = record { scope = c.requires.sound.scope; nodes = n.owned a (note_owned a (record { name = c.in_ok-name.name; args = c.args.args }) c.requires.args) c.requires.sound.nodes; frames = c.requires.sound.frames };
      owned = tt;
      grows = grows_same a;
    }
