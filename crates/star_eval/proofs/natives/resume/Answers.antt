use Rattle.std.proofs.Common.{◌∷◌, subst, sym}
use Rattle.star_eval.specs.declared.frame.Control.TheVariants as control
use Rattle.star_eval.specs.Frames.{Goes, inside}
use Rattle.star_eval.specs.Hosts.{answer_of}
use Rattle.star_eval.specs.View.{arena_in, native_frame, waiting_in}
use Rattle.star_eval.proofs.Hosting.{told}
use Rattle.star_eval.proofs.natives.resume.Goals as goal

pub returns : goal.returns
returns c =
    let m = c.args.m.now in
    subst (λ q. Goes (arena_in m) (record m { nodes = c.args.pending.nodes }) (control.Ask c.args.pending.asking q) (inside m (native_frame (arena_in m) c.args.pending ∷ waiting_in m) (answer_of c.args.got))) (sym c.in_ok-question.ensures)
    (told m c.args.pending c.args.got c.requires.sound c.requires.pending c.requires.got)
