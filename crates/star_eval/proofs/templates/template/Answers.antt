use Rattle.star_tree.specs.Listed.{pieces_of}
use Rattle.star_eval.specs.Doing.{pieces_then}
use Rattle.star_eval.specs.Frames.{around_value}
use Rattle.star_eval.specs.Meets.{state_of}
use Rattle.star_eval.specs.View.{setting_of, waiting_in}
use Rattle.star_eval.proofs.Going.{goes}
use Rattle.star_eval.proofs.templates.template.Goals as goal

pub returns : goal.returns
returns c =
    let m = c.args.m.now in
    goes _ c.more_pieces.result c.more_pieces.new.m
    (λ i. around_value m (waiting_in m) (pieces_then (setting_of m) c.args.place (pieces_of m.code.file c.args.pieces.now) (c.new-none.ensures.bytes i) (state_of m.session)))
    c.more_pieces.ensures
