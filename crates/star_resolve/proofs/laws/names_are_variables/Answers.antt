use Rattle.star_resolve.proofs.Frames as boxes
use Rattle.star_resolve.proofs.laws.names_are_variables.Goals as goal

pub returns-clause-boxes : goal.returns-clause-boxes
returns-clause-boxes c = boxes.names_are_variables

pub returns-clause-own : goal.returns-clause-own
returns-clause-own c = boxes.own_names_have_boxes
