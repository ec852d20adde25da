use Rattle.std.proofs.Common.{subst}
use Rattle.value_spec.specs.Outcomes.{give}
use Rattle.value_spec.specs.Values.{text_value}
use Rattle.star_eval.specs.Meets.{GivesFrom}
use Rattle.star_eval.proofs.Going.{gives_on}
use Rattle.star_eval.proofs.eval.literal.Goals as goal

pub returns : goal.returns
returns c =
    let m = c.args.m.now in
    gives_on m c.make_text.new.session c.requires (give (text_value c.args.text.now)) c.make_text.result c.settle.result
    (subst (λ t. GivesFrom (give (text_value t)) c.make_text.result c.make_text.new.session m.session) c.in_ok-copy.ensures c.make_text.ensures) c.settle.ensures
