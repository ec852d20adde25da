use Rattle.text_template.proofs.Cutting.{finds_mark}
use Rattle.text_template.proofs.cut.is_templated.Goals as goal

pub returns : goal.returns
returns c = finds_mark c.contains.result c.args.text.now c.contains.ensures.cases
