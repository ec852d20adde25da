use Rattle.std.proofs.Common.{◌∙◌, ap, length}
use Rattle.star_resolve.proofs.Sets.{length_same}
use Rattle.star_resolve.proofs.scope.Scope.len.Goals as goal

pub returns : goal.returns
returns c = c.len.ensures.len ∙ length_same c.self.inside.names.keys ∙ ap length c.self.view_is
