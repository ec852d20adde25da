use Rattle.std.proofs.Common.{ap}
use Rattle.star_functions.specs.Table.{code_in, function_in}
use Rattle.star_functions.proofs.functions.Functions.shared.Goals as goal

pub returns : goal.returns
returns c = λ file k. ap (λ files. code_in file (function_in file k files)) c.in_ok-clone.ensures.cases
