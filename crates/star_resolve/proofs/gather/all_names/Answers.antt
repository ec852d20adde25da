use Rattle.std.proofs.Common.{◌∷◌, ◌++◌, reverse, ap, ◌∙◌}
use Rattle.star_resolve.specs.Gathered.{Gathered, front}
use Rattle.star_resolve.proofs.gather.all_names.Goals as goal

pub returns : goal.returns
returns c = λ file.
    ap (λ (g : Gathered). g.functions) c.in_ok-end_function.ensures
    ∙ (λ i. (c.new.ensures i ++ reverse (front (c.in_ok-blocks.ensures file i).inner)) ∷ (c.in_ok-blocks.ensures file i).functions)
