use Rattle.std.proofs.Common.{List, Option, IsSome, ap, sym, ◌∙◌, subst}
use Rattle.std.specs.Option.{option_map}
use Rattle.std.proofs.lemmas.Bool.{false≢true}
use Rattle.star_blocks.specs.Nested.{ops_of}
use Rattle.star_blocks.specs.declared.block.Op.{Op}
use Rattle.star_file.proofs.program.nested.Goals as goal

pub unreachable-requires : goal.unreachable-requires
unreachable-requires c =
    let file = c.args.resolved.program.file in
    false≢true (subst IsSome (sym (c.in_ok-cut.ensures file) ∙ ap (λ (o : Option (List Op)). option_map (ops_of file) o) c.in-None.is) c.requires)

pub returns-clause-blocks : goal.returns-clause-blocks
returns-clause-blocks c =
    let file = c.args.resolved.program.file in
    sym (ap (λ (o : Option (List Op)). option_map (ops_of file) o) c.in-Some.is) ∙ c.in_ok-cut.ensures file
