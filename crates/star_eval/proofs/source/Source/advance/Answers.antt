use Rattle.std.proofs.Common.{◌≡◌, ◌+◌, rules}
use Rattle.star_values.specs.Objects.{seen}
use Rattle.star_eval.proofs.Counted.{going_on, over}
use Rattle.star_eval.proofs.source.Source.advance.Goals as goal

pub returns-in-None : goal.returns-in-None
returns-in-None c = over (seen c.args.arena.now) c.args.self c.in-None.ensures.member

pub returns : goal.returns
returns c =
    let next : c.in-Some-checked_add.next ≡ c.args.self.next + 1 = search rules in
    (going_on (seen c.args.arena.now) c.args.self c.in-Some.value c.in-Some-checked_add.next c.in-Some.ensures.member next, c.in-Some.ensures.owned, c.requires)
