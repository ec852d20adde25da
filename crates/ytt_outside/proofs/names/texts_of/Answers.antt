use Rattle.std.proofs.Common.{◌≡◌, map, string_bytes, rules, subst, sym}
use Rattle.ytt_outside.specs.Names.{AreSorted}
use Rattle.ytt_outside.proofs.SortedNames.{AreSorted-strings}
use Rattle.ytt_outside.proofs.names.texts_of.Goals as goal

pub returns-clause-sorted : goal.returns-clause-sorted
returns-clause-sorted c =
    let all : c.loop-string.names ≡ map string_bytes c.args.strings.keys = search rules in
    subst AreSorted (sym all) (AreSorted-strings _ c.into_iter-string-iterator.ensures.into_iter_gives.4)
