use Rattle.std.proofs.Common.{◌<◌, arith, get_or, length, rules}
use Rattle.star_text.proofs.Conversions.{behind_first}
use Rattle.star_text.proofs.percent.first_ascii.Goals as goal

pub range_from-requires : goal.range_from-requires
range_from-requires c =
    let t = c.args.text.now in
    let some : 0 < length t = search (rules, arith) in
    let low : get_or t 0 0 < 128 = search (rules, arith) in
    λ h. behind_first t c.utf8.text some low
