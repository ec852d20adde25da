use Rattle.std.proofs.Common.{◌≡◌, ◌+◌, ◌-◌, subst, arith}
use Rattle.std.proofs.lemmas.Str.{IsCharBoundary-after_ascii}
use Rattle.std.specs.Str.{IsCharBoundary}
use Rattle.yaml_text.proofs.white.behind.Goals as goal

pub range_from-requires : goal.range_from-requires
range_from-requires c _ =
    let t = c.args.text.now in
    let n = c.args.count - 1 in
    let more : n + 1 ≡ c.args.count = omega arith in
    subst (IsCharBoundary t) more (IsCharBoundary-after_ascii t n c.utf8.text (omega arith) c.requires.ascii)
