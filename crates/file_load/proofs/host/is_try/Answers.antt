use Rattle.std.proofs.Common.{◌∙◌, List, ℕ, ap, bytes_eq, codes, sym}
use Rattle.star_values.specs.Objects.{seen}
use Rattle.file_load.proofs.Replying.{its_name}
use Rattle.file_load.proofs.host.is_try.Goals as goal

pub returns : goal.returns
returns c =
    let a = seen c.args.arena.now in
    c.names_try.ensures ∙ ap (λ (x : List ℕ). bytes_eq x (codes "assert.try_to")) (sym (its_name a c.args.native c.requires.1 _ c.in-Native.name.now _ c.in-Native.ensures.1))
