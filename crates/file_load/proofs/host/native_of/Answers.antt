use Rattle.star_values.specs.Objects.{seen}
use Rattle.file_load.proofs.Replying.{is_native}
use Rattle.file_load.proofs.host.native_of.Goals as goal

pub returns : goal.returns
returns c =
    let a = seen c.args.arena.now in
    is_native a c.args.native c.requires.1 _ c.in-Native.name.now c.in-Native.on c.in-Native.ensures.1 c.native_named.result c.in-Native.ensures.2 c.native_named.ensures
