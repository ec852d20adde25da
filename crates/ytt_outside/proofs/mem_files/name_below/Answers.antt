use Rattle.ytt_outside.proofs.Folders.{name_begins}
use Rattle.ytt_outside.proofs.mem_files.name_below.Goals as goal

pub range_from-rest-requires : goal.range_from-rest-requires
range_from-rest-requires c = λ h. name_begins c.args.folder.now c.args.path.now c.utf8.path c.requires
