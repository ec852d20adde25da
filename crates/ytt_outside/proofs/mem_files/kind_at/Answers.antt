use Rattle.std.proofs.Common.{true, false, sym, ◌∙◌}
use Rattle.ytt_outside.proofs.Folders.{kind_of-standing_in}
use Rattle.ytt_outside.proofs.mem_files.kind_at.Goals as goal

pub returns-then-is_folder : goal.returns-then-is_folder
returns-then-is_folder c =
    kind_of-standing_in c.args.entries.now c.args.path.now c.bytes_at.result true c.bytes_at.ensures (sym c.is_some.ensures ∙ c.if-is_some.false) (sym c.is_folder.ensures ∙ c.if-is_folder.true)

pub returns : goal.returns
returns c =
    kind_of-standing_in c.args.entries.now c.args.path.now c.bytes_at.result false c.bytes_at.ensures (sym c.is_some.ensures ∙ c.if-is_some.false) (sym c.is_folder.ensures ∙ c.if-is_folder.false)
