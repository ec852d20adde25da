use Rattle.std.proofs.Common.{◌≡◌, length, ◌==◌, true, false, rules}
use Rattle.notes_read.proofs.Saying.{bare_refused}
use Rattle.template_spec.specs.Comments.{is_bare_note}
use Rattle.notes_read.proofs.notes.note_with.Goals as goal

pub returns-then-is_bare_note : goal.returns-then-is_bare_note
returns-then-is_bare_note c =
    let some : (length c.args.args == 0) ≡ false = search rules in
    let bare : is_bare_note c.args.name.now ≡ true = search rules in
    bare_refused c.args.at.file c.args.at c.args.name.now c.args.args c.fault.result some bare c.fault.ensures
