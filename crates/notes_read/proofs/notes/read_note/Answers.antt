use Rattle.std.proofs.Common.{◌≡◌, length, ◌==◌, true, false, rules}
use Rattle.template_spec.specs.Comments.{note_names}
use Rattle.yaml_spec.specs.Bytes.{is_word}
use Rattle.notes_read.proofs.Saying.{known_note}
use Rattle.notes_read.proofs.notes.read_note.Goals as goal

pub returns : goal.returns
returns c =
    let some : (length c.args.text.now == 0) ≡ false = search rules in
    let known : is_word note_names c.name_in-name.result.now ≡ true = search rules in
    λ r reads. known_note c.args.at.file r c.args.at c.args.text.now c.name_in-name.result.now c.arguments_in.result.now c.read_known.result some c.name_in-name.ensures known c.arguments_in.ensures (c.read_known.ensures r reads)
