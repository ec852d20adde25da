use Rattle.std.proofs.Common.{List, ap, ◌∙◌}
use Rattle.template_tree.specs.declared.tree.TNote.{TNote}
use Rattle.template_tree.specs.View.{notes_of}
use Rattle.template_tree.proofs.Slotting.{notes_join}
use Rattle.template_tree.proofs.slots.joined.Goals as goal

pub returns : goal.returns
returns c = λ file. ap (λ (ns : List TNote). notes_of file ns) c.in_ok-append.ensures ∙ notes_join file c.args.before c.args.beside
