use Rattle.std.proofs.Common.{map-id, sym, ap, ◌∙◌}
use Rattle.std.proofs.lemmas.Iterator.{YieldsList-from_chars}
use Rattle.std.proofs.lemmas.Iterator.Consumers.{YieldsList-end}
use Rattle.yaml_spec.specs.Text.{quoted_chars}
use Rattle.yaml_print.proofs.Chars.{quoted_chars-next}
use Rattle.yaml_print.proofs.Putting.{puts_then}
use Rattle.yaml_print.proofs.double_quotes.write_chars.Goals as goal

pub loop-c-preserved : goal.loop-c-preserved
loop-c-preserved g c = rw (quoted_chars-next c.loop-c.yielded c.in-Some.c) (puts_then c.loop-c.invariant c.write_char.ensures)

pub returns : goal.returns
returns g c =
    let end = YieldsList-end (YieldsList-from_chars c.args.text.now c.utf8.text cc) c.loop-c.yielded _ c.loop-c.yielded_by _ _ c.in-None.is c.next.ensures.steps in
    rw (ap quoted_chars (sym (sym (map-id c.loop-c.yielded) ∙ end.0))) c.loop-c.invariant
