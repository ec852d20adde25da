use Rattle.std.proofs.Common.{◌≡◌, ◌∙◌, true, false, is_some, sym}
use Rattle.yaml_spec.specs.Plain.{start_fault}
use Rattle.yaml_rows.proofs.KeyTexts.{bare-none, bare-some}
use Rattle.yaml_rows.proofs.keys.read_bare_key.Goals as goal

pub returns-then-is_some : goal.returns-then-is_some
returns-then-is_some c =
    let fault : is_some (start_fault false c.args.text.now) ≡ true = rw c.start_fault.ensures at (sym c.is_some.ensures ∙ c.if-is_some.true) in
    sym (bare-none c.args.text.now fault)

pub returns-in_ok-plain_mark-in-Some : goal.returns-in_ok-plain_mark-in-Some
returns-in_ok-plain_mark-in-Some c =
    let fine : is_some (start_fault false c.args.text.now) ≡ false = rw c.start_fault.ensures at (sym c.is_some.ensures ∙ c.if-is_some.false) in
    rw (bare-some c.args.text.now fine, ← c.in_ok-plain_mark-in-Some.ensures, ← c.split_plain.ensures.behind, ← c.behind_colon.ensures, c.in-Some.is)

pub returns-in-None : goal.returns-in-None
returns-in-None c =
    let fine : is_some (start_fault false c.args.text.now) ≡ false = rw c.start_fault.ensures at (sym c.is_some.ensures ∙ c.if-is_some.false) in
    rw (bare-some c.args.text.now fine, ← c.split_plain.ensures.behind, ← c.behind_colon.ensures, c.in-None.is)
