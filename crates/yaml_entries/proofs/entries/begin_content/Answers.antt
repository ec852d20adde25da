use Rattle.std.proofs.Common.{◌≡◌, sym, ◌∙◌, ap, Ok, Err, rules}
use Rattle.yaml_rows.specs.View.{row_of, value_of}
use Rattle.yaml_spec.specs.Rows.{passing}
use Rattle.yaml_noted.specs.View.{comments_of}
use Rattle.yaml_entries.specs.View.{started_of}
use Rattle.yaml_pass.proofs.Contents.{content-none, content-some, content-stop, taken-none, taken-some}
use Rattle.yaml_entries.proofs.Contents.{no_passing}
use Rattle.yaml_entries.proofs.entries.begin_content.Goals as goal

pub returns-then-not-has_value-clause-content : goal.returns-then-not-has_value-clause-content
returns-then-not-has_value-clause-content c = λ before.
    content-none c.args.left (row_of before c.args.row.now) (sym (c.has_value.ensures before) ∙ c.if-not-has_value.true) ∙ (let h = c.in_ok-row_comment.ensures before in cc)

pub returns-then-not-has_value-clause-extent : goal.returns-then-not-has_value-clause-extent
returns-then-not-has_value-clause-extent c = λ before.
    rw c.new.ensures (taken-none (row_of before c.args.row.now) (sym (c.has_value.ensures before) ∙ c.if-not-has_value.true))

pub returns-in_err-value-clause-content : goal.returns-in_err-value-clause-content
returns-in_err-value-clause-content c = λ before.
    let stopped : c.from_residual-in_err-value.result ≡ Err c.in_err-value.field-0.0 = search rules in
    let none : passing (row_of before c.args.row.now) ≡ comments_of c.new-2.result = rw c.new-2.ensures (no_passing c.args.row.now.heads before c.requires.heads) in
    content-stop value_of started_of c.args.left (row_of before c.args.row.now) _ _ stopped (sym (c.has_value.ensures before) ∙ c.if-not-has_value.false) (c.in_err-value.ensures before none)

pub returns-clause-content : goal.returns-clause-content
returns-clause-content c = λ before.
    let none : passing (row_of before c.args.row.now) ≡ comments_of c.new-2.result = rw c.new-2.ensures (no_passing c.args.row.now.heads before c.requires.heads) in
    content-some c.args.left (row_of before c.args.row.now) (value_of c.in_ok-value.value) (sym (c.has_value.ensures before) ∙ c.if-not-has_value.false) (c.in_ok-value.ensures before none) ∙ ap Ok (sym c.in_ok-filled_by.ensures.content)

pub returns-clause-extent : goal.returns-clause-extent
returns-clause-extent c = λ before.
    let none : passing (row_of before c.args.row.now) ≡ comments_of c.new-2.result = rw c.new-2.ensures (no_passing c.args.row.now.heads before c.requires.heads) in
    taken-some c.args.left (row_of before c.args.row.now) (value_of c.in_ok-value.value) c.requires.shallow (sym (c.has_value.ensures before) ∙ c.if-not-has_value.false) (c.in_ok-value.ensures before none) ∙ ap Ok (sym c.in_ok-filled_by.ensures.extent)
