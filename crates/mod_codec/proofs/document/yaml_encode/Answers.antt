use Rattle.std.proofs.Common.{◌≡◌, Err, rules}
use Rattle.star_steps.specs.Meets.{state_in}
use Rattle.star_values.specs.Objects.{seen}
use Rattle.star_values.specs.View.{value_of}
use Rattle.value_spec.specs.Values.{text_value}
use Rattle.ytt_base.specs.View.{tree_of}
use Rattle.mod_json.proofs.Giving.{made}
use Rattle.mod_codec.proofs.Documents.{unwritten, written}
use Rattle.mod_codec.proofs.document.yaml_encode.Goals as goal

pub returns-in_err-tree-clause-row : goal.returns-in_err-tree-clause-row
returns-in_err-tree-clause-row c =
    let a = seen c.args.arena.now in
    let stopped : c.from_residual.result ≡ Err c.in_err-tree.field-0.0 = search rules in
    unwritten c.args.at (value_of a c.args.value) c.in_err-tree.field-0.0 a c.args.work.now.steps c.to_tree.new.work.steps c.from_residual.result c.in_err-tree.ensures.meaning stopped

pub returns-clause-row : goal.returns-clause-row
returns-clause-row c =
    let a = seen c.args.arena.now in
    let s = state_in a c.args.work.now.steps in
    let u = state_in a c.to_tree.new.work.steps in
    let t = c.in_ok-text.text in
    made _ (text_value t) c.in_ok-new_text.field-0 a (seen c.new_text.new.self) c.to_tree.new.work.steps
    (written c.args.at (value_of a c.args.value) (tree_of c.in_ok-tree.tree) t s u c.in_ok-tree.ensures.meaning c.in_ok-text.ensures.utf8 c.in_ok-text.ensures.text)
    c.in_ok-new_text.ensures.made
