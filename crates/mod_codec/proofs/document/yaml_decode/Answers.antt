use Rattle.std.proofs.Common.{◌≡◌, Err, ap, subst, sym, ◌∙◌, rules}
use Rattle.module_spec.specs.YamlCodec.{tree_read}
use Rattle.star_steps.specs.Meets.{Meets, state_in}
use Rattle.star_values.specs.Objects.{seen}
use Rattle.star_values.specs.View.{text_in}
use Rattle.value_spec.specs.Outcomes.{done, or_fail}
use Rattle.ytt_base.specs.View.{tree_of}
use Rattle.ytt_base.specs.declared.fault.FaultKind.TheVariants as kind
use Rattle.mod_json.specs.View.{text_at}
use Rattle.mod_codec.proofs.Documents.{read_as, unread}
use Rattle.mod_codec.proofs.document.yaml_decode.Goals as goal

pub returns-in_err-tree : goal.returns-in_err-tree
returns-in_err-tree c =
    let a = seen c.args.arena.now in
    let s = state_in a c.args.steps.now in
    let stopped : c.from_residual.result ≡ Err c.in_err-tree.field-0.0 = search rules in
    let same : c.as_str.result.now ≡ text_at a c.args.text = c.as_str.ensures ∙ sym (ap text_in c.text.ensures) in
    unread c.args.at (text_at a c.args.text) a c.args.steps.now c.in_err-tree.field-0.0 c.from_residual.result
    (subst (λ t. Meets tree_of (Err c.in_err-tree.field-0.0) s (or_fail kind.CodecForm c.args.at (tree_read t) s)) same (c.in_err-tree.ensures s)) stopped

pub returns : goal.returns
returns c =
    let a = seen c.args.arena.now in
    let s = state_in a c.args.steps.now in
    let x = tree_of c.in_ok-tree.tree in
    let same : c.as_str.result.now ≡ text_at a c.args.text = c.as_str.ensures ∙ sym (ap text_in c.text.ensures) in
    read_as c.args.at (text_at a c.args.text) a c.args.steps.now x c.give_tree.result (seen c.give_tree.new.arena) c.give_tree.new.steps
    (subst (λ t. or_fail kind.CodecForm c.args.at (tree_read t) s ≡ done x s) same (c.in_ok-tree.ensures s)) c.give_tree.ensures
