use Rattle.star_values.specs.Objects.{seen}
use Rattle.mod_basic.proofs.Checking.{rule_made, rule_owned}
use Rattle.mod_basic.proofs.asserts.rule_held.Goals as goal

pub new_tuple-requires : goal.new_tuple-requires
new_tuple-requires c =
    rule_owned (seen c.args.arena.now) (seen c.new_text.new.self) c.in_ok-name.name c.in_ok-name-2.name c.args.of.now c.as_slice.result.now (rw c.as_slice.ensures c.in_ok-parts.ensures) c.in_ok-name-2.ensures.made c.requires

pub returns : goal.returns
returns c =
    rule_made (seen c.args.arena.now) (seen c.new_text.new.self) (seen c.new_tuple.new.self) c.args.rule.now c.in_ok-name.name c.in_ok-name-2.name c.args.of.now c.as_slice.result.now c.new_tuple.result
    c.in_ok-name.ensures c.in_ok-name-2.ensures.made (rw c.as_slice.ensures c.in_ok-parts.ensures) c.requires c.new_tuple.ensures.made
