use Rattle.star_values.specs.Objects.{seen}
use Rattle.star_values.specs.View.{option_in, values_of}
use Rattle.value_spec.specs.Store.{option_members}
use Rattle.mod_basic.specs.declared.walks.Way.TheVariants as way
use Rattle.mod_basic.proofs.Calling.{gives_walk}
use Rattle.mod_basic.proofs.calls.answered.Goals as goal

pub returns-in-Encode : goal.returns-in-Encode
returns-in-Encode c =
    let a = seen c.args.arena.now in
    gives_walk way.Encode c.args.basic (option_members (option_in a.held c.args.on)) c.args.at c.outermost.result (values_of a c.args.values.now) c.argument-value.result c.converted.result a (seen c.converted.new.arena) c.args.steps.now c.converted.new.steps
    c.in-Encode.is c.outermost.ensures c.argument-value.ensures.value c.converted.ensures

pub returns-in-Decode : goal.returns-in-Decode
returns-in-Decode c =
    let a = seen c.args.arena.now in
    gives_walk way.Decode c.args.basic (option_members (option_in a.held c.args.on)) c.args.at c.outermost-in-Decode.result (values_of a c.args.values.now) c.argument-value.result c.converted-in-Decode.result a (seen c.converted-in-Decode.new.arena) c.args.steps.now c.converted-in-Decode.new.steps
    c.in-Decode.is c.outermost-in-Decode.ensures c.argument-value.ensures.value c.converted-in-Decode.ensures
