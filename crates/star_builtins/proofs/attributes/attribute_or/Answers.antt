use Rattle.std.proofs.Common.{◌≡◌, true, ap, is_some, sym, ◌∙◌}
use Rattle.builtin_spec.specs.Attributes.{attribute_of}
use Rattle.builtin_spec.specs.Builtins.{attribute_or}
use Rattle.star_steps.proofs.Meeting.{gives_same}
use Rattle.star_steps.proofs.Names.{seen, state_in, value_of}
use Rattle.star_builtins.proofs.Found.{not_given, there}
use Rattle.star_builtins.proofs.attributes.attribute_or.Goals as goal

pub returns-then-is_attribute : goal.returns-then-is_attribute
returns-then-is_attribute c = λ n.
    let a = seen c.args.arena.now in
    let o = attribute_of (value_of a c.args.on) c.args.name.now in
    let has : is_some o ≡ true = sym (c.is_attribute.ensures ∙ ap (λ x. is_some (attribute_of (value_of a c.args.on) x)) c.as_str.ensures) ∙ c.if-is_attribute.true in
    gives_same _ _ _ _ _ _ (there c.args.at c.args.name.now (value_of a c.args.other) (state_in a n) c.args.given o has) (c.attribute.ensures n)

pub returns-else-given : goal.returns-else-given
returns-else-given c = λ n.
    let a = seen c.args.arena.now in
    let o = attribute_of (value_of a c.args.on) c.args.name.now in
    let d = value_of a c.args.other in
    let s = state_in a n in
    gives_same _ _ _ _ _ _ (ap (λ g. attribute_or c.args.at c.args.name.now g d o s) c.if-given.false ∙ not_given c.args.at c.args.name.now d s o) (c.attribute-else-given.ensures n)
