use Rattle.star_steps.proofs.Names.{sym, ◌∙◌, seen, value_of}
use Rattle.value_spec.proofs.Keys.{key_unless_offence}
use Rattle.star_compare.proofs.offences.key_offence.Goals as goal

pub returns-clause-key : goal.returns-clause-key
returns-clause-key c = λ e. key_unless_offence 100 (value_of (seen c.args.arena.now) c.args.value) (sym c.offence_within.ensures ∙ e)
