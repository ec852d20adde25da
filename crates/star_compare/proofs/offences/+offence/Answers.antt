use Rattle.star_steps.proofs.Names.{◌-◌, sym, ap, ◌∙◌, key_offence, tuple_value, seen, values_from, values_of}
use Rattle.star_compare.proofs.Levels.{one_less}
use Rattle.star_compare.proofs.offences.+offence.Goals as goal

pub tuple_offence-returns : goal.tuple_offence-returns
tuple_offence-returns t c =
    let vs = values_from (values_of (seen c.args.arena.now) c.args.members.now) in
    c.first_offence.ensures ∙ sym (ap (λ n. key_offence n (tuple_value vs)) (one_less c.args.levels c.if-levels-eq0.false))
