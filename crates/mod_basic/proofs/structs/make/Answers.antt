use Rattle.std.proofs.Common.{subst, sym}
use Rattle.star_steps.proofs.Names.{OwnsAll, OwnsFields, seen}
use Rattle.mod_basic.proofs.Walking.{refused_first}
use Rattle.mod_basic.proofs.structs.make.Goals as goal

pub returns-then-not-is_empty : goal.returns-then-not-is_empty
returns-then-not-is_empty c =
    refused_first (seen c.args.arena.now) c.args.at c.args.args.positional c.args.args.named c.args.steps.now c.refusal.result c.is_empty.result c.is_empty.ensures.1 c.if-not-is_empty.true c.refusal.ensures

pub pay_for-requires : goal.pay_for-requires
pay_for-requires c =
    let a = seen c.args.arena.now in
    subst (OwnsAll a) (sym c.as_slice-3.ensures) (c.in_ok-values.ensures.owns a (subst (OwnsFields a) (sym c.as_slice-2.ensures) c.requires.1))
