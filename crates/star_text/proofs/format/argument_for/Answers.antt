use Rattle.std.proofs.Common.{refl, rules, subst, sym}
use Rattle.star_steps.proofs.Names.{seen, state_in}
use Rattle.star_steps.specs.Meets.{Meets}
use Rattle.star_values.specs.Owns.{OwnsOption}
use Rattle.star_text.specs.Formatting.{IsWhich, value_and_met}
use Rattle.star_text.proofs.Formatting.{first_number, first_turn, next_number, next_turn}
use Rattle.star_text.proofs.format.argument_for.Goals as goal

pub returns-in-Next-Nothing-clause-found : goal.returns-in-Next-Nothing-clause-found
returns-in-Next-Nothing-clause-found c = λ w h n.
    let a = seen c.args.arena.now in
    let s = state_in a n in
    subst (Meets (value_and_met a) c.by_number.result s) (sym (first_turn a c.args.place c.args.args.now.given.now c.as_slice-values.result.now c.as_slice-values.ensures c.args.met c.args.which w s c.in-Next-Nothing.is-1 c.in-Next-Nothing.is-0 h)) (c.by_number.ensures.found 0 refl n)

pub returns-in-Next-ByTurn-clause-found : goal.returns-in-Next-ByTurn-clause-found
returns-in-Next-ByTurn-clause-found c = λ w h n.
    let a = seen c.args.arena.now in
    let s = state_in a n in
    subst (Meets (value_and_met a) c.by_turn.result s) (sym (next_turn a c.args.place c.args.args.now.given.now c.as_slice-values.result.now c.as_slice-values.ensures c.args.met c.in-Next-ByTurn.turn c.args.which w s c.in-Next-ByTurn.is-1 c.in-Next-ByTurn.is-0 h)) (c.by_turn.ensures.found n)

pub returns-in-Numbered-Nothing-clause-found : goal.returns-in-Numbered-Nothing-clause-found
returns-in-Numbered-Nothing-clause-found c = λ w h n.
    let a = seen c.args.arena.now in
    let s = state_in a n in
    let q = subst (λ x. IsWhich x w) c.in-Numbered-Nothing.is-0 h in
    subst (Meets (value_and_met a) c.by_number-in-Numbered-Nothing.result s) (sym (first_number a c.args.place c.args.args.now.given.now c.as_slice-values.result.now c.as_slice-values.ensures c.args.met q.0 w s c.in-Numbered-Nothing.is-1 q.1)) (c.by_number-in-Numbered-Nothing.ensures.found q.0 q.2 n)

pub returns-in-Numbered-ByNumber-clause-found : goal.returns-in-Numbered-ByNumber-clause-found
returns-in-Numbered-ByNumber-clause-found c = λ w h n.
    let a = seen c.args.arena.now in
    let s = state_in a n in
    let q = subst (λ x. IsWhich x w) c.in-Numbered-ByNumber.is-0 h in
    subst (Meets (value_and_met a) c.by_number-in-Numbered-ByNumber.result s) (sym (next_number a c.args.place c.args.args.now.given.now c.as_slice-values.result.now c.as_slice-values.ensures c.args.met q.0 w s c.in-Numbered-ByNumber.is-1 q.1)) (c.by_number-in-Numbered-ByNumber.ensures.found q.0 q.2 n)

pub returns-in-Some-clause-owned : goal.returns-in-Some-clause-owned
returns-in-Some-clause-owned c = subst (OwnsOption (seen c.args.arena.now)) c.in-Some.is (c.value.ensures.owned (seen c.args.arena.now) (search rules))
