use Rattle.std.proofs.Common.{◌≡◌, ◌+◌, suc, true, false, [], ◌∷◌, Err, ap, arith, rules, subst, ◌∙◌, length, option_map}
use Rattle.std.proofs.lemmas.List.{nil_from_length}
use Rattle.builtin_spec.specs.Lists.{equal_from}
use Rattle.star_steps.proofs.Meeting.{meets_same}
use Rattle.star_steps.specs.Names.{Meets, OwnsAll, as_is, done, equality, paid_by, seen, state_in, take_steps, value_of, values_of}
use Rattle.star_builtins.proofs.Listing.{member_refused, member_told, member_unpaid}
use Rattle.star_builtins.proofs.lists.find.Goals as goal

pub returns-in_err-pay : goal.returns-in_err-pay
returns-in_err-pay c = λ from.
    let a = seen c.args.arena.now in
    let p = c.args.at in
    let x = value_of a c.args.sought in
    let rest : c.loop-first.rest.now ≡ c.in-Some.first.now ∷ c.in-Some.more.now = search rules in
    let stop = subst (λ k. Meets as_is (Err c.in_err-pay.field-0.0) (state_in a c.pay.new.steps) (take_steps k p (state_in a c.loop-first.steps))) c.from.ensures c.in_err-pay.ensures in
    meets_same _ _ _ _ _
    (c.loop-first.invariant.same from ∙ ap (λ vs. equal_from (paid_by c.args.each p) p x (values_of a vs) (from + c.loop-first.place) (state_in a c.loop-first.steps)) rest)
    (member_unpaid p x (value_of a c.in-Some.first.now) c.args.each (values_of a c.in-Some.more.now) (from + c.loop-first.place) a c.loop-first.steps
    (option_map (λ i. from + i)) c.in_err-pay.field-0.0 c.pay.new.steps c.from_residual.result stop (search rules))

pub returns-in_err-equal : goal.returns-in_err-equal
returns-in_err-equal c = λ from.
    let a = seen c.args.arena.now in
    let p = c.args.at in
    let x = value_of a c.args.sought in
    let rest : c.loop-first.rest.now ≡ c.in-Some.first.now ∷ c.in-Some.more.now = search rules in
    let taken = subst (λ k. take_steps k p (state_in a c.loop-first.steps) ≡ done tt (state_in a c.pay.new.steps)) c.from.ensures c.in_ok-pay.ensures in
    meets_same _ _ _ _ _
    (c.loop-first.invariant.same from ∙ ap (λ vs. equal_from (paid_by c.args.each p) p x (values_of a vs) (from + c.loop-first.place) (state_in a c.loop-first.steps)) rest)
    (member_refused p x (value_of a c.in-Some.first.now) c.args.each (values_of a c.in-Some.more.now) (from + c.loop-first.place) a c.loop-first.steps c.pay.new.steps taken
    (option_map (λ i. from + i)) c.in_err-equal.field-0.0 c.equal.new.steps c.from_residual-in_err-equal.result c.in_err-equal.ensures (search rules))

pub returns-then-branch : goal.returns-then-branch
returns-then-branch c = λ from.
    let a = seen c.args.arena.now in
    let p = c.args.at in
    let x = value_of a c.args.sought in
    let rest : c.loop-first.rest.now ≡ c.in-Some.first.now ∷ c.in-Some.more.now = search rules in
    let taken = subst (λ k. take_steps k p (state_in a c.loop-first.steps) ≡ done tt (state_in a c.pay.new.steps)) c.from.ensures c.in_ok-pay.ensures in
    let told : equality p (value_of a c.in-Some.first.now) x (state_in a c.pay.new.steps) ≡ done true (state_in a c.equal.new.steps) = c.in_ok-equal.ensures ∙ ap (λ b. done b (state_in a c.equal.new.steps)) c.if-branch.true in
    c.loop-first.invariant.same from ∙ ap (λ vs. equal_from (paid_by c.args.each p) p x (values_of a vs) (from + c.loop-first.place) (state_in a c.loop-first.steps)) rest
    ∙ member_told p x (value_of a c.in-Some.first.now) c.args.each (values_of a c.in-Some.more.now) (from + c.loop-first.place) a c.loop-first.steps c.pay.new.steps taken c.equal.new.steps true told

pub loop-first-preserved : goal.loop-first-preserved
loop-first-preserved c =
    let a = seen c.args.arena.now in
    let p = c.args.at in
    let x = value_of a c.args.sought in
    let rest : c.loop-first.rest.now ≡ c.in-Some.first.now ∷ c.in-Some.more.now = search rules in
    let taken = subst (λ k. take_steps k p (state_in a c.loop-first.steps) ≡ done tt (state_in a c.pay.new.steps)) c.from.ensures c.in_ok-pay.ensures in
    let told : equality p (value_of a c.in-Some.first.now) x (state_in a c.pay.new.steps) ≡ done false (state_in a c.equal.new.steps) = c.in_ok-equal.ensures ∙ ap (λ b. done b (state_in a c.equal.new.steps)) c.if-branch.false in
    let owned : OwnsAll a (c.in-Some.first.now ∷ c.in-Some.more.now) = subst (OwnsAll a) rest c.loop-first.invariant.owns in
    record {
      owns = owned.1;
      count = omega (arith, ap length rest, c.loop-first.invariant.count);
      same = λ from.
          let next : suc (from + c.loop-first.place) ≡ from + (c.loop-first.place + 1) = omega arith in
          c.loop-first.invariant.same from ∙ ap (λ vs. equal_from (paid_by c.args.each p) p x (values_of a vs) (from + c.loop-first.place) (state_in a c.loop-first.steps)) rest
          ∙ member_told p x (value_of a c.in-Some.first.now) c.args.each (values_of a c.in-Some.more.now) (from + c.loop-first.place) a c.loop-first.steps c.pay.new.steps taken c.equal.new.steps false told
          ∙ ap (λ i. equal_from (paid_by c.args.each p) p x (values_of a c.in-Some.more.now) i (state_in a c.equal.new.steps)) next;
    }

pub returns : goal.returns
returns c = λ from.
    let a = seen c.args.arena.now in
    let none : length c.loop-first.rest.now ≡ 0 = search rules in
    let rest : c.loop-first.rest.now ≡ [] = nil_from_length c.loop-first.rest.now none in
    c.loop-first.invariant.same from ∙ ap (λ vs. equal_from (paid_by c.args.each c.args.at) c.args.at (value_of a c.args.sought) (values_of a vs) (from + c.loop-first.place) (state_in a c.loop-first.steps)) rest
