use Rattle.std.proofs.Common.{◌≡◌, ap, length, pos, sym, ◌∙◌}
use Rattle.star_steps.proofs.Meeting.{gives_same}
use Rattle.star_steps.proofs.Names.{length-map, seen, state_in, values_of}
use Rattle.value_spec.specs.Values.{int_value}
use Rattle.star_builtins.specs.View.{of_integers}
use Rattle.star_builtins.proofs.Ranges.{of_one, of_others, of_three, of_two, refused}
use Rattle.star_builtins.proofs.numbers.by_position.Goals as goal

pub returns-then-count-eq1 : goal.returns-then-count-eq1
returns-then-count-eq1 c = λ n.
    let a = seen c.args.arena.now in
    let s = state_in a n in
    gives_same _ _ _ _ _ _
    (of_one c.args.at s (values_of a c.args.values.now) (length-map _ _ ∙ c.if-count-eq1.true) ∙ ap (λ v. of_integers c.args.at (int_value (pos 0)) v (int_value (pos 1)) s) (sym c.argument-first.ensures.value))
    (c.of_integers.ensures a n)

pub returns-then-count-eq2 : goal.returns-then-count-eq2
returns-then-count-eq2 c = λ n.
    let a = seen c.args.arena.now in
    let s = state_in a n in
    gives_same _ _ _ _ _ _
    (of_two c.args.at s (values_of a c.args.values.now) (length-map _ _ ∙ c.if-count-eq2.true) ∙ (λ i. of_integers c.args.at (sym c.argument-first.ensures.value i) (sym c.argument-second.ensures.value i) (int_value (pos 1)) s))
    (c.of_integers-then-count-eq2.ensures a n)

pub returns-then-count-eq3 : goal.returns-then-count-eq3
returns-then-count-eq3 c = λ n.
    let a = seen c.args.arena.now in
    let s = state_in a n in
    gives_same _ _ _ _ _ _
    (of_three c.args.at s (values_of a c.args.values.now) (length-map _ _ ∙ c.if-count-eq3.true) ∙ (λ i. of_integers c.args.at (sym c.argument-first.ensures.value i) (sym c.argument-second.ensures.value i) (sym c.argument.ensures.value i) s))
    (c.of_integers-then-count-eq3.ensures a n)

pub returns-else-count-eq3 : goal.returns-else-count-eq3
returns-else-count-eq3 c = λ n.
    let a = seen c.args.arena.now in
    let many : length (values_of a c.args.values.now) ≡ length c.args.values.now = length-map _ _ in
    gives_same _ _ _ _ _ _
    (of_others c.args.at (state_in a n) (values_of a c.args.values.now) (λ e. c.if-count-eq1.false (sym many ∙ e)) (λ e. c.if-count-eq2.false (sym many ∙ e)) (λ e. c.if-count-eq3.false (sym many ∙ e)))
    (refused c.args.at a n c.refusal.result c.refusal.ensures)
