use Rattle.star_steps.proofs.Names.{◌≡◌, ◌&&◌, false, ap, rules, sym, ◌∙◌, values_of}
use Rattle.builtin_spec.specs.Sorting.{are_of_one_kind}
use Rattle.star_sorting.proofs.Choosing.{kinds_told, none_told}
use Rattle.star_sorting.proofs.wanted.of_one_kind.Goals as goal

pub returns-then-not-comparable : goal.returns-then-not-comparable
returns-then-not-comparable c a =
    let unlike : c.comparable.result ≡ false = search rules in
    let told = kinds_told a c.loop-first.rest.now c.in-Some.more.now c.in-Some.first.now c.unwrap_or-next.result.now c.comparable.result c.in-Some.ensures.cases.0 (search rules) (c.comparable.ensures a) in
    sym (c.loop-first.invariant a ∙ told ∙ ap (λ b. b && are_of_one_kind (values_of a c.in-Some.more.now)) unlike)

pub loop-first-preserved : goal.loop-first-preserved
loop-first-preserved c a =
    let told = kinds_told a c.loop-first.rest.now c.in-Some.more.now c.in-Some.first.now c.unwrap_or-next.result.now c.comparable.result c.in-Some.ensures.cases.0 (search rules) (c.comparable.ensures a) in
    c.loop-first.invariant a ∙ told ∙ ap (λ b. b && are_of_one_kind (values_of a c.in-Some.more.now)) c.if-not-comparable.false

pub returns : goal.returns
returns c a = sym (c.loop-first.invariant a ∙ none_told a c.loop-first.rest.now c.in_default.ensures.cases)
