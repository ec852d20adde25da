use Rattle.std.proofs.Common.{◌≡◌, ◌∙◌, ◌++◌, ◌∷◌, [], ap, rules, string_bytes}
use Rattle.star_steps.proofs.Names.{seen, state_in}
use Rattle.star_text.specs.Formatting.{brace, met_in}
use Rattle.star_text.proofs.Formatting.{doubled}
use Rattle.star_text.proofs.format.fill_brace.Goals as goal
use Rattle.star_text.proofs.format.fill_brace.Goals.{then-opens, else-opens}

pub returns-in_ok-append-in-Some-clause-goes : goal.returns-in_ok-append-in-Some-clause-goes
returns-in_ok-append-in-Some-clause-goes c =
    let a = seen c.args.arena.now in
    let text : c.if-opens.append.now ≡ brace c.args.opens ∷ [] = elim c.if-opens.branch [
      | then-opens w ↦ search rules
      | else-opens w ↦ search rules
    ] in
    doubled a c.args.place c.args.args.now.given.now (string_bytes c.args.made.now) (state_in a c.args.steps.now) (met_in c.args.met) c.args.opens c.args.text.now c.in-Some.more.now (string_bytes c.append.new.text) c.in-Some.ensures
    (c.in_ok-append-in-Some.ensures ∙ ap (λ x. string_bytes c.args.made.now ++ x) text)
