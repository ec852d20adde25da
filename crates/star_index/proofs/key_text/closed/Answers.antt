use Rattle.star_steps.proofs.Names.{◌≡◌, ◌∙◌}
use Rattle.star_index.proofs.Names.{closed_more, closed_one, length, length-map, rules, sym, value_of, values_of}
use Rattle.star_index.proofs.key_text.closed.Goals as goal

pub returns-then-members-eq1 : goal.returns-then-members-eq1
returns-then-members-eq1 c a =
    let one : length c.args.members.now ≡ 1 = search rules in
    sym (closed_one (values_of a c.args.members.now) (length-map c.args.members.now (value_of a) ∙ one))

pub returns-else-members-eq1 : goal.returns-else-members-eq1
returns-else-members-eq1 c a =
    let more : length c.args.members.now ≡ 1 → ⊥ = search rules in
    sym (closed_more (values_of a c.args.members.now) (λ e. more (sym (length-map c.args.members.now (value_of a)) ∙ e)))
