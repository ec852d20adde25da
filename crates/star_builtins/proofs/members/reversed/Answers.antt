use Rattle.std.proofs.Common.{◌≡◌, ap, reverse, sym, ◌∙◌}
use Rattle.indexmap.proofs.ReorderLemmas.{map-reverse}
use Rattle.star_steps.proofs.Meeting.{gives_same}
use Rattle.star_steps.proofs.Names.{new_list, seen, then_do, values_of}
use Rattle.star_builtins.proofs.Found.{listed}
use Rattle.star_builtins.proofs.members.reversed.Goals as goal

pub returns : goal.returns
returns c =
    let a = seen c.args.arena.now in
    let k = c.members_paid.new.steps in
    let members = c.in_ok-members.members in
    let turned : reverse (values_of a members) ≡ values_of a c.as_slice.result.now = sym (map-reverse _ members) ∙ ap (values_of a) (sym c.in_ok-turned.ensures) ∙ ap (values_of a) (sym c.as_slice.ensures) in
    gives_same _ _ _ _ _ _ (ap (λ o. then_do o (λ vs. new_list (reverse vs))) c.in_ok-members.ensures.meaning)
    (listed a (seen c.new_list.new.self) k (reverse (values_of a members)) c.as_slice.result.now c.in_ok-new_list.field-0 turned c.in_ok-new_list.ensures.made)
