use Rattle.star_steps.proofs.Names.{◌∙◌}
use Rattle.star_index.proofs.Names.{FitsSigned, ap, as_is, character, character_found, length, meets_same, place_among, rules, seen, state_in, sym, to_z-of_z, value_of, w128}
use Rattle.star_index.proofs.indexes.character.Goals as goal

pub returns-in-Some : goal.returns-in-Some
returns-in-Some c n =
    let a = seen c.args.arena.now in
    let t = c.args.text.now in
    let z = c.in-Int.index in
    let fits : FitsSigned w128 z = search rules in
    meets_same as_is c.cut_text.result (state_in a n) _ _
    (ap (λ v. character c.args.place t (value_of a v) (state_in a n)) c.in-Int.is
    ∙ character_found c.args.place t z c.in-Some.at (state_in a n) (ap (place_among (length t)) (sym (to_z-of_z w128 z fits)) ∙ sym c.place_among.ensures ∙ c.in-Some.is))
    (c.cut_text.ensures n)
