use Rattle.std.proofs.Common.{◌∙◌, ap, false, option_map, rules, sym, true}
use Rattle.text_words.proofs.AtEnds.{looked_up, none_cut}
use Rattle.text_words.proofs.character_set.without_looked_up.Goals as goal

pub returns-in_err-character-clause-cut : goal.returns-in_err-character-clause-cut
returns-in_err-character-clause-cut c = λ cs k a. ap (option_map (λ s. s.now)) c.from_residual.ensures ∙ sym (none_cut c.args.end cs c.args.text.now c.in_err-character.ensures k)

pub returns-then-contains-clause-cut : goal.returns-then-contains-clause-cut
returns-then-contains-clause-cut c = λ cs k a.
    looked_up c.args.end c.args.set.now cs c.in_ok-character.character.now c.in_ok-character.rest.now c.args.text.now c.in_ok-character.ensures k a (search rules) (search rules) c.utf8.text true
    (sym c.if-contains.ensures)

pub returns-else-contains-clause-cut : goal.returns-else-contains-clause-cut
returns-else-contains-clause-cut c = λ cs k a.
    looked_up c.args.end c.args.set.now cs c.in_ok-character.character.now c.in_ok-character.rest.now c.args.text.now c.in_ok-character.ensures k a (search rules) (search rules) c.utf8.text false
    (sym c.if-contains.ensures)
