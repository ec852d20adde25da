use Rattle.std.proofs.Common.{sym, ◌∙◌}
use Rattle.text_words.proofs.AtEnds.{first_cut, first_edge}
use Rattle.text_words.proofs.edges.first_character.Goals as goal

pub split_at-requires : goal.split_at-requires
split_at-requires c =
    first_cut c.args.text.now c.next.new.self.rest.now c.in_ok-first.first c.len_utf8.result c.utf8.text (sym c.chars.ensures.rest ∙ c.in_ok-first.ensures.steps.0) c.len_utf8.ensures.len

pub returns : goal.returns
returns c =
    rw (c.split_at.ensures.front, c.split_at.ensures.back)
    (first_edge c.args.text.now c.next.new.self.rest.now c.in_ok-first.first c.len_utf8.result (sym c.chars.ensures.rest ∙ c.in_ok-first.ensures.steps.0) c.len_utf8.ensures.len)
