use Rattle.std.proofs.Common.{◌≡◌, ℕ, ◌+◌, arith, rules, sym, ◌∙◌}
use Rattle.text_words.proofs.AtEnds.{last_cut, last_edge}
use Rattle.text_words.proofs.edges.last_character.Goals as goal

at : (k o n : ℕ) → k ≡ o + n → o ≡ 0 → k ≡ n
at k o n e z = omega arith

pub split_at-requires : goal.split_at-requires
split_at-requires c =
    last_cut c.args.text.now c.next_back.new.self.rest.now c.in_ok-at.field-0-1 c.in_ok-at.at (search rules) (sym c.char_indices.ensures.rest ∙ c.in_ok-at.ensures.steps.1.0) (at _ _ _ c.in_ok-at.ensures.steps.1.1 c.char_indices.ensures.offset)

pub returns : goal.returns
returns c =
    rw (c.split_at.ensures.front, c.split_at.ensures.back)
    (last_edge c.args.text.now c.next_back.new.self.rest.now c.in_ok-at.field-0-1 c.in_ok-at.at (sym c.char_indices.ensures.rest ∙ c.in_ok-at.ensures.steps.1.0) (at _ _ _ c.in_ok-at.ensures.steps.1.1 c.char_indices.ensures.offset))
