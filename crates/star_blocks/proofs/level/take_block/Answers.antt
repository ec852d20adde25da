use Rattle.std.proofs.Common.{◌≡◌, [], ◌∷◌, ◌++◌, rules}
use Rattle.star_blocks.proofs.FromEnd.{refused_branch, refused_outside}
use Rattle.star_blocks.proofs.level.take_block.Goals.{in-Some+else-is_empty, in_default}
use Rattle.star_blocks.proofs.level.take_block.Goals as goal

pub returns : goal.returns
returns c = λ file. elim c.match-pop.branch [
  | in-Some+else-is_empty w ↦
      let shape : c.args.reading.now.inner ≡ c.pop.new.self ++ (w.in-Some.level ∷ []) = w.in-Some.ensures in
      refused_branch file c.args.reading.now.top c.args.reading.now.inner c.pop.new.self w.in-Some.level _ shape
      (λ none. search rules) (c.break_off.ensures file)
  | in_default w ↦ refused_outside file c.args.reading.now.top c.args.reading.now.inner _ w.in_default.ensures.0 (c.break_off.ensures file)
]
