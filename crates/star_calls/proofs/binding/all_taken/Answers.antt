use Rattle.std.proofs.Common.{◌≡◌, ap, false, refl, rules, true}
use Rattle.object_arena.specs.Names.{fields_in, seen}
use Rattle.star_steps.specs.Meets.{state_in}
use Rattle.star_values.proofs.Growing.{grows_same}
use Rattle.star_calls.specs.Left.{rest_of}
use Rattle.star_calls.proofs.Filled.{all_done, more_left}
use Rattle.star_calls.proofs.Taking.{no_positions, some_positions}
use Rattle.star_calls.proofs.Whole.{gives_refused, none_named}
use Rattle.star_calls.proofs.binding.all_taken.Goals as goal
use Rattle.star_calls.proofs.binding.all_taken.Goals.{else-is_empty-via-then-is_empty+else-is_empty-2, else-is_empty-via-else-is_empty}

pub returns-then-is_empty-2 : goal.returns-then-is_empty-2
returns-then-is_empty-2 c = λ n.
    let a = seen c.args.arena.now in
    let l = c.args.left in
    record {
      meaning = all_done c.args.at (rest_of a l) (state_in a n) (no_positions a l.positions.now c.if-is_empty.ensures) (ap (fields_in a.held) (c.if-is_empty-2.ensures.0 refl));
      owns = c.requires.got;
      grows = grows_same a;
    }

pub returns : goal.returns
returns c = λ n.
    let a = seen c.args.arena.now in
    let l = c.args.left in
    gives_refused c.args.at c.refusal.result a n _ c.refusal.ensures (more_left c.args.at (rest_of a l) (state_in a n) (λ e f.
    elim c.else-is_empty.branch [
      | else-is_empty-via-then-is_empty+else-is_empty-2 w ↦ (let h : false ≡ true = w.if-is_empty-2.ensures.1 (none_named a.held l.named f) in absurd (search (rules, h)))
      | else-is_empty-via-else-is_empty w ↦ some_positions a l.positions.now w.if-is_empty.ensures e
    ]))
