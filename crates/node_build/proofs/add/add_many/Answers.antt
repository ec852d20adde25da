use Rattle.std.proofs.Common.{ap, sym, subst, ◌∙◌}
use Rattle.star_values.specs.Owns.{OwnsBuilt}
use Rattle.node_build.specs.Positions.{undone}
use Rattle.node_build.proofs.add.add_many.Goals as goal
use Rattle.node_build.proofs.add.add_many.Goals.{then-is_err, else-is_err}

pub returns-clause-owned : goal.returns-clause-owned
returns-clause-owned c = λ a h o.
    elim c.if-is_err.branch [
      | then-is_err w ↦ rw w.items-is
          (subst (OwnsBuilt a) (sym (w.take_out.ensures ∙ c.add_copies-answer.ensures.undone ∙ ap (λ log. undone log c.args.items.now.items) c.new-log.ensures)) o)
      | else-is_err w ↦ rw w.items-is (c.add_copies-answer.ensures.owned a h o)
    ]
