use Rattle.template_checks.proofs.faults.lost_before.Goals as goal

pub returns-in-Says : goal.returns-in-Says
returns-in-Says c = λ file rs e. rw c.in-Says.is (c.lost_before_said.ensures file 0 c.args.is_data rs e)
