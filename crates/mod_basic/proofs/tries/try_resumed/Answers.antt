use Rattle.std.proofs.Common.{subst, sym}
use Rattle.module_spec.specs.Asserting.{tried}
use Rattle.star_steps.specs.Meets.{state_in}
use Rattle.star_steps.specs.Replies.{GivesReply, got_of}
use Rattle.star_values.specs.Objects.{seen}
use Rattle.mod_basic.proofs.tries.try_resumed.Goals as goal

pub returns-in-Err : goal.returns-in-Err
returns-in-Err c = λ n.
    let a = seen c.args.arena.now in
    subst (λ got. GivesReply (tried c.args.at (got_of a got) (state_in a n)) c.caught.result a (seen c.caught.new.arena) n) (sym c.in-Err.is) (c.caught.ensures c.args.at n)
