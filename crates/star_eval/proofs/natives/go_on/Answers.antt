use Rattle.std.proofs.Common.{ap, sym}
use Rattle.star_eval.specs.Frames.{after_answer, around_value}
use Rattle.star_steps.specs.Replies.{reply_of}
use Rattle.star_eval.specs.Meets.{state_of}
use Rattle.star_eval.specs.View.{arena_in, waiting_in}
use Rattle.star_eval.proofs.Going.{goes}
use Rattle.star_eval.proofs.Hosting.{value_answered}
use Rattle.star_eval.proofs.natives.go_on.Goals as goal

pub returns-in-Value : goal.returns-in-Value
returns-in-Value c = value_answered c.args.m.now c.args.asking c.in-Value.value c.args.reply c.in-Value.is c.requires.sound c.requires.reply

pub returns-in-CallThen : goal.returns-in-CallThen
returns-in-CallThen c =
    let m = c.args.m.now in
    goes _ c.call_asked.result c.call_asked.new.m (ap (λ r. around_value m (waiting_in m) (after_answer m c.args.asking (reply_of (arena_in m) r) (state_of m.session))) (sym c.in-CallThen.is)) c.call_asked.ensures
