use Rattle.std.proofs.Common.{sym, ◌∙◌}
use Rattle.star_eval.proofs.Hosting.{asked_host}
use Rattle.star_eval.proofs.calls.call_native.Goals as goal

pub returns-then-is_hosted : goal.returns-then-is_hosted
returns-then-is_hosted c = rw c.in_ok-question.ensures (asked_host c.args.m.now c.args.left c.args.place c.args.native c.args.args c.requires.sound c.requires.native (sym c.is_hosted.ensures ∙ c.if-is_hosted.true) c.requires.args)
