use Rattle.star_eval.specs.Hosts.{call_of}
use Rattle.star_eval.specs.Meets.{arena_of}
use Rattle.file_load.proofs.Replying.{host_replies}
use Rattle.file_load.proofs.host.NativesHost.call.Goals as goal

pub returns : goal.returns
returns c =
    let before = c.args.session.now in
    host_replies (call_of (arena_of before) c.args.native c.args.args.now c.args.at) c.reply.result c.reply.new.session before c.args.self.now c.reply.ensures
