use Rattle.star_eval.specs.Hosts.{resume_of}
use Rattle.star_eval.specs.Meets.{arena_of}
use Rattle.file_load.proofs.Replying.{host_replies}
use Rattle.file_load.proofs.host.NativesHost.resume.Goals as goal

pub returns : goal.returns
returns c =
    let before = c.args.session.now in
    host_replies (resume_of (arena_of before) c.args.native c.args._tag c.args.got c.args.at) c.resumed.result c.resumed.new.session before c.args.self.now (c.resumed.ensures c.args._tag)
