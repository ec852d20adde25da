use Rattle.std.proofs.Common.{Err, ap, subst, sym, ◌∙◌}
use Rattle.star_eval.specs.declared.frame.Control.TheVariants as control
use Rattle.star_eval.specs.declared.frame.Machine.{Machine}
use Rattle.star_eval.specs.Frames.{means}
use Rattle.star_eval.specs.Hosted.{Comes, hosted_at}
use Rattle.star_eval.specs.Hosts.{HostGives, question_of}
use Rattle.star_eval.specs.View.{arena_in}
use Rattle.star_eval.proofs.Hosting.{fault_comes, reply_comes, reply_hosted, reply_sound}
use Rattle.star_eval.proofs.looped.ask.Goals as goal

pub go_on-requires-clause-sound : goal.go_on-requires-clause-sound
go_on-requires-clause-sound g c =
    let m = c.args.m.now in
    let s = c.answered.new.session in
    let h = subst (λ r. HostGives g.H.Host.answers (question_of (arena_in m) c.args.asking c.args.question) r s m.session c.answered.new.host c.args.host.now) c.in-Ok.is c.answered.ensures in
    reply_sound g.H.Host.answers m c.args.asking c.args.question s c.answered.new.host c.args.host.now c.requires.sound c.requires.native c.in-Ok.reply h

pub go_on-requires-clause-native : goal.go_on-requires-clause-native
go_on-requires-clause-native g c =
    let m = c.args.m.now in
    let s = c.answered.new.session in
    let h = subst (λ r. HostGives g.H.Host.answers (question_of (arena_in m) c.args.asking c.args.question) r s m.session c.answered.new.host c.args.host.now) c.in-Ok.is c.answered.ensures in
    reply_hosted g.H.Host.answers m c.args.asking c.args.question s c.answered.new.host c.args.host.now c.requires.sound c.requires.native c.in-Ok.reply h

pub returns-in-Ok : goal.returns-in-Ok
returns-in-Ok g c =
    let m = c.args.m.now in
    let s = c.answered.new.session in
    let h = subst (λ r. HostGives g.H.Host.answers (question_of (arena_in m) c.args.asking c.args.question) r s m.session c.answered.new.host c.args.host.now) c.in-Ok.is c.answered.ensures in
    reply_comes g.H.Host.answers m c.args.asking c.args.question s c.answered.new.host c.args.host.now c.requires.sound c.requires.native c.in-Ok.reply h c.go_on.result c.go_on.new.m c.go_on.ensures

pub returns-in-Err-Fault : goal.returns-in-Err-Fault
returns-in-Err-Fault g c =
    let m = c.args.m.now in
    let s = c.answered.new.session in
    let n : Machine = record m { session = s } in
    let answers = g.H.Host.answers in
    let now = c.answered.new.host in
    let then = c.args.host.now in
    let k = c.args.asking in
    let q = c.args.question in
    let h = subst (λ r. HostGives answers (question_of (arena_in m) k q) r s m.session now then) (c.in-Err-Fault.is ∙ ap Err c.in-Err-Fault.field-0-is) c.answered.ensures in
    subst (λ f. Comes answers (arena_in m) n (control.Failed f) now (hosted_at answers (means m (control.Ask k q)) then)) (sym c.in-Err-Fault.fault-is)
    (fault_comes answers m k q s now then c.requires.sound c.requires.native c.in-Err-Fault.fault h)
