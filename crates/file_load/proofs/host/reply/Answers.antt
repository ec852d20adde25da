use Rattle.std.proofs.Common.{◌≡◌, Err, Ok, Result, rules, subst, sym}
use Rattle.ytt_base.specs.declared.fault.Stop.{Stop}
use Rattle.mod_basic.specs.View.{row_of}
use Rattle.mod_codec.specs.View.{value_row_of}
use Rattle.star_eval.specs.Hosts.{call_of}
use Rattle.star_eval.specs.Meets.{arena_of}
use Rattle.star_steps.specs.Meets.{Gives, state_in}
use Rattle.star_steps.specs.Replies.{GivesReply}
use Rattle.star_values.specs.Objects.{seen}
use Rattle.star_values.specs.Owns.{OwnsArguments}
use Rattle.star_values.specs.View.{arguments_in, option_in}
use Rattle.star_values.specs.declared.value.CallArgs.{CallArgs}
use Rattle.star_values.specs.declared.value.Reply.{Reply}
use Rattle.value_spec.specs.Store.{option_members}
use Rattle.file_load.proofs.Replying.{basic_replies, codec_refuses, codec_replies, none_replies}
use Rattle.file_load.specs.Replying.{RepliesTo}
use Rattle.file_load.proofs.host.reply.Goals as goal

pub basic_call-requires-clause-on : goal.basic_call-requires-clause-on
basic_call-requires-clause-on c = c.in-Basic.ensures.2

pub basic_call-requires-clause-args : goal.basic_call-requires-clause-args
basic_call-requires-clause-args c = subst (OwnsArguments (arena_of c.args.session.now)) (sym c.in_ok-copy.ensures) c.requires.args

pub codec_call-requires : goal.codec_call-requires
codec_call-requires c = subst (OwnsArguments (arena_of c.args.session.now)) (sym c.in_ok-copy.ensures) c.requires.args

pub returns-in-Basic : goal.returns-in-Basic
returns-in-Basic c =
    let a = arena_of c.args.session.now in
    let n = c.args.session.now.work.steps in
    let b = c.in-Basic.basic in
    let on = c.in-Basic.on in
    basic_replies a c.args.native c.args.at c.args.args.now n b on c.basic_call.result (seen c.basic_call.new.arena) c.basic_call.new.work.steps c.in-Basic.ensures
    (subst (λ (x : CallArgs). GivesReply (row_of b c.args.at (option_members (option_in a.held on)) (arguments_in a.held x) (state_in a n)) c.basic_call.result a (seen c.basic_call.new.arena) c.basic_call.new.work.steps)
    c.in_ok-copy.ensures c.basic_call.ensures.row)

pub returns-in-Unknown : goal.returns-in-Unknown
returns-in-Unknown c = none_replies (arena_of c.args.session.now) c.args.native c.args.at c.args.args.now c.args.session.now.work.steps c.refusal.result c.in-Unknown.ensures c.refusal.ensures

pub returns-in_err-value-in-Codec : goal.returns-in_err-value-in-Codec
returns-in_err-value-in-Codec c =
    let a = arena_of c.args.session.now in
    let n = c.args.session.now.work.steps in
    let k = c.in-Codec.codec in
    let z = seen c.codec_call.new.arena in
    let m = c.codec_call.new.work.steps in
    let x = c.in_err-value-in-Codec.field-0.0 in
    let stopped : c.from_residual-in_err-value-in-Codec.result ≡ Err x = search rules in
    let comes = subst (λ (y : CallArgs). Gives (value_row_of k c.args.at (arguments_in a.held y) (state_in a n)) (Err x) a z m) c.in_ok-copy.ensures c.in_err-value-in-Codec.ensures.row in
    subst (λ (r : Result Reply Stop). RepliesTo (call_of a c.args.native c.args.args.now c.args.at) r (record { arena = c.codec_call.new.arena; work = c.codec_call.new.work }) c.args.session.now) (sym stopped)
    (codec_refuses a c.args.native c.args.at c.args.args.now n k z m c.in-Codec.ensures x comes)

pub returns-in_ok-value-in-Codec : goal.returns-in_ok-value-in-Codec
returns-in_ok-value-in-Codec c =
    let a = arena_of c.args.session.now in
    let n = c.args.session.now.work.steps in
    let k = c.in-Codec.codec in
    let z = seen c.codec_call.new.arena in
    let m = c.codec_call.new.work.steps in
    let v = c.in_ok-value-in-Codec.value in
    let comes = subst (λ (y : CallArgs). Gives (value_row_of k c.args.at (arguments_in a.held y) (state_in a n)) (Ok v) a z m) c.in_ok-copy.ensures c.in_ok-value-in-Codec.ensures.row in
    codec_replies a c.args.native c.args.at c.args.args.now n k z m c.in-Codec.ensures v comes
