use Rattle.std.proofs.Common.{ap, subst, sym, ◌∙◌}
use Rattle.star_values.specs.Owns.{OwnsArguments}
use Rattle.star_values.specs.View.{arguments_in, value_of}
use Rattle.star_values.specs.declared.value.Value.TheVariants as value
use Rattle.star_eval.specs.Calling.{calls_from}
use Rattle.star_eval.specs.Frames.{around_value}
use Rattle.star_eval.specs.Meets.{state_of}
use Rattle.star_eval.specs.View.{arena_in, setting_of, waiting_in}
use Rattle.star_eval.proofs.Hosting.{asked_host}
use Rattle.star_eval.proofs.calls.native_for_key.Goals as goal

pub returns-then-is_hosted : goal.returns-then-is_hosted
returns-then-is_hosted c =
    let m = c.args.m.now in
    let a = arena_in m in
    let p = c.args.place in
    let given = subst (OwnsArguments a) (sym c.requires.args) ((c.requires.member, tt), tt) in
    let g = asked_host m c.args.left p c.args.native c.args.args c.requires.sound c.requires.native (sym c.is_hosted.ensures ∙ c.if-is_hosted.true) given in
    rw c.in_ok-question.ensures (record {
      same = g.same ∙ ap (λ args. around_value m (waiting_in m) (calls_from (setting_of m).function c.args.left p (value_of a (value.Native c.args.native)) (arguments_in a.held args) (state_of m.session))) c.requires.args;
      sound = g.sound;
      owned = g.owned;
      grows = g.grows;
    })
