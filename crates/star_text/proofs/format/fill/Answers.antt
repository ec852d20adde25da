use Rattle.std.proofs.Common.{◌∙◌, rules, string_bytes}
use Rattle.star_steps.proofs.Names.{seen, state_in}
use Rattle.star_text.specs.Formatting.{met_in}
use Rattle.star_text.proofs.Converting.{meets_stopped}
use Rattle.star_text.proofs.Formatting.{to_the_end, up_to_brace}
use Rattle.star_text.proofs.format.fill.Goals as goal

pub returns-in_err-more : goal.returns-in_err-more
returns-in_err-more c =
    let l = c.loop-before in
    let a = seen c.args.arena.now in
    let whole = l.invariant.same ∙ up_to_brace a c.args.place c.args.args.now.given.now (string_bytes l.made) (state_in a l.steps) (met_in l.met) l.rest.now c.in-Some.before.now c.in-Some.behind.now (string_bytes c.append.new.text) c.in-Some.opens c.in-Some.ensures c.in_ok-append.ensures in
    meets_stopped c.in_err-more.field-0.0 c.from_residual-in_err-more.result _ _ _ _ (state_in a c.fill_brace.new.steps) (search rules) whole c.in_err-more.ensures.goes

pub loop-before-preserved : goal.loop-before-preserved
loop-before-preserved c = record {
  same =
      let l = c.loop-before in
      let a = seen c.args.arena.now in
      l.invariant.same
      ∙ up_to_brace a c.args.place c.args.args.now.given.now (string_bytes l.made) (state_in a l.steps) (met_in l.met) l.rest.now c.in-Some.before.now c.in-Some.behind.now (string_bytes c.append.new.text) c.in-Some.opens c.in-Some.ensures c.in_ok-append.ensures
      ∙ c.in_ok-more.ensures.goes;
  utf8 = search rules;
}

pub returns : goal.returns
returns c =
    let l = c.loop-before in
    let a = seen c.args.arena.now in
    l.invariant.same ∙ to_the_end a c.args.place c.args.args.now.given.now (string_bytes l.made) (state_in a l.steps) (met_in l.met) l.rest.now (string_bytes c.append-2.new.text) (rw c.in_default.is at c.next_brace.ensures) c.in_ok-append-2.ensures
