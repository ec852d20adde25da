use Rattle.std.proofs.Common.{◌≡◌, ◌==◌, ◌∙◌, arith, false, length, rules, string_bytes, true}
use Rattle.std.proofs.lemmas.Str.Pattern.{split_once_first}
use Rattle.star_steps.proofs.Names.{seen, state_in, values_of}
use Rattle.star_text.proofs.Converting.{at_sign, meets_stopped, none_left, some_left}
use Rattle.star_text.proofs.percent.fill.Goals as goal

pub returns-in_err-more : goal.returns-in_err-more
returns-in_err-more c =
    let l = c.loop-before in
    let a = seen c.args.arena.now in
    let parts = rw c.in-Some.is at (split_once_first 37 l.rest.now _ c.split_once.ensures.cases (omega arith)) in
    let whole = l.invariant.same ∙ at_sign c.args.place l.rest.now c.in-Some.before.now c.in-Some.behind.now (string_bytes l.made) (string_bytes c.append.new.text) (values_of a l.left.now) (state_in a l.steps) parts.0 parts.1 parts.2 c.in_ok-append.ensures in
    meets_stopped c.in_err-more.field-0.0 c.from_residual-in_err-more.result _ _ _ _ (state_in a c.convert.new.steps) (search rules) whole c.in_err-more.ensures.goes

pub loop-before-preserved : goal.loop-before-preserved
loop-before-preserved c = record {
  same =
      let l = c.loop-before in
      let a = seen c.args.arena.now in
      let parts = rw c.in-Some.is at (split_once_first 37 l.rest.now _ c.split_once.ensures.cases (omega arith)) in
      l.invariant.same
      ∙ at_sign c.args.place l.rest.now c.in-Some.before.now c.in-Some.behind.now (string_bytes l.made) (string_bytes c.append.new.text) (values_of a l.left.now) (state_in a l.steps) parts.0 parts.1 parts.2 c.in_ok-append.ensures
      ∙ c.in_ok-more.ensures.goes;
  owns = c.in_ok-more.ensures.owned;
  utf8 = search rules;
}

pub returns-then-not-is_empty : goal.returns-then-not-is_empty
returns-then-not-is_empty c =
    let l = c.loop-before in
    let a = seen c.args.arena.now in
    let none = rw c.in_default.is at (split_once_first 37 l.rest.now _ c.split_once.ensures.cases (omega arith)) in
    let left : (length l.left.now == 0) ≡ false = search rules in
    rw c.refusal.ensures (l.invariant.same ∙ some_left c.args.place a l.rest.now (string_bytes l.made) l.left.now (state_in a l.steps) left none)

pub returns : goal.returns
returns c =
    let l = c.loop-before in
    let a = seen c.args.arena.now in
    let none = rw c.in_default.is at (split_once_first 37 l.rest.now _ c.split_once.ensures.cases (omega arith)) in
    let left : (length l.left.now == 0) ≡ true = search rules in
    l.invariant.same ∙ none_left c.args.place a l.rest.now (string_bytes l.made) (string_bytes c.append-2.new.text) l.left.now (state_in a l.steps) left none c.in_ok-append-2.ensures
