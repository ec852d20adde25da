use Rattle.std.proofs.Common.{rules, ◌≡◌, ap, of_z, sym, to_z, ◌∙◌}
use Rattle.std.specs.Int.{w128}
use Rattle.ytt_base.specs.Outcomes.{place_at}
use Rattle.code_spec.specs.Code as plain
use Rattle.star_spec.specs.Names.{box_of, read_name, value_or_unset}
use Rattle.star_steps.specs.Meets.{state_in}
use Rattle.star_tree.specs.Whole.{expr_of}
use Rattle.star_tree.specs.declared.code.Expr.{the_lemmas}
use Rattle.star_values.specs.Objects.{env_in}
use Rattle.star_values.specs.declared.value.Value.TheVariants as value
use Rattle.star_eval.specs.Doing.{acted, place_in}
use Rattle.star_eval.specs.Meets.{Here}
use Rattle.star_eval.specs.View.{arena_in, setting_of}
use Rattle.star_eval.proofs.Going.{known_by}
use Rattle.star_eval.proofs.eval.known.Goals as goal

pub returns-in-Int : goal.returns-in-Int
returns-in-Int c =
    let m = c.args.m.now in
    let p = place_at m.code.file c.in-Int.field-0 in
    let is : expr_of m.code.file c.args.expr.now ≡ plain.int p c.in-Int.n = search (rules, the_lemmas) in
    let whole : to_z w128 (of_z w128 c.in-Int.n) ≡ c.in-Int.n = search rules in
    rw whole (known_by m (expr_of m.code.file c.args.expr.now) p (value.Int c.in-Int.n) c.in_ok-left.left (ap place_in is) (search rules) (search rules) tt (ap (λ e. acted (setting_of m) p e (state_in (arena_in m) c.in_ok-left.left)) is))

pub returns-in_ok-value-in-Name : goal.returns-in_ok-value-in-Name
returns-in_ok-value-in-Name c =
    let m = c.args.m.now in
    let p = place_at m.code.file c.in-Name.field-0 in
    let x = c.in-Name.name in
    let s = state_in (arena_in m) c.in_ok-left.left in
    let is : expr_of m.code.file c.args.expr.now ≡ plain.name p x = search (rules, the_lemmas) in
    known_by m (expr_of m.code.file c.args.expr.now) p c.in_ok-value-in-Name.value c.in_ok-left.left (ap place_in is) (search rules) (search rules) (search rules)
    (ap (λ e. acted (setting_of m) p e s) is ∙ (λ i. read_name {H = Here} p x (box_of x (env_in (arena_in m).held (sym c.as_slice.ensures i))) s) ∙ (λ i. read_name {H = Here} p x (sym c.in_ok-at-in-Name.ensures.at i) s) ∙ ap (λ o. value_or_unset {H = Here} p x o s) c.in_ok-value-in-Name.ensures.value)
