use Rattle.std.proofs.Common.{◌≡◌, List, sym, arith, ◌∙◌}
use Rattle.std.proofs.lemmas.Grind.{common_steps}
use Rattle.star_tree.specs.Listed.{entries_of, entry_of}
use Rattle.star_tree.specs.Whole.{expr_of}
use Rattle.star_tree.specs.declared.code.Expr.{the_lemmas}
use Rattle.star_values.specs.Objects.{pairs_in}
use Rattle.code_spec.specs.Code.{Entries, Expr, an_entry}
use Rattle.star_spec.specs.Eval.{display_pair, eval_entries}
use Rattle.ytt_base.specs.declared.fault.Place.{Place}
use Rattle.value_spec.specs.Outcomes.{new_dict, then_do, ◌>>=◌}
use Rattle.value_spec.specs.Values.{Value}
use Rattle.star_eval.specs.Frames.{around_value}
use Rattle.star_eval.specs.Meets.{state_of}
use Rattle.star_eval.specs.Doing.{Setting, all_calls, entries_done, evaluated}
use Rattle.star_eval.specs.View.{arena_in, env_of, setting_of, waiting_in}
use Rattle.star_eval.specs.Waiting.{key_of, value_goes}
use Rattle.star_eval.proofs.Chaining.{chained}
use Rattle.star_eval.proofs.Going.{goes}
use Rattle.star_eval.proofs.dicts.first_entry.Goals as goal

-- the key of the first entry, and then the rest
key_first : (c : Setting) (p : Place) (a b : Expr) (es : Entries) (ps : List (Value × Value)) → entries_done c p (an_entry a b es) ps ≡ (evaluated c a >>= value_goes c (key_of p b es ps))
key_first c p a b es ps =
    chained (evaluated c a) (λ k. evaluated c b >>= λ v. display_pair p ps k v >>= λ more. eval_entries (all_calls c) p es c.env more) new_dict
    ∙ (λ i. evaluated c a >>= λ k. chained (evaluated c b) (λ v. display_pair p ps k v >>= λ more. eval_entries (all_calls c) p es c.env more) new_dict i)
    ∙ (λ i. evaluated c a >>= λ k. evaluated c b >>= λ v. chained (display_pair p ps k v) (λ more. eval_entries (all_calls c) p es c.env more) new_dict i)

pub returns : goal.returns
returns c =
    let m = c.args.m.now in
    let env = env_of m in
    let s = state_of m.session in
    let ps = pairs_in (arena_in m).held c.args.pairs.entries in
    let rest = entries_of m.code.file c.args.rest.now in
    let key : (entry_of m.code.file c.args.entry.now).key ≡ expr_of m.code.file c.get-2.result.now = grind (arith, common_steps, the_lemmas) in
    let value : (entry_of m.code.file c.args.entry.now).value ≡ expr_of m.code.file c.get.result.now = grind (arith, common_steps, the_lemmas) in
    goes _ c.push_value.result c.push_value.new.m
    (sym ((λ i. around_value m (waiting_in m) (key_first (setting_of m) c.args.place (entry_of m.code.file c.args.entry.now).key (entry_of m.code.file c.args.entry.now).value rest ps i s))
    ∙ (λ i. around_value m (waiting_in m) (then_do (evaluated (setting_of m) (key i) s) (value_goes (setting_of m) (key_of c.args.place (value i) rest ps))))))
    c.push_value.ensures
