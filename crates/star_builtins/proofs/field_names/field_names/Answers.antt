use Rattle.std.proofs.Common.{◌≡◌, ap, false, length, map as each, rules, sym, ◌∙◌}
use Rattle.builtin_spec.specs.Builtins.{field_names}
use Rattle.builtin_spec.specs.Sorting.{in_order}
use Rattle.star_index.proofs.Ends.{gives_object}
use Rattle.star_steps.proofs.Names.{as_is, gives_stop, grows_then, new_list, reads, seen, state_in, take_steps, text_value, then_do, value_of, values_of, ◌>>=◌}
use Rattle.star_builtins.proofs.Found.{names_count, paid_listed}
use Rattle.star_builtins.proofs.field_names.field_names.Goals as goal

pub returns-in_err-pay : goal.returns-in_err-pay
returns-in_err-pay c =
    let a = seen c.args.arena.now in
    let ns = field_names (value_of a c.args.value) in
    let count : length ns ≡ length c.fields_of.result.now = sym (ap length c.fields_of.ensures) ∙ names_count a.held c.fields_of.result.now in
    let rest = reads (λ store. in_order false store ns ns) >>= new_list in
    gives_stop as_is c.in_err-pay.field-0.0 a c.pay.new.steps _ (λ u. rest) c.from_residual.result _
    (ap (λ k. then_do (take_steps k c.args.at (state_in a c.args.steps.now)) (λ u. rest)) count) c.in_err-pay.ensures (search rules)

pub returns : goal.returns
returns c =
    let a = seen c.args.arena.now in
    let b = seen c.texts.new.arena in
    let k = c.pay.new.steps in
    let ns = field_names (value_of a c.args.value) in
    let count : length ns ≡ length c.fields_of.result.now = sym (ap length c.fields_of.ensures) ∙ names_count a.held c.fields_of.result.now in
    let made = c.in_ok-texts.ensures in
    let names : ns ≡ values_of b c.in_ok-texts.texts = sym c.fields_of-2.ensures ∙ sym (c.in_ok-names.ensures a) ∙ ap (each text_value) (sym c.as_slice.ensures) ∙ sym made.values in
    let ordered : in_order false b.store ns ns ≡ values_of b c.as_slice-4.result.now =
    (λ i. in_order false b.store ((names ∙ ap (values_of b) (sym c.as_slice-2.ensures)) i) ((names ∙ ap (values_of b) (sym c.as_slice-3.ensures)) i))
    ∙ sym c.in_ok-ordered.ensures.values ∙ ap (values_of b) (sym c.as_slice-4.ensures) in
    let given = gives_object _ _ c.in_ok-new_list.field-0 b (seen c.new_list.new.self) k _
    (paid_listed c.args.at (λ store. in_order false store ns ns) (length ns) _ a b c.args.steps.now k _ count c.in_ok-pay.ensures made.store ordered)
    c.in_ok-new_list.ensures.made in
    record { meaning = given.meaning; owns = given.owns; grows = grows_then a b (seen c.new_list.new.self) made.grows given.grows }
