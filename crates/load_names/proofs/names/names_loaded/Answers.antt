use Rattle.std.proofs.Common.{◌≡◌, ◌+◌, Err, ap, drop, rules, subst, sym, ◌∙◌}
use Rattle.std.proofs.lemmas.List.{drop_all}
use Rattle.star_tree.specs.Whole.{loaded_names_of}
use Rattle.star_values.specs.View.{value_of}
use Rattle.template_meaning.specs.Files.{value_among}
use Rattle.ytt_base.specs.declared.fault.Stop.TheVariants as stop
use Rattle.load_names.specs.Loads.{LoadsNames, globals_of}
use Rattle.load_names.proofs.Reached.{Got, all_got, names_next, none_got, one_got, one_missing}
use Rattle.load_names.proofs.names.names_loaded.Goals as goal

pub loop-name-init : goal.loop-name-init
loop-name-init c = record {
  got = λ a. none_got c.args.place (globals_of a c.args.globals.now) (loaded_names_of c.args.names.now) (globals_of a c.args.got.now);
  owned = λ a o p. p;
}

pub returns-in-None : goal.returns-in-None
returns-in-None c = λ a.
    let names = c.args.names.now in
    let i = c.loop-name.name-index in
    let x = c.name-item.result in
    let gs = globals_of a c.args.globals.now in
    let old = globals_of a c.args.got.now in
    let now = globals_of a c.loop-name.got in
    let next = names_next names i x c.loop-name-test.true c.name-item.is in
    let none = ap (λ n. value_among n gs) (sym c.as_str.ensures) ∙ sym (c.in-None.ensures.value a) in
    record {
      meaning = one_missing c.args.place gs (loaded_names_of names) (loaded_names_of (drop (i + 1) names)) x.bound x.origin old now now c.fault_with.result none
          (subst (λ left. Got c.args.place gs (loaded_names_of names) left now old) next (c.loop-name.invariant.got a)) c.fault_with.ensures;
      owned = c.loop-name.invariant.owned a;
    }

pub returns-in_err-put-in-Some : goal.returns-in_err-put-in-Some
returns-in_err-put-in-Some c = λ a.
    let stopped : c.from_residual.result ≡ Err stop.Memory = search rules in
    subst (λ r. LoadsNames a c.args.place (loaded_names_of c.args.names.now) c.args.globals.now r c.put.new.got c.args.got.now) (sym stopped) (record {
      meaning = tt;
      owned = λ o p. c.put.ensures.owned a (c.in-Some.ensures.owned a o) (c.loop-name.invariant.owned a o p);
    })

pub loop-name-preserved : goal.loop-name-preserved
loop-name-preserved c =
    let names = c.args.names.now in
    let i = c.loop-name.name-index in
    let x = c.name-item.result in
    let next = names_next names i x c.loop-name-test.true c.name-item.is in
    record {
      got = λ a.
          let gs = globals_of a c.args.globals.now in
          let old = globals_of a c.args.got.now in
          let now = globals_of a c.loop-name.got in
          one_got c.args.place gs (loaded_names_of names) (loaded_names_of (drop (i + 1) names)) x.bound x.origin (value_of a c.in-Some.value) old now (globals_of a c.put.new.got)
          (ap (λ n. value_among n gs) (sym c.as_str.ensures) ∙ sym (c.in-Some.ensures.value a))
          (subst (λ left. Got c.args.place gs (loaded_names_of names) left now old) next (c.loop-name.invariant.got a)) (c.in_ok-put-in-Some.ensures.got a);
      owned = λ a o p. c.put.ensures.owned a (c.in-Some.ensures.owned a o) (c.loop-name.invariant.owned a o p);
    }

pub returns : goal.returns
returns c = λ a. record {
  meaning = all_got c.args.place (globals_of a c.args.globals.now) (loaded_names_of c.args.names.now) (loaded_names_of (drop c.loop-name.name-index c.args.names.now)) (globals_of a c.loop-name.got) (globals_of a c.args.got.now)
      (ap loaded_names_of (drop_all c.loop-name.name-index c.args.names.now c.loop-name-test.false)) (c.loop-name.invariant.got a);
  owned = c.loop-name.invariant.owned a;
}
