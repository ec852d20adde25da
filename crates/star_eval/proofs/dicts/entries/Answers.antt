use Rattle.std.proofs.Common.{◌≡◌, ℕ, List, [], ◌∷◌, length, refl, sym, ap, subst, rules}
use Rattle.code_spec.specs.Code.{no_entries}
use Rattle.star_tree.specs.Listed.{entries_of, entry_of}
use Rattle.star_tree.specs.declared.code.Entry.{Entry}
use Rattle.star_values.specs.Objects.{pairs_in}
use Rattle.value_spec.specs.Outcomes.{new_dict}
use Rattle.star_eval.specs.Frames.{GoesToValue, around_value}
use Rattle.star_eval.specs.Meets.{Here, state_of}
use Rattle.star_eval.specs.Doing.{entries_done, with_entry}
use Rattle.star_eval.specs.View.{arena_in, setting_of, waiting_in}
use Rattle.star_eval.proofs.Going.{gives_on, goes}
use Rattle.star_eval.proofs.dicts.entries.Goals as goal

none_listed : (file : ℕ) (es : List Entry) → length es ≡ 0 → entries_of file es ≡ no_entries
none_listed file [] e = refl
none_listed file (x ∷ xs) e = cc

pub returns-in-None : goal.returns-in-None
returns-in-None c =
    let m = c.args.m.now in
    let ps = pairs_in (arena_in m).held c.args.pairs.entries in
    let none : entries_of m.code.file c.args.entries.now ≡ no_entries = none_listed m.code.file c.args.entries.now c.in-None.ensures.cases in
    subst (λ es. GoesToValue c.settle.result (record m { session = c.make_dict.new.session }) m (entries_done (setting_of m) c.args.place es ps)) (sym none)
    (gives_on m c.make_dict.new.session c.requires.sound (new_dict {H = Here} ps) c.make_dict.result c.settle.result c.make_dict.ensures c.settle.ensures)

pub returns-in-Some : goal.returns-in-Some
returns-in-Some c =
    let m = c.args.m.now in
    let ps = pairs_in (arena_in m).held c.args.pairs.entries in
    let some : entries_of m.code.file c.args.entries.now ≡ with_entry (entry_of m.code.file c.in-Some.entry.now) (entries_of m.code.file c.in-Some.rest.now) = search rules in
    goes _ c.first_entry.result c.first_entry.new.m (ap (λ es. around_value m (waiting_in m) (entries_done (setting_of m) c.args.place es ps (state_of m.session))) (sym some)) c.first_entry.ensures
