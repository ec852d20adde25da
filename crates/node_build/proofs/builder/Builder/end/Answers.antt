use Rattle.std.proofs.Common.{◌≡◌, ◌≤◌, ◌<◌, ◌+◌, ◌-◌, ◌∷◌, [], suc, length, take, Err, refl, ap, sym, subst, ◌∙◌, arith, rules}
use Rattle.std.proofs.lemmas.Option.{slice_get_read}
use Rattle.star_spec.specs.Flow.{on}
use Rattle.star_steps.proofs.Meeting.{meets_same, meets_stop}
use Rattle.star_values.proofs.Growing.{each_at, each_set}
use Rattle.star_values.specs.View.{built_in}
use Rattle.value_spec.specs.Outcomes.{done, give, then_do}
use Rattle.node_build.proofs.Stacks.{from-at, from-set, nodes-kept, none-below}
use Rattle.node_build.specs.Parts.{ending}
use Rattle.node_build.specs.View.{OwnsNode, node_at, nodes_from}
use Rattle.node_build.proofs.builder.Builder.end.Goals as goal

pub returns-in-None-clause-meaning : goal.returns-in-None-clause-meaning
returns-in-None-clause-meaning c = λ a s.
    let self = c.args.self.now in
    let top = node_at a.held (length self.below.items + self.around) self.top in
    let none : length self.below.items < 1 = grind (arith, c.in-None.ensures, c.len.ensures, self.below.ok.0) in
    rw c.ill_formed.ensures (ap (λ ns. ending {H = Unit {0}} (top ∷ ns) s) (none-below a.held self.around self.below.items none))

pub returns-in_err-ended-in-Some-clause-meaning : goal.returns-in_err-ended-in-Some-clause-meaning
returns-in_err-ended-in-Some-clause-meaning c = λ a s.
    let self = c.args.self.now in
    let last = c.in-Some.last in
    let under = c.index_mut.result.now in
    let top = node_at a.held (length self.below.items + self.around) self.top in
    let within : (1 ≤ c.len.result) × (last ≡ c.len.result - 1) = c.in-Some.ensures in
    let count : suc last ≡ length self.below.items = grind (arith, within.0, within.1, c.len.ensures, self.below.ok.0) in
    let rest = nodes_from a.held self.around (take last self.below.items) [] in
    let stopped : c.from_residual.result ≡ Err c.in_err-ended-in-Some.field-0.0 = search rules in
    meets_same _ c.from_residual.result s _ _
    (ap (λ ns. ending {H = Unit {0}} (top ∷ ns) s) (from-at a.held self.around self.below.items last under [] count c.index_mut.ensures.value))
    (meets_stop {A = Unit {0}} (λ u. built_in a.held c.ended.new.under.children.items.items) _ c.in_err-ended-in-Some.field-0.0 s _
    (λ all. give (on (record (node_at a.held (last + self.around) under) { children = all } ∷ rest))) c.from_residual.result (c.in_err-ended-in-Some.ensures.meaning a.held s) stopped)

pub returns-in_err-ended-in-Some-clause-err : goal.returns-in_err-ended-in-Some-clause-err
returns-in_err-ended-in-Some-clause-err c = λ a.
    let self = c.args.self.now in
    let last = c.in-Some.last in
    let under = c.index_mut.result.now in
    let failed = c.in_err-ended-in-Some.ensures in
    let within : (1 ≤ c.len.result) × (last ≡ c.len.result - 1) = c.in-Some.ensures in
    let count : suc last ≡ length self.below.items = grind (arith, within.0, within.1, c.len.ensures, self.below.ok.0) in
    let stopped : c.from_residual.result ≡ Err c.in_err-ended-in-Some.field-0.0 = search rules in
    let level = last + self.around in
    let same = failed.rest a.held level ∙ ap (λ is. record (node_at a.held level under) { children = built_in a.held is }) failed.err in
    rw stopped (nodes-kept a.held self.around self.top c.ended.new.node self.below.items last under c.ended.new.under count c.index_mut.ensures.value failed.kept same)

pub returns-in_err-ended-in-Some-clause-owned : goal.returns-in_err-ended-in-Some-clause-owned
returns-in_err-ended-in-Some-clause-owned c = λ a o.
    let self = c.args.self.now in
    let last = c.in-Some.last in
    let under = c.index_mut.result.now in
    let within : (1 ≤ c.len.result) × (last ≡ c.len.result - 1) = c.in-Some.ensures in
    let inside : last < length self.below.items = grind (arith, within.0, within.1, c.len.ensures, self.below.ok.0) in
    let here = slice_get_read self.below.items _ last under refl inside c.index_mut.ensures.value in (
      subst (OwnsNode a) (sym c.in_err-ended-in-Some.ensures.kept) o.0,
      each_set (OwnsNode a) self.below.items last c.ended.new.under o.1 (c.ended.ensures.owned a o.0 (each_at (OwnsNode a) self.below.items last under o.1 here)),
    )

pub returns-in_ok-ended-in-Some-clause-meaning : goal.returns-in_ok-ended-in-Some-clause-meaning
returns-in_ok-ended-in-Some-clause-meaning c = λ a s.
    let self = c.args.self.now in
    let last = c.in-Some.last in
    let under = c.index_mut.result.now in
    let top = node_at a.held (length self.below.items + self.around) self.top in
    let within : (1 ≤ c.len.result) × (last ≡ c.len.result - 1) = c.in-Some.ensures in
    let count : suc last ≡ length self.below.items = grind (arith, within.0, within.1, c.len.ensures, self.below.ok.0) in
    let rest = nodes_from a.held self.around (take last self.below.items) [] in
    let level = last + self.around in
    ap (λ ns. ending {H = Unit {0}} (top ∷ ns) s) (from-at a.held self.around self.below.items last under [] count c.index_mut.ensures.value)
    ∙ ap (λ o. then_do o (λ all. give (on (record (node_at a.held level under) { children = all } ∷ rest)))) (c.in_ok-ended-in-Some.ensures.meaning a.held s)
    ∙ ap (λ n. done (on (n ∷ rest)) s) (sym (c.ended.ensures.rest a.held level))
    ∙ ap (λ ns. done (on ns) s) (sym (c.drop_top.ensures.meaning a ∙ from-set a.held self.around self.below.items last c.ended.new.under [] count))

pub returns-in_ok-ended-in-Some-clause-owned : goal.returns-in_ok-ended-in-Some-clause-owned
returns-in_ok-ended-in-Some-clause-owned c = λ a o.
    let self = c.args.self.now in
    let last = c.in-Some.last in
    let under = c.index_mut.result.now in
    let within : (1 ≤ c.len.result) × (last ≡ c.len.result - 1) = c.in-Some.ensures in
    let inside : last < length self.below.items = grind (arith, within.0, within.1, c.len.ensures, self.below.ok.0) in
    let here = slice_get_read self.below.items _ last under refl inside c.index_mut.ensures.value in
    c.drop_top.ensures.owned a (each_set (OwnsNode a) self.below.items last c.ended.new.under o.1 (c.ended.ensures.owned a o.0 (each_at (OwnsNode a) self.below.items last under o.1 here)))
