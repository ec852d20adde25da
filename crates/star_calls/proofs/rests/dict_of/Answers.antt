use Rattle.std.proofs.lemmas.List.{nil_from_length}
use Rattle.std.proofs.Common.{◌≡◌, Err, [], ap, refl, rules, subst, sym, ◌∙◌}
use Rattle.object_arena.specs.Names.{Each, OwnsFields, OwnsPair, fields_in, pairs_in, seen, value_of}
use Rattle.value_spec.specs.Binding.{text_pairs}
use Rattle.star_values.proofs.Growing.{grows_same, grows_then}
use Rattle.star_calls.proofs.Dicts.{Put, all_put, none_put, put_more}
use Rattle.star_calls.proofs.Made.{made_all, made_none}
use Rattle.star_calls.proofs.Kept.{fields_kept}
use Rattle.star_calls.proofs.rests.dict_of.Goals as goal

pub loop-field-init : goal.loop-field-init
loop-field-init c =
    let a = seen c.args.arena.now in
    let fs = fields_in a.held c.args.named.now in
    let none : c.new-pairs.result.entries ≡ [] = search (rules, c.new-pairs.ensures.empty) in
    record {
      put = subst (λ es. Put (text_pairs fs) (pairs_in a.held es) fs) (sym none) (none_put fs c.requires.once);
      pairs = subst (Each (OwnsPair a)) (sym none) tt;
      owns = c.requires.owns;
      store = refl;
      grows = grows_same a;
    }

pub put_named-requires : goal.put_named-requires
put_named-requires c =
    let a = seen c.loop-field.arena in
    let own = subst (OwnsFields a) c.in-Some.ensures.cases.0 c.loop-field.invariant.owns in
    record { pairs = c.loop-field.invariant.pairs; value = own.0 }

pub loop-field-preserved : goal.loop-field-preserved
loop-field-preserved c =
    let a = seen c.args.arena.now in
    let b = seen c.loop-field.arena in
    let d = seen c.put_named.new.arena in
    let all = text_pairs (fields_in a.held c.args.named.now) in
    let f = c.in-Some.field.now in
    let own = subst (OwnsFields b) c.in-Some.ensures.cases.0 c.loop-field.invariant.owns in
    let kept = fields_kept b d c.in-Some.more.now c.in_ok-put_named.ensures.grows own.1 in
    let was = subst (λ fs. Put all (pairs_in b.held c.loop-field.pairs.entries) (fields_in b.held fs)) c.in-Some.ensures.cases.0 c.loop-field.invariant.put in
    record {
      put = put_more all (pairs_in b.held c.loop-field.pairs.entries) (pairs_in d.held c.put_named.new.pairs.entries) f.name c.in_ok-copy.field-0 (value_of b f.value) (fields_in b.held c.in-Some.more.now) (fields_in d.held c.in-Some.more.now)
          was c.in_ok-copy.ensures c.in_ok-put_named.ensures.pairs kept.1;
      pairs = c.in_ok-put_named.ensures.owned;
      owns = kept.0;
      store = c.in_ok-put_named.ensures.store ∙ c.loop-field.invariant.store;
      grows = grows_then a b d c.loop-field.invariant.grows c.in_ok-put_named.ensures.grows;
    }

pub returns-in_err-put_named : goal.returns-in_err-put_named
returns-in_err-put_named c =
    let stopped : c.from_residual-in_err-put_named.result ≡ Err c.in_err-put_named.field-0.0 = search rules in
    made_none _ c.in_err-put_named.field-0.0 c.from_residual-in_err-put_named.result (seen c.args.arena.now) (seen c.put_named.new.arena) stopped
    (c.put_named.ensures.store ∙ c.loop-field.invariant.store)
    (grows_then (seen c.args.arena.now) (seen c.loop-field.arena) (seen c.put_named.new.arena) c.loop-field.invariant.grows c.put_named.ensures.grows)

pub returns : goal.returns
returns c =
    let a = seen c.args.arena.now in
    let b = seen c.loop-field.arena in
    let none = ap (fields_in b.held) (nil_from_length c.loop-field.rest.now c.in_default.ensures.cases) in
    made_all (text_pairs (fields_in a.held c.args.named.now)) (pairs_in b.held c.loop-field.pairs.entries) c.new_dict_of.result a b (seen c.new_dict_of.new.self) c.new_dict_of.ensures.made
    (all_put _ (pairs_in b.held c.loop-field.pairs.entries) (fields_in b.held c.loop-field.rest.now) none c.loop-field.invariant.put)
    c.loop-field.invariant.store c.loop-field.invariant.grows
