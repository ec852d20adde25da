use Rattle.std.proofs.Common.{[], Some, ap, rules, subst, sym, ◌∷◌, ◌∙◌}
use Rattle.object_arena.specs.Names.{Each, OwnsFields, OwnsPair, fields_in, pairs_in, seen}
use Rattle.star_spec.specs.Eval.{as_fields}
use Rattle.star_values.specs.Owns.{OwnsField}
use Rattle.star_values.proofs.Growing.{each_joined}
use Rattle.star_calls.proofs.Stars.{behind_all, fields_done, fields_next, none_in_front, none_more}
use Rattle.star_calls.proofs.spread.fields_of.Goals as goal

pub loop-key-init : goal.loop-key-init
loop-key-init c =
    let a = seen c.args.arena.now in
    record {
      same = none_in_front (as_fields (pairs_in a.held c.args.pairs)) ∙ ap (λ fs. behind_all (fields_in a.held fs) (as_fields (pairs_in a.held c.args.pairs))) (sym c.new-fields.ensures);
      pairs = c.requires;
      owns = subst (OwnsFields a) (sym c.new-fields.ensures) tt;
    }

pub loop-key-preserved : goal.loop-key-preserved
loop-key-preserved c =
    let a = seen c.args.arena.now in
    let fs = c.loop-key.fields in
    let key = c.in-Some.key.now in
    let value = c.in-Some.value.now in
    let name = c.in_ok-copy-in-Some-text_of.field-0 in
    let put = c.in_ok-push-in-Some-text_of.ensures.ok in
    let own = subst (Each (OwnsPair a)) c.in-Some.ensures.parts c.loop-key.invariant.pairs in
    record {
      same = c.loop-key.invariant.same
          ∙ ap (λ ps. behind_all (fields_in a.held fs) (as_fields (pairs_in a.held ps))) c.in-Some.ensures.parts
          ∙ fields_next a.held fs c.push.new.self name key value c.in-Some.more (c.in-Some-text_of.ensures ∙ ap Some (sym c.in_ok-copy-in-Some-text_of.ensures)) put;
      pairs = own.1;
      owns = subst (OwnsFields a) (sym put) (each_joined (OwnsField a) fs (record { name = name; value = value } ∷ []) c.loop-key.invariant.owns (own.0.1, tt));
    }

pub returns-clause-fields : goal.returns-clause-fields
returns-clause-fields c =
    let a = seen c.args.arena.now in
    let none = none_more c.loop-key.rest (λ h. let some = c.in_default.ensures.found.1 h in absurd (search (rules, some))) in
    c.loop-key.invariant.same ∙ fields_done a.held c.loop-key.fields c.loop-key.rest none
