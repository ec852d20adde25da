use Rattle.std.proofs.Common.{◌∷◌, [], ap, subst, sym, ◌∙◌}
use Rattle.std.proofs.lemmas.List.{nil_from_length}
use Rattle.star_steps.proofs.Names.{NamedValue, OwnsField, OwnsFields, fields_in, seen, value_of}
use Rattle.star_values.proofs.Growing.{each_joined}
use Rattle.value_spec.specs.Values.{a_field}
use Rattle.mod_basic.specs.Walks.{OwnsPairs, fields_from, pairs_of}
use Rattle.mod_basic.proofs.Joining.{followed, followed_by, followed_none}
use Rattle.mod_basic.proofs.fields.fields_of.Goals as goal

pub loop-pair-preserved : goal.loop-pair-preserved
loop-pair-preserved c =
    let a = seen c.args.arena.now in
    let so_far = c.loop-pair.invariant in
    let q = c.in-Some.pair.now in
    let f : NamedValue = record { name = c.in_ok-name.name; value = q.1 } in
    let fs = c.loop-pair.fields in
    let more = fields_from (pairs_of a c.in-Some.more.now) in
    let own = subst (OwnsPairs a) c.in-Some.ensures.cases.0 so_far.rest in
    let pushed = c.in_ok-push.ensures.ok in
    record {
      fields =
          ap (λ gs. followed (fields_in a.held gs) more) pushed
          ∙ followed_by a.held fs (f ∷ []) more
          ∙ ap (λ x. followed (fields_in a.held fs) (a_field x (value_of a q.1) more)) c.in_ok-name.ensures
          ∙ ap (λ ps. followed (fields_in a.held fs) (fields_from (pairs_of a ps))) (sym c.in-Some.ensures.cases.0)
          ∙ so_far.fields;
      owns = subst (OwnsFields a) (sym pushed) (each_joined (OwnsField a) fs (f ∷ []) so_far.owns (own.0.1, tt));
      rest = own.1;
    }

pub returns-clause-fields : goal.returns-clause-fields
returns-clause-fields c =
    let a = seen c.args.arena.now in
    let fs = fields_in a.held c.loop-pair.fields in
    sym (followed_none fs) ∙ ap (λ ps. followed fs (fields_from (pairs_of a ps))) (sym (nil_from_length c.loop-pair.rest.now c.in_default.ensures.cases)) ∙ c.loop-pair.invariant.fields
