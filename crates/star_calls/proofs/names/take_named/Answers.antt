use Rattle.std.proofs.Common.{Some, ap, length, subst, sym, ◌∙◌}
use Rattle.star_values.specs.Owns.{OwnsField, OwnsFields}
use Rattle.star_values.specs.View.{fields_in, value_in}
use Rattle.star_values.proofs.Growing.{each_at}
use Rattle.star_values.proofs.Slots.{some_same}
use Rattle.star_calls.specs.Named.{NamedAt, OtherNames}
use Rattle.star_calls.proofs.Named.{each_removed, none_named, one_named}
use Rattle.star_calls.proofs.names.take_named.Goals as goal

pub returns-in-Some : goal.returns-in-Some
returns-in-Some c =
    let fs = c.args.named.now in
    let at = c.in-Some.at in
    let n : NamedAt c.args.name.now fs at = subst (λ fs. NamedAt c.args.name.now fs at) c.as_slice.ensures c.in-Some.ensures in
    let same = some_same n.field c.remove.result (sym n.there ∙ c.remove.ensures.item) in
    record {
      value = λ a. sym ((one_named a.held c.args.name.now fs at n.field n.there n.named n.before).0 ∙ ap (λ f. Some (value_in a.held f.value)) same);
      left = λ a. ap (fields_in a.held) c.remove.ensures.rest ∙ sym (one_named a.held c.args.name.now fs at n.field n.there n.named n.before).1;
      owned = λ a o. (each_at (OwnsField a) fs at c.remove.result o c.remove.ensures.item, subst (OwnsFields a) (sym c.remove.ensures.rest) (each_removed (OwnsField a) fs at o));
    }

pub returns-in-None : goal.returns-in-None
returns-in-None c =
    let fs = c.args.named.now in
    let n : OtherNames c.args.name.now fs (length fs) = subst (λ fs. OtherNames c.args.name.now fs (length fs)) c.as_slice.ensures c.in-None.ensures in
    record {
      value = λ a. sym (none_named a.held c.args.name.now fs n).0;
      left = λ a. sym (none_named a.held c.args.name.now fs n).1;
      owned = λ a o. (tt, o);
    }

pub remove-requires : goal.remove-requires
remove-requires c =
    let n : NamedAt c.args.name.now c.args.named.now c.in-Some.at = subst (λ fs. NamedAt c.args.name.now fs c.in-Some.at) c.as_slice.ensures c.in-Some.ensures in
    n.within
