use Rattle.std.proofs.Common.{◌≡◌, ap, arith, false, subst, sym, MatchOption}
use Rattle.std.proofs.lemmas.Str.Pattern.{split_once_first}
use Rattle.text_spec.specs.Fields.{is_shown}
use Rattle.star_text.specs.Formatting.{IsShownAs, IsWhich}
use Rattle.star_text.proofs.Formatting.{with_shown, without_shown}
use Rattle.star_text.proofs.fields.field_in.Goals as goal

pub returns-in-None-clause-which : goal.returns-in-None-clause-which
returns-in-None-clause-which c =
    let none = rw c.in-None.is at (split_once_first 33 c.args.field.now _ c.split_once.ensures.cases (omega arith)) in
    subst (λ f. IsWhich c.which_of.result f.which) (sym (without_shown c.args.field.now none)) c.which_of.ensures

pub returns-in-None-clause-conversion : goal.returns-in-None-clause-conversion
returns-in-None-clause-conversion c =
    let none = rw c.in-None.is at (split_once_first 33 c.args.field.now _ c.split_once.ensures.cases (omega arith)) in
    let k = ap (λ f. f.conversion) (without_shown c.args.field.now none) in
    (ap is_shown k, k)

pub returns-in-Some-clause-which : goal.returns-in-Some-clause-which
returns-in-Some-clause-which c =
    let parts = rw c.in-Some.is at (split_once_first 33 c.args.field.now _ c.split_once.ensures.cases (omega arith)) in
    subst (λ f. IsWhich c.which_of-in-Some.result f.which) (sym (with_shown c.args.field.now c.in-Some.name.now c.in-Some.shown.now parts.0 parts.1 parts.2)) c.which_of-in-Some.ensures

pub returns-in-Some-clause-conversion : goal.returns-in-Some-clause-conversion
returns-in-Some-clause-conversion c =
    let parts = rw c.in-Some.is at (split_once_first 33 c.args.field.now _ c.split_once.ensures.cases (omega arith)) in
    subst (λ f. MatchOption c.conversion_named.result (is_shown f.conversion ≡ false) (IsShownAs f.conversion)) (sym (with_shown c.args.field.now c.in-Some.name.now c.in-Some.shown.now parts.0 parts.1 parts.2)) c.conversion_named.ensures
