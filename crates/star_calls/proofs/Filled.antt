-- What is to be completed after a parameter got its value, or is refused.
use Rattle.std.proofs.Common.{◌≡◌, ◌++◌, length, true, false, List, [], ◌∷◌, Option, Some, None, is_some, refl, sym, ap, ◌∙◌, append-nil, append_assoc}
use Rattle.ytt_base.specs.Outcomes.{fault_at}
use Rattle.ytt_base.specs.declared.fault.FaultKind.TheVariants as kind
use Rattle.ytt_base.specs.declared.fault.Place.{Place}
use Rattle.code_spec.specs.Code.{Expr, Name, Parameters, no_parameters, required, defaulted, bare_star, starred_parameter, double_starred_parameter}
use Rattle.value_spec.specs.Values as plain
use Rattle.value_spec.specs.Values.{Fields, no_fields, a_field, dict_value, no_values, of_dict, tuple_value, values_from}
use Rattle.value_spec.specs.Store.{with_object}
use Rattle.value_spec.specs.Outcomes.{Computation, State, bad, done, give, or_fail, then_do, ◌>>=◌}
use Rattle.value_spec.proofs.Computations.{then_assoc, then_ext}
use Rattle.value_spec.specs.Binding.{Given, given, bound, field_of, in_front, or_default, rest_in_front, text_pairs, values_given}
use Rattle.star_calls.specs.Left.{Rest, completed, got_by, named_behind, need_nothing, positions_behind, rest_behind, taken}

-- the values of these, behind those that were got
abbrev ends : Place → List plain.Value → Option (List (Name × Given)) → Computation (Unit {0}) (List plain.Value)
ends p got o = or_fail kind.ArgBind p o >>= λ bs. values_given bs >>= λ vs. give (got ++ vs)

abbrev Here : Type 0
Here = State (Unit {0})

values_first : (x : Name) (v : plain.Value) (bs : List (Name × Given)) (got : List plain.Value) (s : Here) → then_do (values_given ((x, given v) ∷ bs) s) (λ vs. give (got ++ vs)) ≡ then_do (values_given bs s) (λ vs. give ((got ++ v ∷ []) ++ vs))
values_first x v bs got s =
    then_assoc (values_given bs s) (λ vs. give (v ∷ vs)) (λ vs. give (got ++ vs))
    ∙ then_ext (values_given bs s) (λ vs. give (got ++ v ∷ vs)) (λ vs. give ((got ++ v ∷ []) ++ vs)) (λ vs s. ap (λ l. done l s) (sym (append_assoc got (v ∷ []) vs)))

ends_first : (p : Place) (x : Name) (v : plain.Value) (got : List plain.Value) (o : Option (List (Name × Given))) (s : Here) → ends p got (in_front x (Some v) o) s ≡ ends p (got ++ v ∷ []) o s
ends_first p x v got None s = refl
ends_first p x v got (Some bs) s = values_first x v bs got s

ends_none : (p : Place) (x : Name) (got : List plain.Value) (o : Option (List (Name × Given))) (s : Here) → ends p got (in_front x None o) s ≡ bad (fault_at kind.ArgBind p) s
ends_none p x got None s = refl
ends_none p x got (Some bs) s = refl

-- a dict of what is left comes first
abbrev with_dict : Fields → Here → Here
with_dict fs s = record s { store = with_object (of_dict (text_pairs fs)) s.store }

ends_rest : (p : Place) (x : Name) (fs : Fields) (got : List plain.Value) (o : Option (List (Name × Given))) (s : Here) → true ≡ is_some o →
    ends p got (rest_in_front x fs o) s ≡ ends p (got ++ dict_value (length s.store) ∷ []) o (with_dict fs s)
ends_rest p x fs got None s e = cc
ends_rest p x fs got (Some bs) s e = values_first x (dict_value (length s.store)) bs got (with_dict fs s)

ends_short : (p : Place) (x : Name) (fs : Fields) (got : List plain.Value) (o : Option (List (Name × Given))) (s : Here) → false ≡ is_some o → ends p got (rest_in_front x fs o) s ≡ bad (fault_at kind.ArgBind p) s
ends_short p x fs got None s e = refl
ends_short p x fs got (Some bs) s e = cc

-- ---- parameters of a name

pub taken_some : (p : Place) (x : Name) (d : Option plain.Value) (ps : Parameters) (r new : Rest) (v : plain.Value) (s : Here) → Some v ≡ got_by x d r.positions r.named → new ≡ record (rest_behind x r) { got = r.got ++ v ∷ [] } → taken p x d ps r s ≡ completed p ps new s
taken_some p x d ps r new v s e n =
    ap (λ o. ends p r.got (in_front x o (bound ps r.defaults (values_from (positions_behind r.positions)) (named_behind x r.positions r.named))) s) (sym e)
    ∙ ends_first p x v r.got (bound ps r.defaults (values_from (positions_behind r.positions)) (named_behind x r.positions r.named)) s
    ∙ ap (λ r. completed p ps r s) (sym n)

pub taken_none : (p : Place) (x : Name) (d : Option plain.Value) (ps : Parameters) (r : Rest) (s : Here) → None ≡ got_by x d r.positions r.named → taken p x d ps r s ≡ bad (fault_at kind.ArgBind p) s
taken_none p x d ps r s e =
    ap (λ o. ends p r.got (in_front x o (bound ps r.defaults (values_from (positions_behind r.positions)) (named_behind x r.positions r.named))) s) (sym e)
    ∙ ends_none p x r.got (bound ps r.defaults (values_from (positions_behind r.positions)) (named_behind x r.positions r.named)) s

without_default : (o : Option plain.Value) → or_default o None ≡ o
without_default None = refl
without_default (Some v) = refl

by_position : (p : Place) (x : Name) (ps : Parameters) (vs ds : List plain.Value) (fs : Fields) (got : List plain.Value) (s : Here) → completed p (required x ps) (record { positions = vs; defaults = ds; named = fs; got = got }) s ≡ taken p x None ps (record { positions = vs; defaults = ds; named = fs; got = got }) s
by_position p x ps [] ds fs got s = ap (λ o. ends p got (in_front x o (bound ps ds (values_from []) (named_behind x [] fs))) s) (sym (without_default (field_of x fs)))
by_position p x ps (v ∷ vs) ds fs got s = refl

pub required_taken : (p : Place) (x : Name) (ps : Parameters) (r : Rest) (s : Here) → completed p (required x ps) r s ≡ taken p x None ps r s
required_taken p x ps r s = by_position p x ps r.positions r.defaults r.named r.got s

by_default : (p : Place) (x : Name) (e : Expr) (ps : Parameters) (d : plain.Value) (vs ds : List plain.Value) (fs : Fields) (got : List plain.Value) (s : Here) → completed p (defaulted x e ps) (record { positions = vs; defaults = d ∷ ds; named = fs; got = got }) s ≡ taken p x (Some d) ps (record { positions = vs; defaults = ds; named = fs; got = got }) s
by_default p x e ps d [] ds fs got s = refl
by_default p x e ps d (v ∷ vs) ds fs got s = refl

pub default_taken : (p : Place) (x : Name) (e : Expr) (ps : Parameters) (r : Rest) (d : plain.Value) (ds : List plain.Value) (s : Here) → r.defaults ≡ d ∷ ds → completed p (defaulted x e ps) r s ≡ taken p x (Some d) ps (record r { defaults = ds }) s
default_taken p x e ps r d ds s h =
    ap (λ ds. completed p (defaulted x e ps) (record r { defaults = ds }) s) h ∙ by_default p x e ps d r.positions ds r.named r.got s

pub no_default : (p : Place) (x : Name) (e : Expr) (ps : Parameters) (r : Rest) (s : Here) → r.defaults ≡ [] → completed p (defaulted x e ps) r s ≡ bad (fault_at kind.ArgBind p) s
no_default p x e ps r s h = ap (λ ds. completed p (defaulted x e ps) (record r { defaults = ds }) s) h ∙ ends_lacking r.positions where
  ends_lacking : (vs : List plain.Value) → completed p (defaulted x e ps) (record r { positions = vs; defaults = [] }) s ≡ bad (fault_at kind.ArgBind p) s
  ends_lacking [] = refl
  ends_lacking (v ∷ vs) = refl

-- ---- stars

pub star_passed : (p : Place) (ps : Parameters) (r : Rest) (s : Here) → r.positions ≡ [] → completed p (bare_star ps) r s ≡ completed p ps r s
star_passed p ps r s e =
    ap (λ vs. completed p (bare_star ps) (record r { positions = vs }) s) e ∙ ap (λ vs. completed p ps (record r { positions = vs }) s) (sym e)

pub star_refused : (p : Place) (ps : Parameters) (r : Rest) (s : Here) → (r.positions ≡ [] → ⊥) → completed p (bare_star ps) r s ≡ bad (fault_at kind.ArgBind p) s
star_refused p ps r s h = by r.positions h where
  by : (vs : List plain.Value) → (vs ≡ [] → ⊥) → completed p (bare_star ps) (record r { positions = vs }) s ≡ bad (fault_at kind.ArgBind p) s
  by [] h = absurd (h refl)
  by (v ∷ vs) h = refl

pub star_filled : (p : Place) (x : Name) (ps : Parameters) (r new : Rest) (s : Here) → new ≡ record r { positions = []; got = r.got ++ tuple_value (values_from r.positions) ∷ [] } → completed p (starred_parameter x ps) r s ≡ completed p ps new s
star_filled p x ps r new s e =
    by r.positions ∙ ap (λ r. completed p ps r s) (sym e) where
      by : (vs : List plain.Value) → completed p (starred_parameter x ps) (record r { positions = vs }) s ≡ completed p ps (record r { positions = []; got = r.got ++ tuple_value (values_from vs) ∷ [] }) s
      by [] = ends_first p x (tuple_value (values_from [])) r.got (bound ps r.defaults (values_from []) r.named) s
      by (v ∷ vs) = ends_first p x (tuple_value (values_from (v ∷ vs))) r.got (bound ps r.defaults (values_from []) r.named) s

pub stars_refused : (p : Place) (x : Name) (ps : Parameters) (r : Rest) (s : Here) → (r.positions ≡ [] → ⊥) → completed p (double_starred_parameter x ps) r s ≡ bad (fault_at kind.ArgBind p) s
stars_refused p x ps r s h = by r.positions h where
  by : (vs : List plain.Value) → (vs ≡ [] → ⊥) → completed p (double_starred_parameter x ps) (record r { positions = vs }) s ≡ bad (fault_at kind.ArgBind p) s
  by [] h = absurd (h refl)
  by (v ∷ vs) h = refl

pub stars_short : (p : Place) (x : Name) (ps : Parameters) (r : Rest) (s : Here) → r.positions ≡ [] → false ≡ need_nothing ps r.defaults → completed p (double_starred_parameter x ps) r s ≡ bad (fault_at kind.ArgBind p) s
stars_short p x ps r s e n =
    ap (λ vs. completed p (double_starred_parameter x ps) (record r { positions = vs }) s) e ∙ ends_short p x r.named r.got (bound ps r.defaults no_values no_fields) s n

pub stars_filled : (p : Place) (x : Name) (ps : Parameters) (r new : Rest) (s : Here) → r.positions ≡ [] → true ≡ need_nothing ps r.defaults →
    new ≡ record r { named = no_fields; got = r.got ++ dict_value (length s.store) ∷ [] } → completed p (double_starred_parameter x ps) r s ≡ completed p ps new (record s { store = with_object (of_dict (text_pairs r.named)) s.store })
stars_filled p x ps r new s e n f =
    ap (λ vs. completed p (double_starred_parameter x ps) (record r { positions = vs }) s) e
    ∙ ends_rest p x r.named r.got (bound ps r.defaults no_values no_fields) s n
    ∙ ap (λ vs. completed p ps (record r { positions = vs; named = no_fields; got = r.got ++ dict_value (length s.store) ∷ [] }) (with_dict r.named s)) (sym e)
    ∙ ap (λ r1. completed p ps r1 (with_dict r.named s)) (sym f)

-- ---- the end

pub all_done : (p : Place) (r : Rest) (s : Here) → r.positions ≡ [] → r.named ≡ no_fields → completed p no_parameters r s ≡ done r.got s
all_done p r s e f = ap (λ vs. completed p no_parameters (record r { positions = vs }) s) e ∙ ap (λ fs. completed p no_parameters (record r { positions = []; named = fs }) s) f ∙ ap (λ l. done l s) (append-nil r.got)

pub more_left : (p : Place) (r : Rest) (s : Here) → (r.positions ≡ [] → r.named ≡ no_fields → ⊥) → completed p no_parameters r s ≡ bad (fault_at kind.ArgBind p) s
more_left p r s h = by r.positions r.named h where
  by : (vs : List plain.Value) (fs : Fields) → (vs ≡ [] → fs ≡ no_fields → ⊥) → completed p no_parameters (record r { positions = vs; named = fs }) s ≡ bad (fault_at kind.ArgBind p) s
  by [] no_fields h = absurd (h refl refl)
  by [] (a_field x v fs) h = refl
  by (v ∷ vs) no_fields h = refl
  by (v ∷ vs) (a_field x w fs) h = refl
