-- What stands beside the parameters that were read goes on saying it of one more, and where the last gets a default.
use Rattle.std.proofs.Common.{◌≡◌, ℕ, Bool, true, false, ◌||◌, cond, bytes_eq, List, [], ◌∷◌, ◌++◌, refl, sym, ◌∙◌, ap}
use Rattle.std.proofs.Math.Bool.{or_assoc, or_self, or-false, or-true}
use Rattle.std.proofs.lemmas.List.Folds.{list_any-append}
use Rattle.std.specs.List.{list_any}
use Rattle.star_tree.specs.declared.code.Clause.TheOpen.{Param-F}
use Rattle.star_tree.specs.declared.code.Expr.{Expr}
use Rattle.star_tree.specs.declared.code.Param.{Param, out-Param}
use Rattle.star_params.specs.declared.parameters.Parameters.TheInside.{Inside}
use Rattle.star_params.specs.Parameters.{Parameter, name_of_parameter, is_starred, is_double_starred, name_of_one, is_defaulted_one, is_starred_one, is_double_starred_one, has_this_name, with_default, defaulted, defaulted_one}
use Rattle.star_params.specs.Told.{AreTold, IsWithName}

pub put_in : (b a : Bool) → cond b true a ≡ (a || b)
put_in true a = sym (or-true a)
put_in false a = sym (or-false a)

any_more : (f : Param → Bool) (ps : List Param) (q : Param) → list_any f (ps ++ q ∷ []) ≡ (list_any f ps || f q)
any_more f ps q = list_any-append f ps (q ∷ []) ∙ ap (λ b. list_any f ps || b) (or-false (f q))

pub told_more : (p : Inside) (q : Param) (ps : List Param) (x : List ℕ) (names : _) → AreTold p → ps ≡ p.params ++ q ∷ [] → x ≡ name_of_one q → IsWithName p.names x names
    → AreTold (record { params = ps; names = names; starred = p.starred || is_starred_one q; double_starred = p.double_starred || is_double_starred_one q; with_default = p.with_default || is_defaulted_one q })
told_more p q ps x names h e same more =
    record {
      named = λ y. rw (e, more y, same, any_more (has_this_name y) p.params q, h.named y) refl;
      starred = rw (e, any_more is_starred_one p.params q, h.starred) refl;
      double_starred = rw (e, any_more is_double_starred_one p.params q, h.double_starred) refl;
      with_default = rw (e, any_more is_defaulted_one p.params q, h.with_default) refl;
    }

-- ---- a default

pub defaulted_last : (ps : List Param) (p : Param) (e : Expr) → defaulted (ps ++ p ∷ []) e ≡ ps ++ defaulted_one p e ∷ []
defaulted_last [] p e = refl
defaulted_last (q ∷ []) p e = refl
defaulted_last (q ∷ r ∷ ps) p e = ap (λ qs. q ∷ qs) (defaulted_last (r ∷ ps) p e)

record IsLike (q r : Param) : Type 0 where
  name : name_of_one r ≡ name_of_one q
  starred : is_starred_one r ≡ is_starred_one q
  double_starred : is_double_starred_one r ≡ is_double_starred_one q
  kept : (is_defaulted_one q || is_defaulted_one r) ≡ is_defaulted_one r

like_itself : (q : Param) → IsLike q q
like_itself q = record { name = refl; starred = refl; double_starred = refl; kept = or_self (is_defaulted_one q) }

like_level : (f : Parameter) (q : Param) (e : Expr) → out-Param q ≡ f → IsLike q (with_default f e q)
unfolding out-Param denote.Hole.Carrier.out
like_level (Param-F.Required x) q e h = record { name = sym (ap name_of_parameter h); starred = sym (ap is_starred h); double_starred = sym (ap is_double_starred h); kept = or-true (is_defaulted_one q) }
like_level (Param-F.Defaulted x d) q e h = like_itself q
like_level Param-F.BareStar q e h = like_itself q
like_level (Param-F.Starred x) q e h = like_itself q
like_level (Param-F.DoubleStarred x) q e h = like_itself q

-- what a default leaves as it was
defaulted_like : (q : Param) (e : Expr) → IsLike q (defaulted_one q e)
defaulted_like q e = like_level (out-Param q) q e refl

pub told_defaulted : (p : Inside) (rest ps : List Param) (q : Param) (e : Expr) → AreTold p → p.params ≡ rest ++ q ∷ [] → ps ≡ rest ++ defaulted_one q e ∷ []
    → AreTold (record { params = ps; names = p.names; starred = p.starred; double_starred = p.double_starred; with_default = p.with_default || is_defaulted_one (defaulted_one q e) })
told_defaulted p rest ps q e h was is =
    let like = defaulted_like q e in
    record {
      named = λ y. h.named y ∙ replaced (has_this_name y) (ap (λ x. bytes_eq x y) like.name);
      starred = h.starred ∙ replaced is_starred_one like.starred;
      double_starred = h.double_starred ∙ replaced is_double_starred_one like.double_starred;
      with_default =
          rw (h.with_default, was, is, any_more is_defaulted_one rest q, any_more is_defaulted_one rest (defaulted_one q e), or_assoc (list_any is_defaulted_one rest) (is_defaulted_one q) (is_defaulted_one (defaulted_one q e)), like.kept) refl;
    } where
      replaced : (f : Param → Bool) → f (defaulted_one q e) ≡ f q → list_any f p.params ≡ list_any f ps
      replaced f same = rw (was, is, any_more f rest q, any_more f rest (defaulted_one q e), same) refl
