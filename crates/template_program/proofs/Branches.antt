-- What follows the first branch of an `if`, branch by branch.
use Rattle.std.proofs.Common.{◌≡◌, ℕ, ◌+◌, ◌<◌, length, take, get_or, List, [], ◌∷◌, ◌++◌, ◌||◌, map as each, Option, None, Bool, true, false, refl, sym, ap, ◌∙◌, append_assoc, append-nil}
use Rattle.std.specs.Prelude.{option_map}
use Rattle.std.proofs.lemmas.List.{take_more}
use Rattle.ytt_base.specs.declared.fault.Place.{Place}
use Rattle.ytt_base.specs.Outcomes.{place_at}
use Rattle.code_spec.specs.Code.{Expr}
use Rattle.star_tree.specs.Whole.{expr_of}
use Rattle.template_spec.specs.Template.{Branches, Items, elif_branch, no_branch}
use Rattle.passes_spec.specs.Unbuilt.{unbuilt_branches, unbuilt_items}
use Rattle.template_tree.specs.declared.tree.TElif.{TElif}
use Rattle.template_tree.specs.declared.tree.TElse.{TElse}
use Rattle.template_tree.specs.View.{Onward, branches_of, elif_of, else_of, in_turn, items_of, or_nothing}
use Rattle.template_tree.proofs.Views.{branches_of-last, elif_of-elif}
use Rattle.template_program.proofs.Turns.{or_swap}

-- those up to one, which is the first of them in the text
pub branches_up_to : (file : ℕ) (bs : List TElif) (i left : ℕ) (x : TElif) (last : Option TElse) → i + 1 ≡ left → i < length bs → x ≡ get_or bs i x
    → branches_of file (take left bs) last ≡ elif_branch (place_at file x.place.line) (expr_of file x.test) (items_of file x.body) (branches_of file (take i bs) last)
branches_up_to file bs i left x last e lt here =
    rw (← e) (ap (λ (cs : List TElif). branches_of file cs last) (take_more bs i x lt ∙ ap (λ y. take i bs ++ y ∷ []) (sym here)) ∙ branches_of-last file (take i bs) x last)

or_none : (b : Bool) → (b || false) ≡ b
or_none true = refl
or_none false = refl

or_turned : (a b : Bool) → (a || b) ≡ (b || a)
or_turned true true = refl
or_turned true false = refl
or_turned false true = refl
or_turned false false = refl

-- What holds of branches where it holds of the items of one of them.
module _ (one : Items → Bool) (some : Branches → Bool) (none : some no_branch ≡ false) (step : (p : Place) (x : Expr) (is : Items) (more : Branches) → some (elif_branch p x is more) ≡ (one is || some more)) (file : ℕ) where
  in_one : (x : TElif) (more : Branches) → some (elif_of file x more) ≡ (one (items_of file x.body) || some more)
  in_one x more = ap (λ (f : Onward). some (f more)) (elif_of-elif file x) ∙ step (place_at file x.place.line) (expr_of file x.test) (items_of file x.body) more

  in_others : (b : Bool) (es : List TElif) (m n : Branches) → some m ≡ (b || some n) → some (in_turn (each (elif_of file) es) m) ≡ (b || some (in_turn (each (elif_of file) es) n))
  in_others b [] m n e = e
  in_others b (x ∷ es) m n e =
      in_others b es (elif_of file x m) (elif_of file x n)
      (in_one x m ∙ ap (λ c. one (items_of file x.body) || c) e ∙ or_swap (one (items_of file x.body)) b (some n) ∙ ap (λ c. b || c) (sym (in_one x n)))

  -- the first of branches that are held is the last of the text that has a test
  pub in_first : (x : TElif) (es : List TElif) → some (branches_of file (x ∷ es) None) ≡ (one (items_of file x.body) || some (branches_of file es None))
  in_first x es = in_others (one (items_of file x.body)) es (elif_of file x no_branch) no_branch (in_one x no_branch)

  -- those with a test, and the one where no test holds
  pub in_both : (es : List TElif) (last : Option TElse) → some (branches_of file es last) ≡ (some (branches_of file es None) || some (branches_of file [] last))
  in_both es last =
      let b = some (branches_of file [] last) in
      in_others b es (or_nothing (option_map (else_of file) last)) no_branch (sym (ap (λ c. b || c) none ∙ or_none b))
      ∙ or_turned b (some (branches_of file es None))

unbuilt_one : (file : ℕ) (x : TElif) (m : Branches) → unbuilt_branches (elif_of file x m) ≡ unbuilt_items (items_of file x.body) ++ unbuilt_branches m
unbuilt_one file x m = ap (λ (f : Onward). unbuilt_branches (f m)) (elif_of-elif file x)

unbuilt_before : (file : ℕ) (es : List TElif) (m : Branches)
    → unbuilt_branches (in_turn (each (elif_of file) es) m) ≡ unbuilt_branches (in_turn (each (elif_of file) es) no_branch) ++ unbuilt_branches m
unbuilt_before file [] m = refl
unbuilt_before file (x ∷ es) m =
    let front = unbuilt_branches (in_turn (each (elif_of file) es) no_branch) in
    unbuilt_before file es (elif_of file x m)
    ∙ ap (λ ps. front ++ ps) (unbuilt_one file x m)
    ∙ sym (append_assoc front (unbuilt_items (items_of file x.body)) (unbuilt_branches m))
    ∙ ap (λ ps. ps ++ unbuilt_branches m) (sym (unbuilt_before file es (elif_of file x no_branch) ∙ ap (λ ps. front ++ ps) (unbuilt_one file x no_branch ∙ append-nil (unbuilt_items (items_of file x.body)))))

-- where those with a test aren't built, and the one where no test holds
pub unbuilt_both : (file : ℕ) (es : List TElif) (last : Option TElse) → unbuilt_branches (branches_of file es last) ≡ unbuilt_branches (branches_of file es None) ++ unbuilt_branches (branches_of file [] last)
unbuilt_both file es last = unbuilt_before file es (or_nothing (option_map (else_of file) last))
