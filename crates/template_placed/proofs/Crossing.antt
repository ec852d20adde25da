-- Statements and ends in items of blocks that are refused, by computing.
use Rattle.std.proofs.Common.{◌≡◌, true, false, [], ◌∷◌, refl}
use Rattle.ytt_base.specs.declared.fault.FaultKind.TheVariants as kind
use Rattle.ytt_base.specs.declared.fault.Place.{Place}
use Rattle.ytt_base.specs.Outcomes.{fault_at}
use Rattle.code_spec.specs.Code.{Expr, no_loaded, no_parameters, load, return}
use Rattle.code_spec.specs.CodeReading.{if_header, for_header, def_header}
use Rattle.code_spec.specs.Program.{document_item, pair_item, statement}
use Rattle.template_spec.specs.Comments.{opens, closes, statements}
use Rattle.template_spec.specs.Events.{Event, begins, says}
use Rattle.template_spec.specs.Misplaced.{fault_on, placing_fault}
use Rattle.std.specs.Prelude.{List, Some}

module _ (e : Expr) (p : Place) where
  -- an `end` in the text of an item of its block, and a load behind it
  abbrev crossed_load : List Event
  crossed_load =
      begins (0 ∷ []) document_item 1 ∷ says 2 (opens (for_header e e) false) ∷ begins (0 ∷ 0 ∷ []) pair_item 3 ∷ says 4 closes
      ∷ says 5 (statements (statement (load p [] no_loaded) ∷ [])) ∷ begins (0 ∷ 0 ∷ 0 ∷ []) pair_item 6 ∷ []

  refuses_end : placing_fault 0 crossed_load ≡ Some (fault_on 0 kind.BlockStray 4)
  unfolding placing_fault
  refuses_end = refl

  -- an `end` of an inner `def` in the text of its item, and a return behind it
  abbrev crossed_return : List Event
  crossed_return =
      begins (0 ∷ []) document_item 1 ∷ says 2 (opens (def_header [] no_parameters) false) ∷ says 3 (opens (def_header [] no_parameters) false) ∷ begins (0 ∷ 0 ∷ []) pair_item 4 ∷ says 5 closes
      ∷ says 6 (statements (statement (return p e) ∷ [])) ∷ begins (0 ∷ 0 ∷ 0 ∷ []) pair_item 7 ∷ says 8 closes ∷ []

  refuses_inner_end : placing_fault 0 crossed_return ≡ Some (fault_on 0 kind.BlockStray 5)
  unfolding placing_fault
  refuses_inner_end = refl

  -- a `def` for one item whose last item has begun, and a return in a block in that item
  abbrev return_in_one : List Event
  return_in_one =
      begins (0 ∷ []) document_item 1 ∷ says 2 (opens (def_header [] no_parameters) false) ∷ says 3 (opens (def_header [] no_parameters) true) ∷ begins (0 ∷ 0 ∷ []) pair_item 4
      ∷ says 5 (opens (if_header e) false) ∷ begins (0 ∷ 0 ∷ 0 ∷ []) pair_item 6 ∷ says 7 (statements (statement (return p e) ∷ [])) ∷ says 8 closes ∷ says 9 closes ∷ begins (1 ∷ 0 ∷ []) pair_item 10 ∷ []

  refuses_return : placing_fault 0 return_in_one ≡ Some (fault_at kind.CodeForm p)
  unfolding placing_fault
  refuses_return = refl
