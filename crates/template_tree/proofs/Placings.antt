-- Placing is what the passes by levels give.
use Rattle.std.proofs.Common.{◌≡◌, ℕ, Bool, List, Option, Some, None, Result, Ok, Err, IfOk, Vec, Global, refl, ap, sym, ◌∙◌, subst}
use Rattle.ytt_base.specs.declared.fault.Fault.{Fault}
use Rattle.ytt_base.specs.Outcomes.{Gives, Outcome, ◌>>=◌}
use Rattle.ytt_base.specs.declared.fault.Stop.{Stop}
use Rattle.ytt_base.specs.declared.fault.Stop.TheVariants as stop
use Rattle.yaml_spec.specs.Noted.{Documents}
use Rattle.code_spec.specs.CodeReading.{CodeReader}
use Rattle.template_spec.specs.Events.{Event, events}
use Rattle.template_spec.specs.Misplaced.{placing_fault}
use Rattle.template_spec.specs.Nesting.{placed_or, placed_whole}
use Rattle.template_spec.specs.Nesting as nesting
use Rattle.template_pass.specs.Building.{template_by_levels}
use Rattle.template_pass.specs.Rows.{AreRows, Row}
use Rattle.template_pass.proofs.Built.{template-by_levels}
use Rattle.template_pass.proofs.Faults.{first_fault}
use Rattle.yaml_held.specs.Keyed.{KeyedDocuments}
use Rattle.template_spec.specs.Placed.{Placed}
use Rattle.template_placed.proofs.AllPlaced.{all_placed}
use Rattle.template_events.specs.Heard.{HasRows}
use Rattle.template_events.specs.View.{rows_of}
use Rattle.template_events.specs.declared.event.Row as code
use Rattle.template_tree.specs.Marked.{placed_by_levels}
use Rattle.template_tree.specs.View.{template_of}
use Rattle.template_tree.specs.declared.tree.Template.{Template}

same_template : (r : CodeReader) (ignore : Bool) (file : ℕ) (ds : Documents) (es : List Event) (rs : List Row) (o : Option Fault) → events r ignore file ds ≡ Ok es → AreRows ds es rs → placing_fault file es ≡ o
    → placed_or o (template_by_levels file rs) ≡ placed_or o (nesting.template_of file es ds.items)
same_template r ignore file ds es rs (Some f) e a p = refl
same_template r ignore file ds es rs None e a p = ap Ok (template-by_levels r ignore file ds es rs e a p)

-- the rows of the documents give what placing them gives
pub rows_place : (r : CodeReader) (ignore : Bool) (file : ℕ) (ds : Documents) (es : List Event) (rs : List Row) → events r ignore file ds ≡ Ok es → AreRows ds es rs
    → placed_whole r ignore file ds ≡ placed_by_levels file rs
unfolding placed_whole
rows_place r ignore file ds es rs e a =
    ap (λ (o : Outcome (List Event)). o >>= (λ es. placed_or (placing_fault file es) (nesting.template_of file es ds.items))) e
    ∙ sym (same_template r ignore file ds es rs (placing_fault file es) e a refl)
    ∙ ap (λ (o : Option Fault). placed_or o (template_by_levels file rs)) (sym (first_fault r ignore file ds es rs e a))

-- documents whose comments are at fault are placed as that fault
pub fault_places : (r : CodeReader) (ignore : Bool) (file : ℕ) (ds : Documents) (f : Fault) → events r ignore file ds ≡ Err f → placed_whole r ignore file ds ≡ Err f
unfolding placed_whole
fault_places r ignore file ds f e = ap (λ (o : Outcome (List Event)). o >>= (λ es. placed_or (placing_fault file es) (nesting.template_of file es ds.items))) e

-- ---- what the calls give

-- rows that were read are placed as the documents are
pub gives_placed : (r : CodeReader) (ignore : Bool) (file : ℕ) (ds : Documents) (rows : Vec code.Row Global) (result : Result Template Stop) → HasRows (λ (v : Vec code.Row Global). v.items) file ds (Ok rows) (events r ignore file ds)
    → Gives template_of result (placed_by_levels file (rows_of file rows.items)) → Gives template_of result (placed_whole r ignore file ds)
gives_placed r ignore file ds rows result h g = subst (Gives template_of result) (sym (rows_place r ignore file ds h.0 (rows_of file rows.items) h.1 h.2)) g

-- a stop of reading them is one of placing
pub gives_unread : (r : CodeReader) (ignore : Bool) (file : ℕ) (ds : Documents) (s : Stop) → HasRows (λ (v : Vec code.Row Global). v.items) file ds (Err s) (events r ignore file ds) → Gives template_of (Err s) (placed_whole r ignore file ds)
gives_unread r ignore file ds (stop.Fault f) h = fault_places r ignore file ds f h
gives_unread r ignore file ds stop.Memory h = tt

-- the template of documents with keys on pairs alone is placed
pub given_placed : (r : CodeReader) (ignore : Bool) (file : ℕ) (ds : Documents) (result : Result Template Stop) → KeyedDocuments ds → Gives template_of result (placed_whole r ignore file ds) → IfOk result (λ t. Placed (template_of t))
given_placed r ignore file ds (Ok t) k g = all_placed r ignore file ds (template_of t) k g
given_placed r ignore file ds (Err s) k g = tt
