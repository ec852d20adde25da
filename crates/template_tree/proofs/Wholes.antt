-- The template of rows, or their first fault.
use Rattle.std.proofs.Common.{◌≡◌, ℕ, suc, List, [], ◌∷◌, ◌++◌, Option, Some, None, Ok, Err, refl, ap, sym, ◌∙◌}
use Rattle.ytt_base.specs.declared.fault.Fault.{Fault}
use Rattle.template_spec.specs.Comments.{ignored, a_note, a_value, statements, opens, elif, otherwise, closes}
use Rattle.template_spec.specs.Nesting.{placed_or}
use Rattle.template_spec.specs.Template.{Items}
use Rattle.template_pass.specs.Building.{Before, Put, built, documents_in, puts, put_row, template_by_levels, waiting}
use Rattle.template_pass.specs.Levels.{Open, behind, fault_by_levels, next_level}
use Rattle.template_pass.specs.Rows.{Row, begins, beside, says}
use Rattle.template_checks.specs.Walk.{mark_level, mark_levels}
use Rattle.template_tree.specs.Marked.{placed_by_levels, put_at, puts_at}

-- ---- what is put

put_marked : (bs : List Open) (next : Option ℕ) (ns : List Before) (r : Row) → put_row bs next ns r ≡ put_at (mark_level bs next r) ns r
put_marked bs next ns (begins d k l key w) = refl
put_marked bs next ns (beside d k b l s) = refl
put_marked bs next ns (says l ignored) = refl
put_marked bs next ns (says l (a_note x es)) = refl
put_marked bs next ns (says l (a_value e)) = refl
put_marked bs next ns (says l (statements is)) = refl
put_marked bs next ns (says l (opens h z)) = refl
put_marked bs next ns (says l (elif e)) = refl
put_marked bs next ns (says l otherwise) = refl
put_marked bs next ns (says l closes) = refl

puts_marked : (bs : List Open) (n : ℕ) (ns : List Before) (rs : List Row) → puts bs n ns rs ≡ puts_at (mark_levels bs n rs) ns rs
puts_marked bs n ns [] = refl
puts_marked bs n ns (r ∷ rs) =
    ap (λ (ps : List Put). ps ++ puts (behind bs (next_level rs) n r) (suc n) (waiting ns r) rs) (put_marked bs (next_level rs) ns r)
    ∙ ap (λ (ps : List Put). put_at (mark_level bs (next_level rs) r) ns r ++ ps) (puts_marked (behind bs (next_level rs) n r) (suc n) (waiting ns r) rs)

-- ---- the whole

pub is_refused : (file : ℕ) (rs : List Row) (f : Fault) → Some f ≡ fault_by_levels file rs → placed_by_levels file rs ≡ Err f
is_refused file rs f e = ap (λ (o : Option Fault). placed_or o (template_by_levels file rs)) (sym e)

pub is_placed : (file : ℕ) (rs : List Row) (levels : List ℕ) (is : Items) → None ≡ fault_by_levels file rs → levels ≡ mark_levels [] 0 rs → is ≡ documents_in file (built file (puts_at levels [] rs))
    → placed_by_levels file rs ≡ Ok is
unfolding template_by_levels
is_placed file rs levels is e marked made =
    ap (λ (o : Option Fault). placed_or o (documents_in file (built file (puts [] 0 [] rs)))) (sym e)
    ∙ ap Ok (ap (λ (ps : List Put). documents_in file (built file ps)) (puts_marked [] 0 [] rs ∙ ap (λ (ds : List ℕ). puts_at ds [] rs) (sym marked)) ∙ sym made)
