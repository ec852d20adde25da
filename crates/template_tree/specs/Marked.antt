-- What rows put whose marks go to known levels, and the template of rows.
use Rattle.std.specs.Prelude.{ℕ, List, [], ◌∷◌, ◌++◌}
use Rattle.ytt_base.specs.Outcomes.{Outcome}
use Rattle.template_spec.specs.Comments.{Said, statements, opens, elif, otherwise, closes}
use Rattle.template_spec.specs.Nesting.{placed_or}
use Rattle.template_spec.specs.Template.{Items}
use Rattle.template_pass.specs.Building.{Before, Put, an_item, put_beside, put_mark, waiting, template_by_levels}
use Rattle.template_pass.specs.Levels.{fault_by_levels}
use Rattle.template_pass.specs.Rows.{Row, begins, beside, says}

abbrev pub said_at : (level line : ℕ) → Said → List Put
said_at d l (statements is) = put_mark d l (statements is) ∷ []
said_at d l (opens h z) = put_mark d l (opens h z) ∷ []
said_at d l (elif e) = put_mark d l (elif e) ∷ []
said_at d l otherwise = put_mark d l otherwise ∷ []
said_at d l closes = put_mark d l closes ∷ []
said_at d l s = []

-- what a row puts whose mark goes to this level, behind these notes
abbrev pub put_at : (level : ℕ) → List Before → Row → List Put
put_at d ns (begins e k l key w) = an_item e k l key w ns ∷ []
put_at d ns (beside e k b l s) = put_beside e l s ∷ []
put_at d ns (says l s) = said_at d l s

abbrev pub puts_at : List ℕ → List Before → List Row → List Put
puts_at (d ∷ ds) ns (r ∷ rs) = put_at d ns r ++ puts_at ds (waiting ns r) rs
puts_at ds ns rs = []

-- ---- the whole

-- the template of rows, or their first fault
abbrev pub placed_by_levels : (file : ℕ) → List Row → Outcome Items
placed_by_levels file rs = placed_or (fault_by_levels file rs) (template_by_levels file rs)
