-- The load statements of each form of statement.
use Rattle.std.proofs.Common.{◌≡◌, ◌∙◌, ℕ, List, [], ◌∷◌, ◌++◌, Option, ap, sym}
use Rattle.ytt_base.specs.Outcomes.{place_at}
use Rattle.code_spec.specs.Blocks as blocks
use Rattle.star_blocks.proofs.Forms.{of_load}
use Rattle.star_blocks.specs.Nested.{op_of, ops_of}
use Rattle.star_blocks.specs.declared.block.Op as op
use Rattle.star_blocks.specs.declared.block.Op.{Op}
use Rattle.star_blocks.specs.declared.block.Statement as block
use Rattle.star_blocks.specs.declared.block.Statement.{Statement}
use Rattle.star_tree.specs.Whole.{loaded_names_of}
use Rattle.star_tree.specs.declared.code.Loaded.{Loaded}
use Rattle.template_meaning.specs.Files as plain
use Rattle.template_meaning.specs.Files.{op_loads, ops_loads}
use Rattle.file_load.specs.Statements.{loads_in}
use Rattle.file_load.specs.declared.statements.Load.{Load}

module _ (file : ℕ) (s : Statement) where
  abbrev found : List plain.Load
  found = op_loads (op_of file (op.Code s))

  pub no_load : (u : Statement) (x : blocks.Op) → s ≡ u → op_of file (op.Code u) ≡ x → op_loads x ≡ [] → found ≡ []
  no_load u x is form none = ap (λ (t : Statement). op_loads (op_of file (op.Code t))) is ∙ ap op_loads form ∙ none

  pub a_load : (line : ℕ) (t : List ℕ) (xs ys : List Loaded) → s ≡ block.Load line t xs → ys ≡ xs → found ≡ record { place = place_at file line; path = t; names = loaded_names_of ys } ∷ []
  a_load line t xs ys is same =
      ap (λ (u : Statement). op_loads (op_of file (op.Code u))) is ∙ ap op_loads (of_load file line t xs)
      ∙ (λ i. record { place = place_at file line; path = t; names = loaded_names_of (sym same i) } ∷ [])

-- what is left behind one part of a block
pub next_part : (file : ℕ) (all rest os : List Op) (o : Op) (l : Option Load) → ops_loads (ops_of file all) ≡ ops_loads (ops_of file rest) → rest ≡ o ∷ os → op_loads (op_of file o) ≡ loads_in l →
    ops_loads (ops_of file all) ≡ loads_in l ++ ops_loads (ops_of file os)
next_part file all rest os o l e is first = e ∙ ap (λ (ps : List Op). ops_loads (ops_of file ps)) is ∙ ap (λ (ls : List plain.Load). ls ++ ops_loads (ops_of file os)) first
