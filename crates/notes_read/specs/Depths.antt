-- How many brackets are open at the end of a comment's code.
use Rattle.std.specs.Prelude.{◌≡◌, ℕ, nat_lt, Bool, false, ◌&&◌, if◌then◌else◌, List, ◌∷◌, ◌++◌, Option, Some, None}
use Rattle.ytt_base.specs.declared.fault.Place.{Place}
use Rattle.yaml_spec.specs.Noted.{is_code, code_in}
use Rattle.code_spec.specs.CodeReading.{CodeReader}
use Rattle.star_grammar.specs.CodeReaders.{IsCodeReader}
use Rattle.star_lines.specs.Depths.{depth_behind}
use Rattle.template_spec.specs.Comments.{without_end}

-- none for what is no code, and where a piece of it is no token; the `/end` of a head counts for nothing
abbrev pub depth_of : (text : List ℕ) → Option ℕ
depth_of text = if is_code text then depth_behind 0 (without_end (code_in text)) else None

abbrev pub some_open : Option ℕ → Bool
some_open None = false
some_open (Some n) = nat_lt 0 n

pub record DepthsTell : Type 0 where
  -- whether a comment may go on
  pub tells : (r : CodeReader) → IsCodeReader r → (place : Place) (text : List ℕ) → (is_code text && r.is_open place (without_end (code_in text))) ≡ some_open (depth_of text)
  -- those behind a comment are those before the code on the line below
  pub goes_on : (text code : List ℕ) (n : ℕ) → depth_of text ≡ Some n → depth_of (text ++ 10 ∷ code) ≡ depth_behind n code
