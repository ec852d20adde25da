-- Texts as they are read from an end.
use Rattle.std.specs.Prelude.{ℕ, List, reverse}
use Rattle.text_spec.specs.Cutting.{each_reversed}
use Rattle.text_words.specs.declared.runs.End.{End}
use Rattle.text_words.specs.declared.runs.End.TheVariants.{Front, Back}

abbrev pub turned : End → List ℕ → List ℕ
turned Front t = t
turned Back t = reverse t

abbrev pub all_turned : End → List (List ℕ) → List (List ℕ)
all_turned Front ts = ts
all_turned Back ts = each_reversed ts
