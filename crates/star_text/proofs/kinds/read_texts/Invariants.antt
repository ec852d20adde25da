use Rattle.std.proofs.Common.{◌≡◌, ◌++◌, length, option_map}
use Rattle.star_steps.proofs.Names.{OwnsAll, seen, values_of}
use Rattle.text_spec.specs.Signatures.{all_texts}
use Rattle.text_spec.specs.Texts.{texts_of}
use Rattle.star_text.proofs.kinds.read_texts.Given as goal

-- the texts that were read, and then those of the rest
abbrev pub invariant-loop-first : goal.invariant-loop-first
invariant-loop-first l =
    (option_map (λ ts. texts_of l.texts ++ ts) (all_texts (values_of (seen l.arena) l.rest)) ≡ all_texts (values_of (seen l.arena) l.values)) × OwnsAll (seen l.arena) l.rest

abbrev pub decreases-loop-first : goal.decreases-loop-first
decreases-loop-first l = length l.rest
